-- An input reads as a head exactly where it begins with one, and what does not matter to it.
use Rattle.std.proofs.Common.{◌≡◌, ℕ, ◌+◌, ◌-◌, ◌<◌, ◌≤◌, true, false, cond, ◌&&◌, ltb, leb, List, [], ◌∷◌, ◌++◌, map, length, take, drop, IfOk, Some, None, Ok, Err, codes, fold, Option, Result, sym, refl, ap, ◌∙◌, subst, append_assoc, arith, length-append, length-take}
use Rattle.std.specs.List.{list_all}
use Rattle.std.proofs.lemmas.Slice.Eq.{bytes_eq-Decides}
use Rattle.std.proofs.lemmas.List.{take-append-drop, take_at, take_all}
use Rattle.std.proofs.lemmas.Bool.{and_parts, ltb-true, cond-true}
use Rattle.std.specs.Char.{to_ascii_lowercase}
use Rattle.std.specs.Str.{bytes_eq}
use Rattle.text.specs.Bytes.{visible}
use Rattle.text.specs.Words.{same_letters}
use Rattle.text.proofs.Runs.{all_append, all-weaker}
use Rattle.head.specs.declared.Head.{Head}
use Rattle.head.specs.declared.Fault.{Fault}
use Rattle.head.specs.declared.Fault.TheVariants.{Unfinished, Malformed}
use Rattle.head.specs.declared.fields.Name.{Name}
use Rattle.head.specs.Marks.{head_mark, mark_from, lines_of}
use Rattle.head.specs.Lines.{Entry, request_of, middle, good_path, path_of, fields_of}
use Rattle.head.specs.Heads.{Reading, Table, name_of, kept_as, kept, empty, gathered, in_time, end_of, unrepeated, with_table, with_path, judged, up_to, head_of, reading, seen, slot_of}
use Rattle.head.specs.Grammar.{FieldLines, join_lines, Sole, Parts, WellFormed, Recased}
use Rattle.head.proofs.Soles.{known-sole, sole-known}
use Rattle.head.specs.Laws.{Exact, NoHead, Fenced, Caseless}
use Rattle.head.proofs.Requests.{path-is}
use Rattle.head.proofs.FieldForms.{cond-some, fields-sound, fields-complete}
use Rattle.head.proofs.Joins.{not_cr, not-cr, lines-clean, lines_join, mark-join, join-lines, mark-sound, mark-none, mark-again, take-front}

-- the first 8,192 bytes around an end
seen-part : (input body rest : List ℕ) → input ≡ body ++ (head_mark ++ rest) → length body + 4 ≤ 8192 → take 8192 input ≡ body ++ (head_mark ++ take (8192 - (length body + 4)) rest)
seen-part input body rest is soon =
    let u = body ++ head_mark in
    let far : length u ≤ 8192 = omega (arith, length-append body head_mark) in
    let same : 8192 - length u ≡ 8192 - (length body + 4) = omega (arith, length-append body head_mark) in
    ap (take 8192) (is ∙ sym (append_assoc body head_mark rest)) ∙ take-front u rest 8192 far ∙ append_assoc body head_mark (take (8192 - length u) rest) ∙ ap (λ k. body ++ (head_mark ++ take k rest)) same

-- the end that was found, and what stands around it
record Ended (input : List ℕ) (n : ℕ) : Type 0 where
  body : List ℕ
  rest : List ℕ
  is : input ≡ body ++ (head_mark ++ rest)
  long : n ≡ length body
  soon : length body + 4 ≤ 8192
  found : mark_from head_mark 0 (body ++ (head_mark ++ take (8192 - (length body + 4)) rest)) ≡ Some (0 + length body)

in-time-ok : (input : List ℕ) (o : Option ℕ) (n : ℕ) → in_time input o ≡ Ok n → o ≡ Some n
in-time-ok input (Some m) n e = let same : m ≡ n = cc in ap Some same
in-time-ok input None n e = elim (ltb (length input) 8192) as (λ v. cond v (Err Unfinished) (Err (Malformed 0)) ≡ Ok n → None ≡ Some n) [
  | true ↦ λ f. absurd (let z : ◌≡◌ {A = ℕ} 0 1 = cc in omega arith)
  | false ↦ λ f. absurd (let z : ◌≡◌ {A = ℕ} 0 1 = cc in omega arith)
] e

ended_by : (input : List ℕ) (n : ℕ) (body tail : List ℕ) → mark_from head_mark 0 (take 8192 input) ≡ Some n → take 8192 input ≡ body ++ (head_mark ++ tail) → n ≡ 0 + length body → Ended input n
ended_by input n body tail some is n-is =
    let rest = tail ++ drop 8192 input in
    let soon : length body + 4 ≤ 8192 = omega (arith, ap length is, length-append body (head_mark ++ tail), length-take 8192 input) in
    let whole : input ≡ body ++ (head_mark ++ rest) = sym (take-append-drop 8192 input) ∙ ap (λ l. l ++ drop 8192 input) is ∙ append_assoc body (head_mark ++ tail) (drop 8192 input) in
    record { body = body; rest = rest; is = whole; long = omega arith; soon = soon; found = sym (ap (mark_from head_mark 0) (seen-part input body rest whole soon)) ∙ some ∙ ap Some n-is }

ended : (input : List ℕ) (n : ℕ) → end_of input ≡ Ok n → Ended input n
unfolding end_of
ended input n e =
    let some = in-time-ok input (mark_from head_mark 0 (take 8192 input)) n e in
    let p = mark-sound head_mark 0 (take 8192 input) n some in
    ended_by input n p.0 p.1 some p.2 p.3

-- the same end, from its parts
end_is : (input body rest : List ℕ) → input ≡ body ++ (head_mark ++ rest) → length body + 4 ≤ 8192 → mark_from head_mark 0 (body ++ (head_mark ++ take (8192 - (length body + 4)) rest)) ≡ Some (0 + length body) → end_of input ≡ Ok (length body)
unfolding end_of
end_is input body rest is soon found = ap (λ l. in_time input (mark_from head_mark 0 l)) (seen-part input body rest is soon) ∙ ap (in_time input) found ∙ ap Ok (omega arith)

body_is : (input body rest : List ℕ) (n : ℕ) → input ≡ body ++ (head_mark ++ rest) → n ≡ length body → take n input ≡ body
body_is input body rest n is long = ap (take n) is ∙ take_at body (head_mark ++ rest) n (sym long)

request-clean : (path : List ℕ) → good_path path ≡ true → list_all not_cr (request_of path) ≡ true
request-clean path good =
    let p = and_parts _ (leb (length path) 128 && list_all visible path) good in
    let q = and_parts (leb (length path) 128) (list_all visible path) p.1 in
    let v = all-weaker visible not_cr path (not-cr visible refl) q.1 in
    all_append not_cr (codes "BITS_POST ") (path ++ codes " HTTP/1.1") refl (all_append not_cr path (codes " HTTP/1.1") v refl)

-- a head of the grammar reads as its path and its known fields
pub parts-read : (input path : List ℕ) (fields : List Entry) (size n : ℕ) → Parts input path fields size → size ≡ n + 4 → head_of input ≡ with_table path n (Ok (fold kept empty fields))
unfolding head_of
parts-read input path fields size n p size_is =
    let request = request_of path in
    let body = join_lines (request ∷ p.lines) in
    let clean = request-clean path p.good in
    let cleans = lines-clean (length request + 2) p.lines fields p.hold in
    let n-is : n ≡ length body = omega (arith, p.sized) in
    let end = end_is input body p.rest p.is (omega (arith, p.sized, p.in-time)) (mark-join request p.lines (take (8192 - (length body + 4)) p.rest) clean cleans ∙ ap Some (omega arith)) in
    ap (up_to input) (end ∙ ap Ok (sym n-is))
    ∙ ap (λ b. judged n (lines_of b)) (body_is input body p.rest n p.is n-is)
    ∙ ap (judged n) (lines_join request p.lines clean cleans)
    ∙ ap (λ o. with_path n o (gathered empty (fields_of 64 (length request + 2) p.lines))) (sym (path-is request path refl) ∙ cond-true (good_path path) (Some path) None p.good)
    ∙ ap (λ r. with_path n (Some path) (gathered empty r)) (fields-complete 64 (length request + 2) p.lines fields p.hold p.few)

complete : (input : List ℕ) (v : Reading) → WellFormed input v → head_of input ≡ Ok v
complete input v w =
    let n = length (join_lines (request_of v.path ∷ w.parts.lines)) in
    parts-read input v.path w.fields v.size n w.parts w.parts.sized
    ∙ ap (λ t. with_table v.path n (Ok t)) (sym (sole-known w.fields v.table w.known w.once))
    ∙ ap (λ o. unrepeated v.path n o v.table) w.once
    ∙ ap (λ k. Ok (record { path = v.path; table = v.table; size = k })) (sym w.parts.sized)

ended-head : (input : List ℕ) (r : Result ℕ Fault) (v : Reading) → up_to input r ≡ Ok v → (n : ℕ) × (r ≡ Ok n) × (judged n (lines_of (take n input)) ≡ Ok v)
ended-head input (Ok n) v e = (n, refl, e)
ended-head input (Err f) v e = absurd (let z : ◌≡◌ {A = ℕ} 0 1 = cc in omega arith)

pathed : (n : ℕ) (o : Option (List ℕ)) (t : Result Table Fault) (v : Reading) → with_path n o t ≡ Ok v → (path : List ℕ) × (o ≡ Some path) × (with_table path n t ≡ Ok v)
pathed n None t v e = absurd (let z : ◌≡◌ {A = ℕ} 0 1 = cc in omega arith)
pathed n (Some path) t v e = (path, refl, e)

tabled-head : (path : List ℕ) (n : ℕ) (t : Result Table Fault) (v : Reading) → with_table path n t ≡ Ok v → (k : Table) × (t ≡ Ok k) × (unrepeated path n k.repeated k ≡ Ok v)
tabled-head path n (Ok k) v e = (k, refl, e)
tabled-head path n (Err f) v e = absurd (let z : ◌≡◌ {A = ℕ} 0 1 = cc in omega arith)

once-head : (path : List ℕ) (n : ℕ) (o : Option ℕ) (k : Table) (v : Reading) → unrepeated path n o k ≡ Ok v → (o ≡ None) × (record { path = path; table = k; size = n + 4 } ≡ v)
once-head path n None k v e = (refl, cc)
once-head path n (Some at) k v e = absurd (let z : ◌≡◌ {A = ℕ} 0 1 = cc in omega arith)

gathered-all : (r : Result (List Entry) ℕ) (k : Table) → gathered empty r ≡ Ok k → (fs : List Entry) × (r ≡ Ok fs) × (fold kept empty fs ≡ k)
gathered-all (Ok fs) k e = (fs, refl, cc)
gathered-all (Err at) k e = absurd (let z : ◌≡◌ {A = ℕ} 0 1 = cc in omega arith)

path-sound : (line path : List ℕ) → path_of line ≡ Some path → (line ≡ request_of path) × (good_path path ≡ true)
unfolding path_of
path-sound line path e =
    let p = cond-some (bytes_eq line (request_of (middle line)) && good_path (middle line)) (Some (middle line)) path e in
    let q = and_parts (bytes_eq line (request_of (middle line))) (good_path (middle line)) p.0 in
    let mid : middle line ≡ path = cc p.1 in
    ((bytes_eq-Decides line (request_of (middle line))).0 q.0 ∙ ap request_of mid, sym (ap good_path mid) ∙ q.1)

-- the parts of a head that was read
read-parts : (input line : List ℕ) (lines : List (List ℕ)) (path : List ℕ) (n : ℕ) (fs : List Entry) → Ended input n → lines_of (take n input) ≡ line ∷ lines → path_of line ≡ Some path → fields_of 64 (length line + 2) lines ≡ Ok fs → Parts input path fs (n + 4)
read-parts input line lines path n fs end cut p f =
    let pth = path-sound line path p in
    let body-joined : end.body ≡ join_lines (request_of path ∷ lines) = sym (body_is input end.body end.rest n end.is end.long) ∙ sym (join-lines (take n input)) ∙ ap join_lines (cut ∙ ap (λ l. l ∷ lines) pth.0) in
    let fields = fields-sound 64 (length line + 2) lines fs f in
    record {
      lines = lines;
      rest = end.rest;
      is = end.is ∙ ap (λ b. b ++ (head_mark ++ end.rest)) body-joined;
      good = pth.1;
      hold = subst (λ l. FieldLines (length l + 2) lines fs) pth.0 fields.0;
      few = fields.1;
      sized = ap (λ b. b + 4) (end.long ∙ ap length body-joined);
      in-time = omega (arith, end.long, end.soon);
    }

judged-parts : (input : List ℕ) (n : ℕ) (ls : List (List ℕ)) (v : Reading) → Ended input n → lines_of (take n input) ≡ ls → judged n ls ≡ Ok v → WellFormed input v
judged-parts input n [] v end cut e = absurd (let z : ◌≡◌ {A = ℕ} 0 1 = cc in omega arith)
judged-parts input n (line ∷ lines) v end cut e =
    let p = pathed n (path_of line) (gathered empty (fields_of 64 (length line + 2) lines)) v e in
    let t = tabled-head p.0 n (gathered empty (fields_of 64 (length line + 2) lines)) v p.2 in
    let g = gathered-all (fields_of 64 (length line + 2) lines) t.0 t.1 in
    let o = once-head p.0 n t.0.repeated t.0 v t.2 in
    let parts = read-parts input line lines p.0 n g.0 end cut p.1 g.1 in
    let same = g.2 in
    let once-here : (fold kept empty g.0).repeated ≡ None = ap (λ k. k.repeated) same ∙ o.0 in
    let sole : (m : Name) → Sole m g.0 (slot_of t.0 m) = λ m. subst (λ k. Sole m g.0 (slot_of k m)) same (known-sole g.0 once-here m) in
    subst (WellFormed input) o.1 (record { fields = g.0; parts = parts; known = sole; once = o.0 })

sound : (input : List ℕ) (v : Reading) → head_of input ≡ Ok v → WellFormed input v
unfolding head_of
sound input v e =
    let p = ended-head input (end_of input) v e in
    judged-parts input p.0 (lines_of (take p.0 input)) v (ended input p.0 p.1) refl p.2

pub exact : (input : List ℕ) → Exact input (head_of input)
exact input = record {
  sound = sound input;
  complete = complete input;
  unique = λ v w p q. let e = sym (complete input v p) ∙ complete input w q in cc;
}

-- a head lies in its input
pub size-within : (input : List ℕ) (r : Result Head Fault) → seen r ≡ head_of input → IfOk r (λ h. h.size ≤ length input)
size-within input (Ok h) e =
    let p = (sound input (reading h) (sym e)).parts in
    omega (arith, p.sized, ap length p.is, length-append (join_lines (request_of h.path.now ∷ p.lines)) (head_mark ++ p.rest))
size-within input (Err f) e = tt

-- no head is called unfinished once its end was found
not-unfinished : (n : ℕ) (ls : List (List ℕ)) → judged n ls ≡ Err Unfinished → ⊥
not-unfinished n [] e = let z : ◌≡◌ {A = ℕ} 0 1 = cc in omega arith
not-unfinished n (line ∷ lines) e = with-path (path_of line) (fields_of 64 (length line + 2) lines) e where
  with-once : (path : List ℕ) (o : Option ℕ) (k : Table) → unrepeated path n o k ≡ Err Unfinished → ⊥
  with-once path None k f = let z : ◌≡◌ {A = ℕ} 0 1 = cc in omega arith
  with-once path (Some at) k f = let z : ◌≡◌ {A = ℕ} 0 1 = cc in omega arith

  with-path : (o : Option (List ℕ)) (r : Result (List Entry) ℕ) → with_path n o (gathered empty r) ≡ Err Unfinished → ⊥
  with-path None r f = let z : ◌≡◌ {A = ℕ} 0 1 = cc in omega arith
  with-path (Some path) (Ok fs) f = with-once path (fold kept empty fs).repeated (fold kept empty fs) f
  with-path (Some path) (Err at) f = let z : ◌≡◌ {A = ℕ} 0 1 = cc in omega arith

unfinished-end : (input : List ℕ) (r : Result ℕ Fault) → up_to input r ≡ Err Unfinished → r ≡ Err Unfinished
unfinished-end input (Ok n) e = absurd (not-unfinished n (lines_of (take n input)) e)
unfinished-end input (Err f) e = let same : f ≡ Unfinished = cc in ap Err same

unfinished-mark : (input : List ℕ) (o : Option ℕ) → in_time input o ≡ Err Unfinished → (length input < 8192) × (o ≡ None)
unfinished-mark input (Some n) e = absurd (let z : ◌≡◌ {A = ℕ} 0 1 = cc in omega arith)
unfinished-mark input None e = elim (ltb (length input) 8192) as (λ v. ltb (length input) 8192 ≡ v → ◌≡◌ {A = Result ℕ Fault} (cond v (Err Unfinished) (Err (Malformed 0))) (Err Unfinished) → (length input < 8192) × (◌≡◌ {A = Option ℕ} None None)) [
  | true ↦ λ t f. (ltb-true (length input) 8192 t, refl)
  | false ↦ λ t f. absurd (let z : ◌≡◌ {A = ℕ} 0 1 = cc in omega arith)
] refl e

pub no-head : (input : List ℕ) → NoHead input (head_of input)
unfolding head_of end_of
no-head input e =
    let m = unfinished-mark input (mark_from head_mark 0 (take 8192 input)) (unfinished-end input (end_of input) e) in
    (m.0, λ a b h. mark-none 13 (10 ∷ 13 ∷ 10 ∷ []) 0 (take 8192 input) m.1 a b (take_all 8192 input (omega (arith, m.0)) ∙ h))

pub fenced : (input : List ℕ) → Fenced input (head_of input)
unfolding head_of
fenced input n other e =
    let end = ended input n e in
    let body = end.body in
    let front-is : take (n + 4) input ≡ body ++ head_mark = ap (take (n + 4)) (end.is ∙ sym (append_assoc body head_mark end.rest)) ∙ take_at (body ++ head_mark) end.rest (n + 4) (length-append body head_mark ∙ ap (λ k. k + 4) (sym end.long)) in
    let is : take (n + 4) input ++ other ≡ body ++ (head_mark ++ other) = ap (λ l. l ++ other) front-is ∙ append_assoc body head_mark other in
    let there = end_is (take (n + 4) input ++ other) body other is end.soon (mark-again head_mark body (take (8192 - (length body + 4)) end.rest) (take (8192 - (length body + 4)) other) 0 (omega arith) end.found) in
    ap (up_to (take (n + 4) input ++ other)) (there ∙ ap Ok (sym end.long))
    ∙ ap (λ b. judged n (lines_of b)) (body_is (take (n + 4) input ++ other) body other n is end.long ∙ sym (body_is input body end.rest n end.is end.long))
    ∙ sym (ap (up_to input) e)

-- a name is known by its small letters
pub named-alike : (a b : List ℕ) → map to_ascii_lowercase a ≡ map to_ascii_lowercase b → name_of a ≡ name_of b
unfolding name_of same_letters
named-alike a b e = rw e

kept-alike : (fs gs : List Entry) (t : Table) → Recased fs gs → fold kept t fs ≡ fold kept t gs
kept-alike [] [] t h = refl
kept-alike [] (g ∷ gs) t h = absurd h
kept-alike (f ∷ fs) [] t h = absurd h
kept-alike (f ∷ fs) (g ∷ gs) t h =
    let one : kept t f ≡ kept t g = ap (λ o. kept_as t o (record { at = f.at; value = f.value })) (named-alike f.name g.name h.2) ∙ ap (λ a. kept_as t (name_of g.name) (record { at = a; value = f.value })) h.0 ∙ ap (λ v. kept_as t (name_of g.name) (record { at = g.at; value = v })) h.1 in
    ap (λ k. fold kept k fs) one ∙ kept-alike fs gs (kept t g) h.3

pub caseless : (input : List ℕ) → Caseless input (head_of input)
caseless input path other fs gs size p q h =
    let n = length (join_lines (request_of path ∷ p.lines)) in
    parts-read other path gs size n q p.sized ∙ ap (λ t. with_table path n (Ok t)) (sym (kept-alike fs gs empty h)) ∙ sym (parts-read input path fs size n p p.sized)
