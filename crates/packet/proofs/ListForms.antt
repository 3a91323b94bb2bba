-- A value is a list of protocols exactly where it is written as one.
use Rattle.std.proofs.Common.{◌≡◌, ℕ, zero, suc, ◌<◌, ◌≤◌, Bool, true, false, cond, ◌||◌, eqb, List, [], ◌∷◌, ◌++◌, length, get_or, take, drop, Some, None, Option, sym, refl, ap, ◌∙◌, subst, inl, inr, arith, length-append}
use Rattle.std.proofs.lemmas.List.{take-append-drop, take_at, drop_at, take_all, drop_all, length-take-le, append-nil}
use Rattle.std.proofs.lemmas.List.Sums.{prefix_len-le-length}
use Rattle.std.proofs.lemmas.Bool.{and_left, cases_eq, eqb-true, eqb-false, ne_eqb, cond-false, cases_Bool}
use Rattle.std.specs.List.{prefix_len, list_all}
use Rattle.std.specs.Str.Parse.{digits_value}
use Rattle.text.specs.Bytes.{divider}
use Rattle.text.proofs.Runs.{leading-append, leading-none, leading-all}
use Rattle.ids.specs.Ids.{id_of, both, part_of, site_shape, serial_shape, fits, digits_at}
use Rattle.ids.specs.declared.SessionId.{SessionId}
use Rattle.ids.proofs.Texts.{not-long}
use Rattle.packet.specs.Protocols.{ours, after_with, with_id, ids_from, protocols_of}
use Rattle.packet.specs.Forms.{Link, ListText, any_ours}

or_assoc : (a b c : Bool) → ((a || b) || c) ≡ (a || (b || c))
or_assoc true b c = refl
or_assoc false b c = refl

or-none : (a : Bool) → a ≡ (a || false)
or-none true = refl
or-none false = refl

none-some : {A : Type 0} (x : A) → ◌≡◌ {A = Option A} None (Some x) → ⊥
none-some x e = let w : ◌≡◌ {A = ℕ} 0 1 = cc in omega arith

id-long : (s : List ℕ) (id : SessionId) → id_of s ≡ Some id → length s ≡ 38
id-long s id e = elim (cases_eq (length s) 38) [
  | inl h ↦ h
  | inr h ↦ absurd (none-some id (sym (not-long s h) ∙ e))
]

-- an id begins with a brace, which is no separator
id-first : (s rest : List ℕ) (id : SessionId) → id_of s ≡ Some id → divider (get_or (s ++ rest) 0 0) ≡ false
unfolding id_of
id-first [] rest id e = absurd (omega (arith, id-long [] id e))
id-first (b ∷ s) rest id e = elim (cases_Bool (eqb b 123)) [
  | inl t ↦ ap divider (eqb-true b 123 t)
  | inr t ↦ absurd (none-some id (sym (ap (λ o. both o (part_of serial_shape (drop 19 (b ∷ s)))) (cond-false (fits site_shape (take 19 (b ∷ s))) (Some (digits_value 16 (digits_at site_shape (take 19 (b ∷ s))))) None (and_left (eqb b 123) _ t))) ∙ e))
]

list-first : (v : List ℕ) (ids : List SessionId) → ListText v ids → divider (get_or v 0 0) ≡ false
list-first v [] h = absurd h
list-first v (id ∷ []) h = subst (λ l. divider (get_or l 0 0) ≡ false) (append-nil v) (id-first v [] id h)
list-first v (id ∷ next ∷ ids) h = ap (λ l. divider (get_or l 0 0)) h.0.is ∙ id-first h.0.text (h.0.gap ++ h.0.rest) id h.0.reads

list-long : (v : List ℕ) (ids : List SessionId) → ListText v ids → 38 ≤ length v
list-long v [] h = absurd h
list-long v (id ∷ []) h = omega (arith, id-long v id h)
list-long v (id ∷ next ∷ ids) h = omega (arith, ap length h.0.is, length-append h.0.text (h.0.gap ++ h.0.rest), id-long h.0.text id h.0.reads)

after-gap : (next : List ℕ → Option Bool) (found : Bool) (gap rest : List ℕ) → 0 < length gap → list_all divider gap ≡ true → divider (get_or rest 0 0) ≡ false → after_with next found (gap ++ rest) ≡ next rest
after-gap next found [] rest some all other = absurd (omega arith)
after-gap next found (x ∷ gap) rest some all other =
    let g = x ∷ gap in
    let long : prefix_len divider (g ++ rest) ≡ length g = leading-append divider g rest all ∙ omega (arith, leading-none divider rest other) in
    ap (λ k. cond (eqb k 0) None (next (drop k (g ++ rest)))) long
    ∙ cond-false (eqb (length g) 0) None (next (drop (length g) (g ++ rest))) (ne_eqb (length g) 0 (λ h. omega arith))
    ∙ ap next (drop_at g rest (length g) refl)

pub list-complete : (ids : List SessionId) (f : ℕ) (found : Bool) (v : List ℕ) → ListText v ids → length v ≤ f → ids_from f found v ≡ Some (found || any_ours ids)
list-complete [] f found v h few = absurd h
list-complete (id ∷ ids) zero found v h few = absurd (omega (arith, list-long v (id ∷ ids) h))
list-complete (id ∷ []) (suc f) found v h few =
    let long = id-long v id h in
    ap (λ l. with_id (ids_from f) (id_of l) found (drop 38 v)) (take_all 38 v (omega arith))
    ∙ ap (λ o. with_id (ids_from f) o found (drop 38 v)) h
    ∙ ap (λ l. after_with (ids_from f (found || ours id)) (found || ours id) l) (drop_all 38 v (omega arith))
    ∙ ap (λ b. Some (found || b)) (or-none (ours id))
list-complete (id ∷ next ∷ ids) (suc f) found v h few =
    let l = h.0 in
    let tail = l.gap ++ l.rest in
    let long = id-long l.text id l.reads in
    let now-found = found || ours id in
    ap (λ w. with_id (ids_from f) (id_of (take 38 w)) found (drop 38 w)) l.is
    ∙ ap (λ w. with_id (ids_from f) (id_of w) found (drop 38 (l.text ++ tail))) (take_at l.text tail 38 long)
    ∙ ap (λ w. with_id (ids_from f) (id_of l.text) found w) (drop_at l.text tail 38 long)
    ∙ ap (λ o. with_id (ids_from f) o found tail) l.reads
    ∙ after-gap (ids_from f now-found) now-found l.gap l.rest l.parted l.dividers (list-first l.rest (next ∷ ids) h.1)
    ∙ list-complete (next ∷ ids) f now-found l.rest h.1 (omega (arith, ap length l.is, length-append l.text tail, length-append l.gap l.rest))
    ∙ ap Some (or_assoc found (ours id) (any_ours (next ∷ ids)))

-- the ids of a list that was read
record Told (v : List ℕ) (found b : Bool) : Type 0 where
  ids : List SessionId
  reads : ListText v ids
  told : b ≡ (found || any_ours ids)

cond-none : {A : Type 0} (t : Bool) (x : Option A) (b : A) → cond t None x ≡ Some b → (t ≡ false) × (x ≡ Some b)
cond-none true x b e = absurd (none-some b e)
cond-none false x b e = (refl, e)

told-link : (v : List ℕ) (id : SessionId) (found b : Bool) (k : ℕ) → id_of (take 38 v) ≡ Some id → k ≡ prefix_len divider (drop 38 v) → (k ≡ 0 → ⊥) → Told (drop k (drop 38 v)) (found || ours id) b → Told v found b
told-link v id found b k reads k-is some r = more r.ids r.reads r.told where
  t : List ℕ
  t = drop 38 v

  link : Link v id
  link = record {
    text = take 38 v;
    gap = take k t;
    rest = drop k t;
    is = sym (take-append-drop 38 v) ∙ ap (λ l. take 38 v ++ l) (sym (take-append-drop k t));
    reads = reads;
    parted = omega (arith, length-take-le k t (omega (arith, prefix_len-le-length divider t)), some);
    dividers = ap (λ n. list_all divider (take n t)) k-is ∙ leading-all divider t;
  }

  more : (ids : List SessionId) → ListText (drop k t) ids → b ≡ ((found || ours id) || any_ours ids) → Told v found b
  more [] h e = absurd h
  more (next ∷ ids) h e = record { ids = id ∷ next ∷ ids; reads = (link, h); told = e ∙ or_assoc found (ours id) (any_ours (next ∷ ids)) }

told-after : (v t : List ℕ) (id : SessionId) (f : ℕ) (found b : Bool) → id_of (take 38 v) ≡ Some id → drop 38 v ≡ t → ((w : List ℕ) → ids_from f (found || ours id) w ≡ Some b → Told w (found || ours id) b) → after_with (ids_from f (found || ours id)) (found || ours id) t ≡ Some b → Told v found b
told-after v [] id f found b reads t-is ih e =
    let whole : v ≡ take 38 v = sym (take-append-drop 38 v) ∙ ap (λ l. take 38 v ++ l) t-is ∙ append-nil (take 38 v) in
    let same : (found || ours id) ≡ b = cc e in
    record { ids = id ∷ []; reads = ap id_of whole ∙ reads; told = sym same ∙ ap (λ x. found || x) (or-none (ours id)) }
told-after v (x ∷ t) id f found b reads t-is ih e =
    let k = prefix_len divider (x ∷ t) in
    let p = cond-none (eqb k 0) (ids_from f (found || ours id) (drop k (x ∷ t))) b e in
    told-link v id found b k reads (ap (prefix_len divider) (sym t-is)) (eqb-false k 0 p.0) (ih (drop k (drop 38 v)) (ap (λ l. ids_from f (found || ours id) (drop k l)) t-is ∙ p.1))

told-id : (v : List ℕ) (o : Option SessionId) (f : ℕ) (found b : Bool) → id_of (take 38 v) ≡ o → ((c : Bool) (w : List ℕ) → ids_from f c w ≡ Some b → Told w c b) → with_id (ids_from f) o found (drop 38 v) ≡ Some b → Told v found b
told-id v None f found b reads ih e = absurd (none-some b e)
told-id v (Some id) f found b reads ih e = told-after v (drop 38 v) id f found b reads refl (λ w. ih (found || ours id) w) e

list-told : (f : ℕ) (found : Bool) (v : List ℕ) (b : Bool) → ids_from f found v ≡ Some b → Told v found b
list-told zero found v b e = absurd (none-some b e)
list-told (suc f) found v b e = told-id v (id_of (take 38 v)) f found b refl (λ c w h. list-told f c w b h) e

pub list-sound : (v : List ℕ) (b : Bool) → protocols_of v ≡ Some b → (ids : List SessionId) × ListText v ids × (b ≡ any_ours ids)
unfolding protocols_of
list-sound v b e = let t = list-told (length v) false v b e in (t.ids, t.reads, t.told)

pub list-reads : (v : List ℕ) (ids : List SessionId) (b : Bool) → ListText v ids → b ≡ any_ours ids → protocols_of v ≡ Some b
unfolding protocols_of
list-reads v ids b h e = list-complete ids (length v) false v h (omega arith) ∙ ap Some (sym e)
