-- One line of a head after another.
use Rattle.std.proofs.Common.{◌≡◌, ℕ, zero, suc, ◌+◌, ◌-◌, ◌<◌, ◌≤◌, true, false, cond, eqb, List, [], ◌∷◌, length, take, drop, Some, None, Ok, Err, Option, Result, sym, refl, ap, ◌∙◌, one-add, arith, length-drop}
use Rattle.std.proofs.lemmas.List.{drop-drop, take_rest, length-take-le}
use Rattle.std.proofs.lemmas.Bool.{false≢true, le-leb, lt-leb, cond-true, cond-false, and_parts}
use Rattle.head.specs.declared.Fault.{Fault}
use Rattle.head.specs.declared.Fault.TheVariants.{Malformed}
use Rattle.head.specs.Marks.{front, line_end, line_length, with_byte, cut_lines, lines_of}
use Rattle.head.specs.Lines.{Entry, path_of, field_of, join_field, fields_of}
use Rattle.head.specs.Heads.{Table, empty, gathered, end_of, with_path, judged, up_to, head_of}
use Rattle.head.specs.Loops.{with_line, lines_after, and_then}

-- the first line, and those that follow
pub lines_more : (s : List ℕ) → lines_of s ≡ take (line_length s) s ∷ lines_after (drop (line_length s) s)
lines_more [] = refl
lines_more (b ∷ bs) = elim (front line_end (b ∷ bs)) as (λ v. front line_end (b ∷ bs) ≡ v → cond v ([] ∷ cut_lines true bs) (with_byte b (cut_lines false bs)) ≡ take (cond v 0 (1 + line_length bs)) (b ∷ bs) ∷ lines_after (drop (cond v 0 (1 + line_length bs)) (b ∷ bs))) [
  | true ↦ λ e. ap (λ ls. [] ∷ ls) (second bs (and_parts (eqb b 13) (front (10 ∷ []) bs) e).1)
  | false ↦ λ e. ap (with_byte b) (lines_more bs) ∙ ap (λ n. take n (b ∷ bs) ∷ lines_after (drop n (b ∷ bs))) (sym (one-add (line_length bs)))
] refl where
  second : (cs : List ℕ) → front (10 ∷ []) cs ≡ true → cut_lines true cs ≡ lines_after (b ∷ cs)
  second [] e = absurd (false≢true e)
  second (c ∷ cs) e = sym (cond-true _ _ _ (le-leb 2 (suc (suc (length cs))) (omega arith)))

gather-step : (t : Table) (at : ℕ) (f : Option Entry) (rest : Result (List Entry) ℕ) → gathered t (join_field f at rest) ≡ and_then (with_line t at f) (λ t'. gathered t' rest)
gather-step t at None rest = refl
gather-step t at (Some f) (Ok fs) = refl
gather-step t at (Some f) (Err bad) = refl

fields-more : (left at : ℕ) (l : List ℕ) (ls : List (List ℕ)) → 0 < left → fields_of left at (l ∷ ls) ≡ join_field (field_of at l) at (fields_of (left - 1) (at + (length l + 2)) ls)
fields-more zero at l ls h = absurd (omega arith)
fields-more (suc left) at l ls h =
    let same : left ≡ suc left - 1 = omega arith in
    ap (λ m. join_field (field_of at l) at (fields_of m (at + (length l + 2)) ls)) same

-- no line is left
pub lines_none : (xs : List ℕ) (end : ℕ) → length xs - end < 2 → lines_after (drop end xs) ≡ []
lines_none xs end h = cond-false _ _ _ (lt-leb 2 (length (drop end xs)) (simp length-drop (omega arith)))

pub gather_none : (xs : List ℕ) (end left : ℕ) (t : Table) → length xs - end < 2 → gathered t (fields_of left (end + 2) (lines_after (drop end xs))) ≡ Ok t
gather_none xs end left t h = ap (λ ls. gathered t (fields_of left (end + 2) ls)) (lines_none xs end h)

-- the line at end + 2, of n bytes
line_at : (xs : List ℕ) (end n : ℕ) → end + 2 ≤ length xs → n ≡ line_length (drop (end + 2) xs) → lines_after (drop end xs) ≡ take n (drop (end + 2) xs) ∷ lines_after (drop (end + 2 + n) xs)
line_at xs end n h is =
    let at = end + 2 in
    cond-true _ _ _ (le-leb 2 (length (drop end xs)) (simp length-drop (omega arith)))
    ∙ ap lines_of (drop-drop 2 end xs)
    ∙ lines_more (drop at xs)
    ∙ ap (λ m. take m (drop at xs) ∷ lines_after (drop m (drop at xs))) (sym is)
    ∙ ap (λ l. take n (drop at xs) ∷ lines_after l) (drop-drop n at xs)

-- one field too many
pub gather-full : (xs : List ℕ) (end : ℕ) (t : Table) → 2 ≤ length xs - end → gathered t (fields_of 0 (end + 2) (lines_after (drop end xs))) ≡ Err (Malformed (end + 2))
gather-full xs end t h = ap (λ ls. gathered t (fields_of 0 (end + 2) ls)) (line_at xs end _ (omega arith) refl)

-- a line as the code has it, `&body[at..at + n]`, and the lines behind it
pub gather-turn : (xs : List ℕ) (left end n : ℕ) (t : Table) (r : Result Table Fault) → 2 ≤ length xs - end → 0 < left → n ≡ line_length (take (length xs - (end + 2)) (drop (end + 2) xs)) → n ≤ length (take (length xs - (end + 2)) (drop (end + 2) xs)) → r ≡ with_line t (end + 2) (field_of (end + 2) (take (end + 2 + n - (end + 2)) (drop (end + 2) xs))) → gathered t (fields_of left (end + 2) (lines_after (drop end xs))) ≡ and_then r (λ t'. gathered t' (fields_of (left - 1) (end + 2 + n + 2) (lines_after (drop (end + 2 + n) xs))))
gather-turn xs left end n t r h l is few e =
    let at = end + 2 in
    let line = take n (drop at xs) in
    let rest = lines_after (drop (at + n) xs) in
    let is' = is ∙ ap line_length (take_rest xs at) in
    let long : length line ≡ n = length-take-le n (drop at xs) (omega (arith, ap length (take_rest xs at))) in
    let next : at + (length line + 2) ≡ at + n + 2 = omega (arith, long) in
    let back : at + n - at ≡ n = omega arith in
    ap (λ ls. gathered t (fields_of left at ls)) (line_at xs end n (omega arith) is')
    ∙ ap (gathered t) (fields-more left at line rest l)
    ∙ gather-step t at (field_of at line) (fields_of (left - 1) (at + (length line + 2)) rest)
    ∙ ap (λ m. and_then (with_line t at (field_of at line)) (λ t'. gathered t' (fields_of (left - 1) m rest))) next
    ∙ ap (λ s. and_then s (λ t'. gathered t' (fields_of (left - 1) (at + n + 2) rest))) (ap (λ m. with_line t at (field_of at (take m (drop at xs)))) (sym back) ∙ sym e)

-- the head whose empty line begins at n and whose first line has `first` bytes, as the code has its parts
pub head_at : (input : List ℕ) (n first : ℕ) (r : Result ℕ Fault) → r ≡ end_of input → r ≡ Ok n → first ≡ line_length (take n input) → first ≤ length (take n input) → with_path n (path_of (take first (take n input))) (gathered empty (fields_of 64 (first + 2) (lines_after (drop first (take n input))))) ≡ head_of input
unfolding head_of
head_at input n first r e was is few =
    let body = take n input in
    let long : length (take first body) ≡ first = length-take-le first body few in
    let line = take first body in
    let rest = lines_after (drop first body) in
    ap (λ m. with_path n (path_of line) (gathered empty (fields_of 64 (m + 2) rest))) (sym long)
    ∙ ap (λ m. judged n (take m body ∷ lines_after (drop m body))) is
    ∙ ap (judged n) (sym (lines_more body))
    ∙ ap (up_to input) (sym was ∙ e)

pub head-fault : (input : List ℕ) (f : Fault) (r : Result ℕ Fault) → r ≡ end_of input → r ≡ Err f → Err f ≡ head_of input
unfolding head_of
head-fault input f r e was = ap (up_to input) (sym was ∙ e)
