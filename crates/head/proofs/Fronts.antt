-- A list that begins with another: the test and the fact.
use Rattle.std.proofs.Common.{◌≡◌, ℕ, zero, suc, ◌+◌, ◌<◌, ◌≤◌, Bool, true, false, eqb, List, [], ◌∷◌, ◌++◌, length, get_or, drop, None, sym, refl, ap, ◌∙◌, arith, length-drop, rules}
use Rattle.std.proofs.lemmas.List.{at_drop_more, get_or-drop, drop_more}
use Rattle.std.proofs.lemmas.Bool.{eqb-true, eq-eqb, ne_eqb, and_parts, and_from, and_left, and_right, cond-false}
use Rattle.head.specs.Marks.{front, line_end, head_mark, mark_from, line_length}

pub front-is : (p s : List ℕ) → front p s ≡ true → s ≡ p ++ drop (length p) s
front-is [] s t = refl
front-is (c ∷ p) [] t = search rules
front-is (c ∷ p) (x ∷ s) t =
    let h = and_parts (eqb x c) (front p s) t in
    let e = eqb-true x c h.0 in
    let f = front-is p s h.1 in
    cc

pub is_front : (p s rest : List ℕ) → s ≡ p ++ rest → front p s ≡ true
is_front [] s rest e = refl
is_front (c ∷ p) [] rest e = search rules
is_front (c ∷ p) (x ∷ s) rest e = and_from (eqb x c) (front p s) (eq-eqb x c (cc)) (is_front p s rest (cc))

-- what `starts_with` answers
pub front-told : (p s : List ℕ) (r : Bool) → (r ≡ true → s ≡ p ++ drop (length p) s) × ((rest : List ℕ) → s ≡ p ++ rest → r ≡ true) → r ≡ front p s
front-told p s true h = search (rules, is_front p s (drop (length p) s) (h.0 refl))
front-told p s false h = elim (front p s) as (λ v. front p s ≡ v → false ≡ v) [ true ↦ λ e. h.1 (drop (length p) s) (front-is p s e) | false ↦ λ e. refl ] refl

-- a list that is too short, or has another byte at place k
front-short : (p s : List ℕ) → length s < length p → front p s ≡ false
front-short [] s h = absurd (omega arith)
front-short (c ∷ p) [] h = refl
front-short (c ∷ p) (x ∷ s) h = and_right (eqb x c) (front p s) (front-short p s (omega arith))

pub mark-short : (mark : List ℕ) (n : ℕ) (s : List ℕ) → length s < length mark → mark_from mark n s ≡ None
mark-short mark n [] h = refl
mark-short mark n (b ∷ bs) h = cond-false _ _ _ (front-short mark (b ∷ bs) h) ∙ mark-short mark (n + 1) bs (omega arith)

front-other : (p s : List ℕ) (k : ℕ) → k < length p → (get_or s k 0 ≡ get_or p k 0 → ⊥) → front p s ≡ false
front-other [] s k h n = absurd (omega arith)
front-other (c ∷ p) [] k h n = refl
front-other (c ∷ p) (x ∷ s) zero h n = and_left (eqb x c) (front p s) (ne_eqb x c n)
front-other (c ∷ p) (x ∷ s) (suc k) h n = and_right (eqb x c) (front p s) (front-other p s k (omega arith) n)

-- no mark begins at i where the byte at i + k is another
other_at : (p xs : List ℕ) (i j k : ℕ) → i + k ≡ j → k < length p → get_or p k 0 ≤ 13 → 13 < get_or xs j 0 → front p (drop i xs) ≡ false
other_at p xs i j k is few low high = front-other p (drop i xs) k few (λ e. omega (arith, get_or-drop i xs k 0, ap (λ m. get_or xs m 0) is))

pub mark-next : (xs : List ℕ) (i : ℕ) → i < length xs → front head_mark (drop i xs) ≡ false → mark_from head_mark i (drop i xs) ≡ mark_from head_mark (i + 1) (drop (i + 1) xs)
mark-next xs i lt no' = at_drop_more (mark_from head_mark i) xs i 0 lt ∙ cond-false _ _ _ (sym (ap (front head_mark) (drop_more xs i 0 lt)) ∙ no')

pub mark-skip : (xs : List ℕ) (i : ℕ) → i + 3 < length xs → 13 < get_or xs (i + 3) 0 → mark_from head_mark i (drop i xs) ≡ mark_from head_mark (i + 4) (drop (i + 4) xs)
mark-skip xs i lt high =
    let j = i + 3 in
    let next = λ (a b : ℕ) (e : a + 1 ≡ b) (l : a < length xs) (f : front head_mark (drop a xs) ≡ false). mark-next xs a l f ∙ ap (λ m. mark_from head_mark m (drop m xs)) e in
    next i (i + 1) (omega arith) (omega arith) (other_at head_mark xs i j 3 (omega arith) (omega arith) (omega arith) high)
    ∙ next (i + 1) (i + 2) (omega arith) (omega arith) (other_at head_mark xs (i + 1) j 2 (omega arith) (omega arith) (omega arith) high)
    ∙ next (i + 2) (i + 3) (omega arith) (omega arith) (other_at head_mark xs (i + 2) j 1 (omega arith) (omega arith) (omega arith) high)
    ∙ next (i + 3) (i + 4) (omega arith) (omega arith) (other_at head_mark xs (i + 3) j 0 (omega arith) (omega arith) (omega arith) high)

pub mark-none : (xs : List ℕ) (i : ℕ) → length xs ≤ i + 3 → mark_from head_mark i (drop i xs) ≡ None
mark-none xs i h = mark-short head_mark i (drop i xs) (omega (arith, length-drop i xs))

pub line-next : (xs : List ℕ) (i : ℕ) → i < length xs → front line_end (drop i xs) ≡ false → line_length (drop i xs) ≡ 1 + line_length (drop (i + 1) xs)
line-next xs i lt no' = at_drop_more line_length xs i 0 lt ∙ cond-false _ _ _ (sym (ap (front line_end) (drop_more xs i 0 lt)) ∙ no')

pub line_other : (xs : List ℕ) (i k : ℕ) → i < length xs → k < 2 → (get_or xs (i + k) 0 ≡ get_or line_end k 0 → ⊥) → line_length (drop i xs) ≡ 1 + line_length (drop (i + 1) xs)
line_other xs i k lt few n = line-next xs i lt (front-other line_end (drop i xs) k few (λ e. n (sym (get_or-drop i xs k 0) ∙ e)))
