-- The windows of a list, and where a mark first fills one.
use Rattle.std.proofs.Common.{◌≡◌, ℕ, ◌+◌, ◌<◌, ◌≤◌, true, false, cond, ◌&&◌, eqb, leb, List, [], ◌∷◌, length, take, drop, Some, unwrap_or, sym, refl, ap, ◌∙◌, subst, inl, inr, arith}
use Rattle.std.proofs.lemmas.Iterator.{YieldsList}
use Rattle.std.proofs.lemmas.Iterator.Splits.{YieldsList-from_shown_while}
use Rattle.std.proofs.lemmas.Bool.{cond-true, cond-false, le-leb, lt-leb, cases_lt}
use Rattle.std.specs.List.{position_from}
use Rattle.std.specs.Str.{bytes_eq}
use Rattle.head.specs.Marks.{front, line_end, mark_from, line_length}
use Rattle.head.proofs.Fronts.{mark-short}
use Rattle.std.specs.Slice.Iter.{windows_steps, windows_rest, windows_size}

-- each n bytes that stand together, from the front on
abbrev pub windows_of : ℕ → List ℕ → List (List ℕ)
windows_of n [] = []
windows_of n (b ∷ bs) = cond (leb n (length (b ∷ bs))) (take n (b ∷ bs) ∷ windows_of n bs) []

windows-short : (n : ℕ) (s : List ℕ) → length s < n → length (windows_of n s) ≡ 0
windows-short n [] h = refl
windows-short n (b ∷ bs) h = ap length (cond-false _ _ _ (lt-leb n (length (b ∷ bs)) h))

windows-more : (n : ℕ) (s : List ℕ) → 0 < n → n ≤ length s → windows_of n s ≡ take n s ∷ windows_of n (drop 1 s)
windows-more n [] some h = absurd (omega arith)
windows-more n (b ∷ bs) some h = cond-true _ _ _ (le-leb n (length (b ∷ bs)) h)

-- what `windows` yields, by the list that is left
pub yields-windows : {w : _} (n : ℕ) (s : List ℕ) → 0 < n → windows_rest w ≡ s → windows_size w ≡ n → YieldsList windows_steps (λ x. x.now) w (windows_of n s)
yields-windows {w} n s some r z =
    let given : YieldsList windows_steps (λ x. x.now) w (windows_of (windows_size w) (windows_rest w)) =
    YieldsList-from_shown_while windows_steps (λ x. x.now) (λ t. windows_of (windows_size t) (windows_rest t)) (λ t. 0 < windows_size t)
    (λ t u p k. windows-short (windows_size t) (windows_rest t) k.1.0)
    (λ t x u p k.
    let one = windows-more (windows_size t) (windows_rest t) p k.1.0 in
    let taken = k.1.1 in
    let left = k.1.2 in
    let size = k.0 in
    (omega (arith, k.0), cc))
    w (omega (arith, z)) in
    subst (YieldsList windows_steps (λ x. x.now) w) (ap (λ m. windows_of m (windows_rest w)) z ∙ ap (windows_of n) r) given

-- a mark that fills a window begins what is left there
same-front : (mark s : List ℕ) → length mark ≤ length s → bytes_eq (take (length mark) s) mark ≡ front mark s
same-front [] s h = refl
same-front (c ∷ mark) [] h = absurd (omega arith)
same-front (c ∷ mark) (b ∷ s) h = ap (λ v. eqb b c && v) (same-front mark s (omega arith))

-- where a mark first fills a window
pub window-mark : (mark : List ℕ) (m : ℕ) (s : List ℕ) → position_from (λ w. bytes_eq w mark) m (windows_of (length mark) s) ≡ mark_from mark m s
window-mark mark m [] = refl
window-mark mark m (b ∷ bs) = elim (cases_lt (length (b ∷ bs)) (length mark)) [
  | inl h ↦
      ap (position_from (λ w. bytes_eq w mark) m) (cond-false _ _ _ (lt-leb (length mark) (length (b ∷ bs)) h))
      ∙ sym (mark-short mark m (b ∷ bs) h)
  | inr h ↦
      ap (position_from (λ w. bytes_eq w mark) m) (cond-true _ _ _ (le-leb (length mark) (length (b ∷ bs)) h))
      ∙ ap (λ t. cond t (Some m) (position_from (λ w. bytes_eq w mark) (m + 1) (windows_of (length mark) bs))) (same-front mark (b ∷ bs) h)
      ∙ ap (cond (front mark (b ∷ bs)) (Some m)) (window-mark mark (m + 1) bs)
]

-- the first line ends where its end stands first, or with the list
pub line-mark : (m n : ℕ) (s : List ℕ) → n ≡ m + length s → unwrap_or (mark_from line_end m s) n ≡ m + line_length s
line-mark m n [] h = h
line-mark m n (b ∷ bs) h = elim (front line_end (b ∷ bs)) as (λ v. unwrap_or (cond v (Some m) (mark_from line_end (m + 1) bs)) n ≡ m + cond v 0 (1 + line_length bs)) [
  | true ↦ omega arith
  | false ↦ omega (arith, line-mark (m + 1) n bs (omega arith))
]
