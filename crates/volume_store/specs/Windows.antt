-- Stretches of a region after bytes were written elsewhere in it.
use Rattle.std.specs.Prelude.{◌≡◌, ℕ, ◌+◌, ◌-◌, ◌*◌, ◌<◌, ◌≤◌, List, ◌++◌, length, take, drop}
use Rattle.std.proofs.Common.{sym, ap, ◌∙◌, mul-le-mul_right, add-mul, one-mul, arith}
use Rattle.std.proofs.lemmas.List.{append_assoc, drop-take, take-append-le, take-take, take_at, drop_at, drop-drop, drop-append-le, length-take-le, length-append, length-drop}

module _ (l xs : List ℕ) (at : ℕ) (fit : at + length xs ≤ length l) where
  abbrev pub wrote : List ℕ
  wrote = take at l ++ (xs ++ drop (at + length xs) l)

  front : length (take at l) ≡ at
  front = length-take-le at l (omega arith)

  pub length-wrote : length wrote ≡ length l
  length-wrote =
      omega (arith, length-append (take at l) (xs ++ drop (at + length xs) l), length-append xs (drop (at + length xs) l), length-drop (at + length xs) l, front)

  pub before-it : (a m : ℕ) → a + m ≤ at → take m (drop a wrote) ≡ take m (drop a l)
  before-it a m h =
      sym (drop-take a m wrote)
      ∙ (ap (drop a) (take-append-le (a + m) (take at l) (xs ++ drop (at + length xs) l) (omega (arith, front)) ∙ take-take (a + m) at l h)
      ∙ drop-take a m l)

  pub behind-it : (a : ℕ) → at + length xs ≤ a → drop a wrote ≡ drop a l
  behind-it a h =
      let n : ℕ = at + length xs in
      let q : n + (a - n) ≡ a = omega arith in
      let end : drop n wrote ≡ drop n l =
      ap (drop n) (sym (append_assoc (take at l) xs (drop n l)))
      ∙ drop_at (take at l ++ xs) (drop n l) n (length-append (take at l) xs ∙ ap (λ (x : ℕ). x + length xs) front) in
      ap (λ (x : ℕ). drop x wrote) (sym q) ∙ (sym (drop-drop (a - n) n wrote) ∙ (ap (drop (a - n)) end ∙ (drop-drop (a - n) n l ∙ ap (λ (x : ℕ). drop x l) q)))

  -- a stretch that ends where the bytes were written grows by them
  pub grown-by-it : (a m : ℕ) → a + m ≡ at → take (m + length xs) (drop a wrote) ≡ take m (drop a l) ++ xs
  grown-by-it a m e =
      let rest : List ℕ = drop (at + length xs) l in
      let own : List ℕ = take m (drop a l) in
      let cut : drop a (take at l) ≡ own = ap (λ (x : ℕ). drop a (take x l)) (sym e) ∙ drop-take a m l in
      let long : length own ≡ m = length-take-le m (drop a l) (omega (arith, length-drop a l)) in
      ap (take (m + length xs))
      (drop-append-le a (take at l) (xs ++ rest) (omega (arith, front)) ∙ (ap (λ (x : List ℕ). x ++ (xs ++ rest)) cut ∙ sym (append_assoc own xs rest)))
      ∙ take_at (own ++ xs) rest (m + length xs) (length-append own xs ∙ ap (λ (x : ℕ). x + length xs) long)

-- slots lie one behind the other
pub area : (j k c : ℕ) → j < k → j * c + c ≤ k * c
area j k c h = omega (arith, mul-le-mul_right {m = j + 1} {n = k} c (omega arith), add-mul j 1 c, one-mul c)
