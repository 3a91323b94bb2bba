-- Parts of a bundle: the first byte at each place, and how many places have one.
use Rattle.std.proofs.Common.{◌≡◌, ℕ, zero, suc, ◌+◌, ◌-◌, ◌<◌, ◌≤◌, min, true, false, cond, leb, List, [], ◌∷◌, ◌++◌, length, drop, is_some, Some, None, Option, sym, refl, ap, ◌∙◌, ⊎_elim, arith}
use Rattle.std.specs.Option.{option_or}
use Rattle.std.specs.List.{slice_get}
use Rattle.std.proofs.lemmas.Option.{slice_get_past}
use Rattle.std.proofs.lemmas.Bool.{cases_lt, both_ways, le-leb}
use Rattle.history.specs.Ledger.{Part, carries, first_byte, reach, places_below, places}

or_else-none : {X : Type 0} (a : Option X) → option_or a None ≡ a
or_else-none None = refl
or_else-none (Some x) = refl

or_else-assoc : {X : Type 0} (a b c : Option X) → option_or (option_or a b) c ≡ option_or a (option_or b c)
or_else-assoc None b c = refl
or_else-assoc (Some x) b c = refl

or_else-some : {X : Type 0} (a b : Option X) → is_some a ≡ true → option_or a b ≡ a
or_else-some None b e = absurd (both_ways false refl e)
or_else-some (Some x) b e = refl

pub first-push : (qs : List Part) (q : Part) (p : ℕ) → first_byte (qs ++ q ∷ []) p ≡ option_or (first_byte qs p) (carries q p)
first-push [] q p = or_else-none (carries q p)
first-push (x ∷ xs) q p = ap (λ o. option_or (carries x p) o) (first-push xs q p) ∙ sym (or_else-assoc (carries x p) (first_byte xs p) (carries q p))

nth_left : {X : Type 0} (xs ys : List X) (i : ℕ) → i < length xs → slice_get (xs ++ ys) i ≡ slice_get xs i
nth_left [] ys i h = absurd (omega arith)
nth_left (x ∷ xs) ys zero h = refl
nth_left (x ∷ xs) ys (suc i) h = nth_left xs ys i (omega arith)

nth_right : {X : Type 0} (xs ys : List X) (i : ℕ) → slice_get (xs ++ ys) (length xs + i) ≡ slice_get ys i
nth_right [] ys i = ap (slice_get ys) (omega arith)
nth_right (x ∷ xs) ys i = let e : length (x ∷ xs) + i ≡ suc (length xs + i) = omega arith in ap (slice_get (x ∷ xs ++ ys)) e ∙ nth_right xs ys i

nth_drop : {X : Type 0} (n : ℕ) (xs : List X) (i : ℕ) → slice_get (drop n xs) i ≡ slice_get xs (n + i)
nth_drop zero xs i = ap (slice_get xs) (omega arith)
nth_drop (suc n) [] i = refl
nth_drop (suc n) (x ∷ xs) i = let e : suc n + i ≡ suc (n + i) = omega arith in nth_drop n xs i ∙ sym (ap (slice_get (x ∷ xs)) e)

nth-some : {X : Type 0} (xs : List X) (i : ℕ) → i < length xs → is_some (slice_get xs i) ≡ true
nth-some [] i h = absurd (omega arith)
nth-some (x ∷ xs) zero h = refl
nth-some (x ∷ xs) (suc i) h = nth-some xs i (omega arith)

-- a body that begins within what is held adds what is past it
pub laid : (t body : List ℕ) (from n p : ℕ) → n ≡ length t → from ≤ n → slice_get (t ++ drop (n - from) body) p ≡ option_or (slice_get t p) (cond (leb from p) (slice_get body (p - from)) None)
laid t body from n p e h = ⊎_elim
    (λ lt. nth_left t _ p lt ∙ sym (or_else-some (slice_get t p) _ (nth-some t p lt)))
    (λ ge.
    let i : p ≡ length t + (p - length t) = omega arith in
    let j : (n - from) + (p - length t) ≡ p - from = omega arith in
    let a : slice_get (t ++ drop (n - from) body) p ≡ slice_get body (p - from) =
    ap (slice_get (t ++ drop (n - from) body)) i ∙ nth_right t (drop (n - from) body) (p - length t) ∙ nth_drop (n - from) body (p - length t) ∙ ap (slice_get body) j in
    let b : slice_get t p ≡ None = slice_get_past t p ge in
    let c : leb from p ≡ true = le-leb from p (omega arith) in
    a ∙ sym (ap (λ o. option_or o (cond (leb from p) (slice_get body (p - from)) None)) b ∙ ap (λ o. cond o (slice_get body (p - from)) None) c))
    (cases_lt p (length t))

carries-past : (q : Part) (p : ℕ) → q.from + length q.bytes ≤ p → carries q p ≡ None
carries-past q p h = ap (λ b. cond b (slice_get q.bytes (p - q.from)) None) (le-leb q.from p (omega arith)) ∙ slice_get_past q.bytes (p - q.from) (omega arith)

first_past : (qs : List Part) (p : ℕ) → reach qs ≤ p → first_byte qs p ≡ None
first_past [] p h = refl
first_past (q ∷ qs) p h = ap (λ o. option_or o (first_byte qs p)) (carries-past q p (omega arith)) ∙ first_past qs p (omega arith)

-- bytes that are the first ones at every place
module _ (qs : List Part) (xs : List ℕ) (h : (p : ℕ) → slice_get xs p ≡ first_byte qs p) where
  within-reach : length xs ≤ reach qs
  within-reach = ⊎_elim
      (λ lt. absurd (both_ways (is_some (slice_get xs (reach qs))) (ap is_some (h (reach qs) ∙ first_past qs (reach qs) (omega arith))) (nth-some xs (reach qs) lt)))
      (λ le. le)
      (cases_lt (reach qs) (length xs))

  below-is : (n : ℕ) → places_below qs n ≡ min n (length xs)
  below-is zero = omega arith
  below-is (suc n) =
      let a = below-is n in
      ⊎_elim
      (λ lt. let z : ◌≡◌ {A = ℕ} (cond (is_some (first_byte qs n)) 1 0) 1 = ap {B = ℕ} (λ b. cond b 1 0) (ap is_some (sym (h n)) ∙ nth-some xs n lt) in omega arith)
      (λ ge. let z : ◌≡◌ {A = ℕ} (cond (is_some (first_byte qs n)) 1 0) 0 = ap {B = ℕ} (λ b. cond b 1 0) (ap is_some (sym (h n) ∙ slice_get_past xs n ge)) in omega arith)
      (cases_lt n (length xs))

  pub places_is : places qs ≡ length xs
  places_is = let a = below-is (reach qs) in let b = within-reach in omega arith
