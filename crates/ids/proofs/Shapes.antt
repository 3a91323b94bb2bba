-- Bytes against a shape. Assumes nothing.
use Rattle.std.proofs.Common.{◌≡◌, ℕ, suc, ◌+◌, ◌*◌, ◌^◌, ◌<◌, ◌≤◌, true, false, cond, ◌&&◌, eqb, List, [], ◌∷◌, length, get_or, drop, sym, refl, ap, ◌∙◌, subst, inl, inr, arith, lit<, pow-suc}
use Rattle.std.proofs.Math.Nat.{mul-le-mul_left, mul-le-mul_right, pow-le-pow_right}
use Rattle.std.proofs.lemmas.List.{drop_more}
use Rattle.std.proofs.lemmas.Bool.{and_parts, and_right, cases_Bool, cond-true, cond-false, eq-eqb, false≢true, lt-ltb, ltb-true}
use Rattle.std.specs.Str.Parse.{AllDigits, digits_value, digits_value_after}
use Rattle.std.specs.Char.{digit_value}
use Rattle.ids.specs.Ids.{as_shape, fits, digits_at}

pub fits-step : (ps bs : List ℕ) (i : ℕ) → i < length ps → i < length bs → fits (drop i ps) (drop i bs) ≡ (as_shape (get_or ps i 0) (get_or bs i 0) && fits (drop (i + 1) ps) (drop (i + 1) bs))
fits-step ps bs i h k = λ j. fits (drop_more ps i 0 h j) (drop_more bs i 0 k j)

pub uneven : (ps bs : List ℕ) → (length ps ≡ length bs → ⊥) → fits ps bs ≡ false
uneven [] [] n = absurd (n refl)
uneven [] (b ∷ bs) n = refl
uneven (p ∷ ps) [] n = refl
uneven (p ∷ ps) (b ∷ bs) n = and_right _ _ (uneven ps bs (λ e. n (omega arith)))

digits_step : (ps bs : List ℕ) (i : ℕ) → i < length ps → i < length bs → digits_at (drop i ps) (drop i bs) ≡ cond (eqb (get_or ps i 0) 120) (get_or bs i 0 ∷ digits_at (drop (i + 1) ps) (drop (i + 1) bs)) (digits_at (drop (i + 1) ps) (drop (i + 1) bs))
digits_step ps bs i h k = λ j. digits_at (drop_more ps i 0 h j) (drop_more bs i 0 k j)

pub digits-yes : (ps bs : List ℕ) (i : ℕ) → i < length ps → i < length bs → get_or ps i 0 ≡ 120 → digits_at (drop i ps) (drop i bs) ≡ get_or bs i 0 ∷ digits_at (drop (i + 1) ps) (drop (i + 1) bs)
digits-yes ps bs i h k e = digits_step ps bs i h k ∙ cond-true _ _ _ (eq-eqb _ _ e)

-- bytes that fit a shape stand for digits at its places
pub digits_long : (ps bs : List ℕ) → fits ps bs ≡ true → length (digits_at ps bs) ≡ length (digits_at ps ps)
digits_long [] bs t = refl
digits_long (p ∷ ps) [] t = absurd (false≢true t)
digits_long (p ∷ ps) (b ∷ bs) t =
    let rest = digits_long ps bs (and_parts _ _ t).1 in
    elim (cases_Bool (eqb p 120)) [
      | inl x ↦ ap length (cond-true _ _ _ x) ∙ ap suc rest ∙ sym (ap length (cond-true _ _ _ x))
      | inr o ↦ ap length (cond-false _ _ _ o) ∙ rest ∙ sym (ap length (cond-false _ _ _ o))
    ]

pub digits_are : (ps bs : List ℕ) → fits ps bs ≡ true → AllDigits 16 (digits_at ps bs)
digits_are [] bs t = tt
digits_are (p ∷ ps) [] t = tt
digits_are (p ∷ ps) (b ∷ bs) t =
    let rest = digits_are ps bs (and_parts _ _ t).1 in
    elim (cases_Bool (eqb p 120)) [
      | inl x ↦ subst (AllDigits 16) (sym (cond-true _ _ _ x)) (ltb-true _ _ (sym (cond-true _ _ _ x) ∙ (and_parts _ _ t).0), rest)
      | inr o ↦ subst (AllDigits 16) (sym (cond-false _ _ _ o)) rest
    ]

-- what is read of the first i bytes, with room for the digits to come
pub record Read (ps bs : List ℕ) (i n : ℕ) : Type 0 where
  pub fit : fits (drop i ps) (drop i bs) ≡ fits ps bs
  pub value : digits_value_after 16 n (digits_at (drop i ps) (drop i bs)) ≡ digits_value 16 (digits_at ps bs)
  pub room : (n + 1) * 16 ^ length (digits_at (drop i ps) (drop i ps)) ≤ 16 ^ length (digits_at ps ps)

room_step : (n d p t : ℕ) → d < 16 → (n + 1) * (p * 16) ≤ t → (n * 16 + d + 1) * p ≤ t
room_step n d p t small h =
    let more : (n * 16 + d + 1) * p ≤ (n * 16 + 16) * p = mul-le-mul_right p (omega arith) in
    let same : (n * 16 + 16) * p ≡ (n + 1) * (p * 16) = omega arith in
    omega (arith, more, same)

module _ (ps bs : List ℕ) (i n : ℕ) (r : Read ps bs i n) where
  -- with one more place p, and a byte b there
  module _ (h : i < length ps) (k : i < length bs) (p b : ℕ) (is-p : p ≡ get_or ps i 0) (is-b : b ≡ get_or bs i 0) where
    as-there : as_shape (get_or ps i 0) (get_or bs i 0) ≡ as_shape p b
    as-there = λ j. as_shape (sym is-p j) (sym is-b j)

    fit_more : as_shape p b ≡ true → fits (drop (i + 1) ps) (drop (i + 1) bs) ≡ fits ps bs
    fit_more is = sym (fits-step ps bs i h k ∙ ap (λ t. t && fits (drop (i + 1) ps) (drop (i + 1) bs)) (as-there ∙ is)) ∙ r.fit

    room_left : p ≡ 120 → (n + 1) * (16 ^ length (digits_at (drop (i + 1) ps) (drop (i + 1) ps)) * 16) ≤ 16 ^ length (digits_at ps ps)
    room_left x = subst (λ q. (n + 1) * q ≤ 16 ^ length (digits_at ps ps)) (ap (λ l. 16 ^ length l) (digits-yes ps ps i h h (sym is-p ∙ x)) ∙ pow-suc 16 _) r.room

    pub read_digit : (j m : ℕ) → j ≡ i + 1 → m ≡ n * 16 + digit_value b → p ≡ 120 → digit_value b < 16 → Read ps bs j m
    read_digit j m next more x d =
        let left = length (digits_at (drop (i + 1) ps) (drop (i + 1) ps)) in
        let m' = n * 16 + digit_value b in
        let read : Read ps bs (i + 1) m' = record {
          fit = fit_more (cond-true _ _ _ (eq-eqb _ _ x) ∙ lt-ltb _ _ d);
          value = ap (λ v. digits_value_after 16 (n * 16 + digit_value v) (digits_at (drop (i + 1) ps) (drop (i + 1) bs))) is-b ∙ ap (digits_value_after 16 n) (sym (digits-yes ps bs i h k (sym is-p ∙ x))) ∙ r.value;
          room = room_step n _ (16 ^ left) _ d (room_left x);
        } in
        subst (λ a. Read ps bs a m) (sym next) (subst (λ a. Read ps bs (i + 1) a) (sym more) read)

    pub wide : p ≡ 120 → length (digits_at ps ps) ≤ 16 → n * 16 + 15 < 2 ^ 64
    wide x few =
        let left = length (digits_at (drop (i + 1) ps) (drop (i + 1) ps)) in
        let some : 16 ^ 0 ≤ 16 ^ left = pow-le-pow_right (lit< tt) {i = 0} {j = left} (omega arith) in
        let more : (n + 1) * (1 * 16) ≤ (n + 1) * (16 ^ left * 16) = mul-le-mul_left (n + 1) (mul-le-mul_right 16 some) in
        let whole : 16 ^ length (digits_at ps ps) ≤ 16 ^ 16 = pow-le-pow_right (lit< tt) few in
        omega (arith, more, room_left x, whole)
