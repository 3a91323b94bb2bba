use Rattle.std.proofs.Common.{◌≡◌, ℕ, ◌-◌, ◌^◌, ◌<◌, ◌≤◌, true, false, ◌&&◌, leb, List, length, get_or, take, Some, None, sym, refl, ap, ◌∙◌, subst, inl, inr, arith, length-take}
use Rattle.std.proofs.lemmas.Int.Digits.{digits_more, digits_value_more}
use Rattle.std.proofs.lemmas.List.{take_all}
use Rattle.std.proofs.lemmas.Str.Parse.{IsNumeralModel, tells_digits, tells_all_ascii_digits, numerals_by_value, digits_value_short, digit_at}
use Rattle.std.proofs.lemmas.Bool.{eqb-true, eqb-false, and_parts, and_from, leb-true, le-leb, cond-true, cond-false}
use Rattle.std.proofs.lemmas.Bool.Decides.{nat_tests}
use Rattle.std.specs.Str.Parse.{AllDigits, digits_value}
use Rattle.std.specs.Char.{digit_value}
use Rattle.std.specs.Str.{all_ascii_digits}
use Rattle.text.specs.Numbers.{writes_number, decimal_of}
use Rattle.text.proofs.read_decimal.Goals as goal

own : IsNumeralModel (λ ds. all_ascii_digits ds ≡ true) (digits_value 10)
own = numerals_by_value _ tells_all_ascii_digits

no_number : (s : List ℕ) → (writes_number s ≡ true → ⊥) → None ≡ decimal_of s
unfolding decimal_of
no_number s n = elim (writes_number s) as (λ b. writes_number s ≡ b → None ≡ decimal_of s) [ true ↦ λ e. absurd (n e) | false ↦ λ e. sym (cond-false _ _ _ e) ] refl

parts : (s : List ℕ) → writes_number s ≡ true → (1 ≤ length s) × (length s ≤ 19) × (all_ascii_digits s ≡ true)
parts s t =
    let p = and_parts (leb 1 (length s)) (leb (length s) 19 && all_ascii_digits s) t in
    let q = and_parts (leb (length s) 19) (all_ascii_digits s) p.1 in
    (leb-true 1 (length s) p.0, leb-true (length s) 19 q.0, q.1)

number : (s : List ℕ) → 1 ≤ length s → length s ≤ 19 → AllDigits 10 s → Some (digits_value 10 s) ≡ decimal_of s
unfolding decimal_of
number s some few ds = sym (cond-true _ _ _ (and_from _ _ (le-leb 1 (length s) some) (and_from _ _ (le-leb (length s) 19 few) (own.from s ds))))

-- what was read of at most 18 digits leaves room for one more
below : (s : List ℕ) (i n : ℕ) → i < length s → length s ≤ 19 → AllDigits 10 (take i s) → n ≡ digits_value 10 (take i s) → n < 10 ^ 18
below s i n lt few ds e =
    let short : length (take i s) ≤ 18 = simp length-take (omega arith) in
    let v = digits_value_short (numerals_by_value _ tells_digits) (take i s) 18 ds short in
    subst (λ m. m < 10 ^ 18) (sym e) v

digit-is : (b : ℕ) → 48 ≤ b → b ≤ 57 → digit_value b ≡ b - 48
digit-is b h k = grind (arith, nat_tests)

pub returns-then-is_empty : goal.returns-then-is_empty
returns-then-is_empty c = no_number c.args.s.now (λ t.
    let p = parts c.args.s.now t in
    elim c.then-is_empty.either [
      | inl e ↦ omega (arith, eqb-true (length c.args.s.now) 0 (sym c.is_empty.ensures ∙ e))
      | inr e ↦ omega (arith, e.1)
    ])

pub returns-in_err-to_digit : goal.returns-in_err-to_digit
returns-in_err-to_digit c = c.from_residual.ensures ∙ no_number c.args.s.now (λ t.
    let b = get_or c.args.s.now c.loop-b.b-index 0 in
    let d = digit_at c.args.s.now c.loop-b.b-index (own.to _ (parts c.args.s.now t).2) c.loop-b-test.true in
    c.in_err-to_digit.ensures.value (omega (arith, d, digit-is b d.0 d.1, ap digit_value c.from.ensures)))

pub overflow_mul-n : goal.overflow_mul-n
overflow_mul-n c = omega (arith, below c.args.s.now c.loop-b.b-index c.loop-b.n c.loop-b-test.true c.if-s-gt-MOST_DIGITS.false c.loop-b.invariant.0 c.loop-b.invariant.1)

pub overflow_add-n : goal.overflow_add-n
overflow_add-n c = omega (arith, below c.args.s.now c.loop-b.b-index c.loop-b.n c.loop-b-test.true c.if-s-gt-MOST_DIGITS.false c.loop-b.invariant.0 c.loop-b.invariant.1, c.in_ok-to_digit.ensures.value, c.from-in-loop-b.ensures)

pub loop-b-preserved : goal.loop-b-preserved
loop-b-preserved c =
    let s = c.args.s.now in
    let i = c.loop-b.b-index in
    let d = c.in_ok-to_digit.ensures.value in
    let same = ap digit_value c.from.ensures in
    let v = digits_value_more 10 s i c.loop-b-test.true in
    (digits_more 10 s i c.loop-b-test.true c.loop-b.invariant.0 (omega (arith, d.0, same)), omega (arith, d.1, same, v, c.from-in-loop-b.ensures, c.loop-b.invariant.1))

pub returns : goal.returns
returns c =
    let s = c.args.s.now in
    let all = take_all c.loop-b.b-index s c.loop-b-test.false in
    let some : 1 ≤ length s = omega (arith, eqb-false (length s) 0 (sym c.if-is_empty.ensures)) in
    ap Some (c.loop-b.invariant.1 ∙ ap (digits_value 10) all) ∙ number s some c.if-s-gt-MOST_DIGITS.false (subst (AllDigits 10) all c.loop-b.invariant.0)
