use Rattle.std.proofs.Common.{◌≡◌, ℕ, ◌+◌, ◌<◌, List, [], ◌∷◌, length, get_or, take, drop, None, sym, ap, ◌∙◌, inl, inr, arith, length-drop}
use Rattle.std.proofs.lemmas.List.{drop_more}
use Rattle.std.proofs.lemmas.Bool.{cases_lt, cond-true, cond-false, and_left, and_right, and_from, lt-ltb, le-ltb, eq-eqb, ne_eqb}
use Rattle.std.proofs.lemmas.Bool.Decides.{Decides-eqb}
use Rattle.std.proofs.lemmas.Option.{MatchOption-at_some, MatchOption-at_none}
use Rattle.std.proofs.lemmas.Slice.Eq.{strip_prefix_is}
use Rattle.std.specs.Option.{option_map}
use Rattle.text.specs.Numbers.{decimal_of}
use Rattle.packet.specs.Ranges.{rest_of, with_rest, cut_at, before_mark}
use Rattle.packet.proofs.ranges.number_before.Goals as goal

cut-none : (n mark : ℕ) (s : List ℕ) → ((rest : List ℕ) → drop n s ≡ mark ∷ rest → ⊥) → None ≡ cut_at n mark s
cut-none n mark s not = elim (cases_lt n (length s)) [
  | inl h ↦ sym (cond-false _ _ _ (and_right _ _ (ne_eqb (get_or s n 0) mark (λ e. not (drop (n + 1) s) (drop_more s n 0 h ∙ ap (λ b. b ∷ drop (n + 1) s) e)))))
  | inr h ↦ sym (cond-false _ _ _ (and_left _ _ (le-ltb n (length s) h)))
]

cut-some : (n mark : ℕ) (s rest : List ℕ) → drop n s ≡ mark ∷ rest → with_rest (decimal_of (take n s)) rest ≡ cut_at n mark s
cut-some n mark s rest e =
    let lt : n < length s = omega (arith, length-drop n s, ap length e) in
    let here = drop_more s n 0 lt in
    let same : get_or s n 0 ≡ mark = cc in
    let left : rest ≡ drop (n + 1) s = cc in
    ap (with_rest (decimal_of (take n s))) left ∙ sym (cond-true _ _ _ (and_from _ _ (lt-ltb n (length s) lt) (eq-eqb (get_or s n 0) mark same)))

pub returns-in_err-rest : goal.returns-in_err-rest
unfolding before_mark
returns-in_err-rest c =
    let s = c.args.s.now in
    let mark = c.args.mark in
    let none = MatchOption-at_none _ _ c.in_err-rest.was (strip_prefix_is Decides-eqb c.split_at.result.1.now (mark ∷ []) _ c.strip_prefix.ensures.cases) in
    ap (option_map rest_of) c.from_residual.ensures
    ∙ cut-none c.lead.result mark s (λ rest e. none rest (c.split_at.ensures.back ∙ e))
    ∙ ap (λ m. cut_at m mark s) c.lead.ensures.value

pub returns-in_err-read_decimal : goal.returns-in_err-read_decimal
unfolding before_mark
returns-in_err-read_decimal c =
    let s = c.args.s.now in
    let mark = c.args.mark in
    let some = MatchOption-at_some _ _ _ c.in_ok-rest.was (strip_prefix_is Decides-eqb c.split_at.result.1.now (mark ∷ []) _ c.strip_prefix.ensures.cases) in
    ap (option_map rest_of) c.from_residual-in_err-read_decimal.ensures
    ∙ ap (λ o. with_rest o c.in_ok-rest.rest.now) (c.in_err-read_decimal.ensures ∙ ap decimal_of c.split_at.ensures.front)
    ∙ cut-some c.lead.result mark s c.in_ok-rest.rest.now (sym c.split_at.ensures.back ∙ some)
    ∙ ap (λ m. cut_at m mark s) c.lead.ensures.value

pub returns : goal.returns
unfolding before_mark
returns c =
    let s = c.args.s.now in
    let mark = c.args.mark in
    let some = MatchOption-at_some _ _ _ c.in_ok-rest.was (strip_prefix_is Decides-eqb c.split_at.result.1.now (mark ∷ []) _ c.strip_prefix.ensures.cases) in
    ap (λ o. with_rest o c.in_ok-rest.rest.now) (c.in_ok-read_decimal.ensures ∙ ap decimal_of c.split_at.ensures.front)
    ∙ cut-some c.lead.result mark s c.in_ok-rest.rest.now (sym c.split_at.ensures.back ∙ some)
    ∙ ap (λ m. cut_at m mark s) c.lead.ensures.value
