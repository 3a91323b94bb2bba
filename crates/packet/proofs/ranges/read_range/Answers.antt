use Rattle.std.proofs.Common.{◌≡◌, Bool, true, false, cond, take, drop, None, Option, codes, refl, sym, ap, ◌∙◌, arith, length-take}
use Rattle.std.proofs.lemmas.List.{take_rest}
use Rattle.std.proofs.lemmas.Bool.{cond-true, cond-false, lt-leb, le-leb}
use Rattle.std.proofs.lemmas.Option.{MatchOption-at_none}
use Rattle.std.specs.List.{prefix_len}
use Rattle.text.specs.Bytes.{blank}
use Rattle.text.specs.Words.{same_letters}
use Rattle.packet.specs.Ranges.{span_of, after_blanks, range_of}
use Rattle.packet.proofs.Letters.{letters-long}
use Rattle.packet.proofs.ranges.read_range.Goals as goal
use Rattle.packet.proofs.ranges.read_range.Goals.{then-blanks-eq0-via-then-blanks-eq0, then-blanks-eq0-via-else-blanks-eq0+then-not-same_letters}

pub returns-in_err-unit : goal.returns-in_err-unit
unfolding range_of
returns-in_err-unit c =
    let v = c.args.value.now in
    let short = MatchOption-at_none _ _ c.in_err-unit.was c.split_at_checked.ensures.cases in
    c.from_residual.ensures ∙ sym (cond-false _ _ _ (letters-long (take 5 v) (codes "bytes") (λ e. omega (arith, length-take 5 v, short))))

either_none : {A : Type 0} (b : Bool) (x : Option A) → None ≡ x → None ≡ cond b x None
either_none true x e = e
either_none false x e = refl

pub returns-then-blanks-eq0 : goal.returns-then-blanks-eq0
unfolding range_of
returns-then-blanks-eq0 c =
    let v = c.args.value.now in
    let n = c.lead-blanks.result in
    let cut = c.in_ok-unit.ensures.cases in
    let is = c.lead-blanks.ensures.value ∙ ap (prefix_len blank) cut.2 in
    elim c.then-blanks-eq0.branch [
      | then-blanks-eq0-via-then-blanks-eq0 w ↦ either_none (same_letters (take 5 v) (codes "bytes")) _ (sym (cond-false _ _ _ (lt-leb 1 n (omega (arith, w.if-blanks-eq0.true)))) ∙ ap (λ m. after_blanks m (drop 5 v)) is)
      | then-blanks-eq0-via-else-blanks-eq0+then-not-same_letters w ↦ sym (cond-false _ _ _ (ap (λ l. same_letters l (codes "bytes")) (sym cut.1) ∙ sym w.if-not-same_letters.ensures))
    ]

pub returns : goal.returns
unfolding range_of
returns c =
    let v = c.args.value.now in
    let n = c.lead-blanks.result in
    let cut = c.in_ok-unit.ensures.cases in
    let is = c.lead-blanks.ensures.value ∙ ap (prefix_len blank) cut.2 in
    c.read_span.ensures
    ∙ ap span_of (take_rest c.in_ok-unit.rest.now n ∙ ap (drop n) cut.2)
    ∙ sym (cond-true _ _ _ (le-leb 1 n (omega (arith, c.if-blanks-eq0.false))))
    ∙ ap (λ m. after_blanks m (drop 5 v)) is
    ∙ sym (cond-true _ _ _ (ap (λ l. same_letters l (codes "bytes")) (sym cut.1) ∙ sym c.if-not-same_letters.ensures))
