use Rattle.std.proofs.Common.{◌≡◌, ◌-◌, ◌<◌, true, false, length, take, drop, sym, ap, ◌∙◌, arith, rules}
use Rattle.std.proofs.lemmas.Slice.Eq.{starts_is}
use Rattle.std.proofs.lemmas.List.{at_drop_more, take_rest, drop_more}
use Rattle.std.proofs.lemmas.Bool.{cond-true}
use Rattle.head.specs.Marks.{front, head_mark, mark_from}
use Rattle.head.proofs.Fronts.{front-told, mark-next, mark-skip, mark-none}
use Rattle.head.proofs.marks.find_mark.Goals as goal
use Rattle.std.proofs.lemmas.Bool.Decides.{Decides-eqb}

pub loop-i-preserved-then-s-i-gt13 : goal.loop-i-preserved-then-s-i-gt13
loop-i-preserved-then-s-i-gt13 c = (omega arith, sym (mark-skip c.args.s.now c.loop-i.i c.loop-i-test.true c.if-s-i-gt13.true) ∙ c.loop-i.invariant.1)

pub returns-then-starts_with : goal.returns-then-starts_with
returns-then-starts_with c =
    let xs = c.args.s.now in
    let i = c.loop-i.i in
    let told = front-told head_mark _ _ (starts_is Decides-eqb (take (length xs - i) (drop i xs)) head_mark _ c.starts_with.ensures.value) in
    let lt : i < length xs = omega (arith, c.loop-i-test.true) in
    let here = drop_more xs i 0 lt in
    let yes' : front head_mark (drop i xs) ≡ true = sym (ap (front head_mark) (take_rest xs i)) ∙ sym told ∙ c.if-starts_with.true in
    record { value = sym (at_drop_more (mark_from head_mark i) xs i 0 lt ∙ cond-true _ _ _ (sym (ap (front head_mark) here) ∙ yes')) ∙ c.loop-i.invariant.1; within = omega (arith, c.loop-i-test.true) }

pub loop-i-preserved : goal.loop-i-preserved
loop-i-preserved c =
    let xs = c.args.s.now in
    let i = c.loop-i.i in
    let told = front-told head_mark _ _ (starts_is Decides-eqb (take (length xs - i) (drop i xs)) head_mark _ c.starts_with.ensures.value) in
    let no' : front head_mark (drop i xs) ≡ false = sym (ap (front head_mark) (take_rest xs i)) ∙ sym told ∙ c.if-starts_with.false in
    (omega arith, sym (mark-next xs i (omega (arith, c.loop-i-test.true)) no') ∙ c.loop-i.invariant.1)

pub returns : goal.returns
returns c = record { value = sym (mark-none c.args.s.now c.loop-i.i c.loop-i-test.false) ∙ c.loop-i.invariant.1; within = search rules }
