use Rattle.std.proofs.Common.{◌≡◌, ◌<◌, map, length, None, sym, ap, ◌∙◌, arith, rules}
use Rattle.std.proofs.lemmas.List.{get_or-map, length-map, map-set, set-get_or}
use Rattle.session.specs.Rules.{is_expired}
use Rattle.session.specs.Sessions.{row, row_of}
use Rattle.intake_core.proofs.Sweeping.{few, sweeping-keeps, sweeping-ends, sweeping-done}
use Rattle.intake_core.proofs.ticks.sweep.Goals as goal
use Rattle.intake_core.proofs.ticks.sweep.Goals.{then-is_expired, else-is_expired}

pub overflow_add-ended : goal.overflow_add-ended
overflow_add-ended g c = omega (arith, few c.loop-slot.invariant, c.loop-slot-test.true)

pub loop-slot-preserved : goal.loop-slot-preserved
loop-slot-preserved g c =
    let rs = c.loop-slot.rows in
    let i = c.loop-slot.slot in
    let inside : i < length rs = search rules in
    let tested : is_expired c.args.clock (row (map row_of rs) i) ≡ c.is_expired.result =
    ap (is_expired c.args.clock) (get_or-map row_of rs i c.index-rows-slot.result None inside) ∙ sym c.is_expired.ensures in
    elim c.if-is_expired.branch [
      | then-is_expired w ↦ rw (w.rows-is, w.store-is, w.ended-is, map-set row_of rs i None) (sweeping-ends c.loop-slot.invariant _ (tested ∙ w.if-is_expired.true) w.clear.ensures.cleared w.clear.ensures.account)
      | else-is_expired w ↦ rw (w.rows-is, w.store-is, w.ended-is, set-get_or rs i c.index-rows-slot.result) (sweeping-keeps c.loop-slot.invariant (tested ∙ w.if-is_expired.false))
    ]

pub returns : goal.returns
returns g c = sweeping-done c.loop-slot.invariant (length-map c.args.rows.now row_of ∙ c.told-rows) (omega arith)
