use Rattle.std.proofs.Common.{sym, ap, ◌∙◌, inl, inr, arith}
use Rattle.intake_core.specs.Worlds.{noticed}
use Rattle.connection.proofs.Going.{next, progressed, served}
use Rattle.connection.proofs.serve.Goals as goal

pub overflow_add-length : goal.overflow_add-length
overflow_add-length g c =
    let e = c.message-own.ensures in
    let so = next c.message-own.new.self c.loop-used.invariant c.loop-used-test.true c.if-out-length-ge-LEAST_PAGE.true e.done e.account e.settings e.used e.within e.notice e.length e.page c.message-own.auto.page in
    omega (arith, so.0.fits)

pub returns-in-Some : goal.returns-in-Some
returns-in-Some g c =
    let e = c.message-own.ensures in
    let so = next c.message-own.new.self c.loop-used.invariant c.loop-used-test.true c.if-out-length-ge-LEAST_PAGE.true e.done e.account e.settings e.used e.within (ap noticed (sym c.in-Some.is) ∙ e.notice) e.length e.page c.message-own.auto.page in
    let why = inr (inl (omega arith)) in
    record { served = served so.0 why; within = so.0.within; put = so.0.fits; progress = progressed so.0 why }

pub loop-used-smaller : goal.loop-used-smaller
loop-used-smaller g c =
    let e = c.message-own.ensures in
    let so = next c.message-own.new.self c.loop-used.invariant c.loop-used-test.true c.if-out-length-ge-LEAST_PAGE.true e.done e.account e.settings e.used e.within (ap noticed (sym c.in_default.is) ∙ e.notice) e.length e.page c.message-own.auto.page in
    omega (arith, so.1, so.0.within)

pub loop-used-preserved : goal.loop-used-preserved
loop-used-preserved g c =
    let e = c.message-own.ensures in
    let so = next c.message-own.new.self c.loop-used.invariant c.loop-used-test.true c.if-out-length-ge-LEAST_PAGE.true e.done e.account e.settings e.used e.within (ap noticed (sym c.in_default.is) ∙ e.notice) e.length e.page c.message-own.auto.page in
    so.0

pub returns-else-out-length-ge-LEAST_PAGE : goal.returns-else-out-length-ge-LEAST_PAGE
returns-else-out-length-ge-LEAST_PAGE g c =
    let so = c.loop-used.invariant in
    let why = inr (inr (omega (arith, c.if-out-length-ge-LEAST_PAGE.false, so.fits, c.loop-used.auto.out))) in
    record { served = served so why; within = so.within; put = so.fits; progress = progressed so why }
