use Rattle.std.proofs.Common.{rules}
use Rattle.runs.proofs.Playing.{turn}
use Rattle.runs.proofs.calls.Ran.play.Goals as goal

pub loop-call-preserved : goal.loop-call-preserved
loop-call-preserved g c =
    let inv = c.loop-call.invariant in
    let e = c.make-line.ensures in
    let made = rw inv.settings at e.made in
    record {
      playing = rw (c.push_reserved.ensures.items, e.lines, e.desk, c.length-at.ensures) (turn inv.playing _ _ _ _ _ _ c.loop-call-test.true c.loop-call.auto.pages c.page.ensures c.min-size.ensures made);
      lying = search rules;
      desk = search rules;
      told = search rules;
      lines = search rules;
      settings = search rules;
    }
