use Rattle.std.proofs.Common.{◌≡◌, ◌*◌, ◌<◌, ◌≤◌, length, drop}
use Rattle.intake_bench.specs.Lines.{Counting, Telling}
use Rattle.intake_bench.proofs.send_all.Given as goal

abbrev pub invariant-loop-round : goal.invariant-loop-round
invariant-loop-round g l = record {
  most : l.done ≤ l._round * length l.lengths;
  kept : drop (length l.lengths) l.lines ≡ drop (length l.lengths) l.initial.lines;
  told : 0 < l._round → Telling l.lengths (length l.lengths) l.lines;
  counted : l._round ≡ 1 → Counting l.lines (length l.lengths) l.done;
}
