use Rattle.std.proofs.Common.{◌≡◌, ◌≤◌, count_by, eqb, length, drop, take}
use Rattle.intake_bench.specs.Lines.{Telling}
use Rattle.intake_bench.specs.declared.Line.{Line}
use Rattle.intake_bench.proofs.send.Given as goal

abbrev pub invariant-loop-i : goal.invariant-loop-i
invariant-loop-i g l = record {
  most : l.done ≤ l.i;
  kept : drop (length l.lengths) l.lines ≡ drop (length l.lengths) l.initial.lines;
  told : Telling l.lengths l.i l.lines;
  counted : length l.lengths ≤ length l.lines → l.done ≡ count_by (λ (x : Line). eqb x.number 0) (take l.i l.lines);
}
