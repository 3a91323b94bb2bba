use Rattle.std.proofs.Common.{◌≡◌, ◌+◌, ◌-◌, ◌≤◌, length, drop}
use Rattle.head.specs.Lines.{fields_of}
use Rattle.head.specs.Heads.{empty, gathered, table}
use Rattle.head.specs.Loops.{lines_after}
use Rattle.head.proofs.fields.read_fields.Given as goal

abbrev pub invariant-loop-done : goal.invariant-loop-done
invariant-loop-done l = (l.end ≤ length l.body) × (gathered (table l.fields) (fields_of (64 - l._done) (l.end + 2) (lines_after (drop l.end l.body))) ≡ gathered empty (fields_of 64 (l.first + 2) (lines_after (drop l.first l.body))))
