use Rattle.std.proofs.Common.{map, take}
use Rattle.volume.specs.Reads.{seen}
use Rattle.volume.specs.Writes.{Packed}
use Rattle.volume.proofs.whole.write_all.Given as goal

abbrev pub invariant-loop-index : goal.invariant-loop-index
invariant-loop-index l = Packed l.initial.region (map seen (take l.index-counter l.bundles)) l.region l.used
