use Rattle.std.proofs.Common.{List}
use Rattle.volume.specs.Bundles.{Bundle}
use Rattle.volume.specs.Reads.{Without}
use Rattle.volume.proofs.Walks.{Walked}
use Rattle.volume.proofs.read.find.Given as goal

abbrev pub invariant-loop-found : goal.invariant-loop-found
invariant-loop-found l = (told : List Bundle) × Walked l.bytes l.found-iterator.left.now told × Without l.name told
