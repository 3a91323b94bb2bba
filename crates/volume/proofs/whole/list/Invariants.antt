use Rattle.std.proofs.Common.{◌≡◌, List, length, map, reverse, vec_items}
use Rattle.volume.specs.Bundles.{Bundle}
use Rattle.volume.specs.Reads.{placed, laid}
use Rattle.volume.proofs.Walks.{Walked}
use Rattle.volume.proofs.whole.list.Given as goal

abbrev pub invariant-loop-found : goal.invariant-loop-found
invariant-loop-found l =
    (told : List Bundle) × Walked l.bytes l.found-iterator.left.now told × (map placed (vec_items l.all) ≡ reverse (laid (length l.found-iterator.left.now) told))
