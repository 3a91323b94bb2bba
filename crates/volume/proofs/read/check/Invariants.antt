use Rattle.std.proofs.Common.{◌≡◌, ◌+◌, ◌≤◌, List, length}
use Rattle.volume.specs.Bundles.{Bundle}
use Rattle.volume.proofs.Walks.{Walked}
use Rattle.volume.proofs.read.check.Given as goal

abbrev pub invariant-loop-found : goal.invariant-loop-found
invariant-loop-found l =
    (told : List Bundle) × Walked l.bytes l.found-iterator.left.now told × (l.count ≡ length told) × (length l.found-iterator.left.now + l.count ≤ length l.bytes)
