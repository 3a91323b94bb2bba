-- The number and the place of what is wrong with a head: 2 no end yet, 3 a bad line, 4 a known field again.
use Rattle.std.specs.Prelude.{ℕ}
use Rattle.head.specs.declared.Fault.{Fault}
use Rattle.head.specs.declared.Fault.TheVariants.{Unfinished, Malformed, Repeated}

abbrev pub number_of : Fault → ℕ
number_of Unfinished = 2
number_of (Malformed at) = 3
number_of (Repeated at) = 4

abbrev pub place_of : Fault → ℕ
place_of Unfinished = 0
place_of (Malformed at) = at
place_of (Repeated at) = at
