-- The number and the place of what is wrong with a request: what the head's fault says, or 5 and the judged field's line.
use Rattle.std.specs.Prelude.{ℕ}
use Rattle.head.specs.Faults as text
use Rattle.packet.specs.declared.Fault.{Fault}
use Rattle.packet.specs.declared.Fault.TheVariants.{Text, Field}

abbrev pub number_of : Fault → ℕ
number_of (Text f) = text.number_of f
number_of (Field at) = 5

abbrev pub place_of : Fault → ℕ
place_of (Text f) = text.place_of f
place_of (Field at) = at
