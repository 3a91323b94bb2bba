-- What the lines of an acknowledgement tell. Assumes nothing.
use Rattle.std.specs.Option.{option_copied}
use Rattle.ack.specs.declared.write.Lines.{Lines}
use Rattle.ack.specs.Told.{Ack, told}

abbrev pub told_by : Lines → Ack
told_by l = told l.refusal l.opened l.id (option_copied l.found)
