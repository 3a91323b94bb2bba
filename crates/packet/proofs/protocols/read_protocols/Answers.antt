use Rattle.packet.specs.Protocols.{protocols_of}
use Rattle.packet.proofs.protocols.read_protocols.Goals as goal

pub returns : goal.returns
unfolding protocols_of
returns c = c.read_ids.ensures
