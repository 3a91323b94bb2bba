use Rattle.std.proofs.Common.{length}
use Rattle.packet.proofs.protocols.+read_after_read_ids.Given as goal

abbrev pub decreases-read_after : goal.decreases-read_after
decreases-read_after l = length l.s.now

abbrev pub decreases-read_ids : goal.decreases-read_ids
decreases-read_ids l = length l.s.now
