use Rattle.std.proofs.Common.{arith}
use Rattle.page_store.specs.Moves.{head-page, next-page}
use Rattle.page_store.specs.Tables.{sound-of}
use Rattle.page_store.proofs.table.Table.page_at.Goals as goal

pub loop-init : goal.loop-init
loop-init c = head-page _ _ _ (sound-of c.args.self.now) c.args.owner c.requires.0 (omega (arith, c.requires.1))

pub loop-preserved : goal.loop-preserved
loop-preserved c = next-page _ _ _ (sound-of c.args.self.now) c.args.owner c.loop.counter c.loop.page c.requires.0 (omega (arith, c.requires.1)) c.loop.invariant.0
