use Rattle.std.proofs.Common.{arith}
use Rattle.page_store.specs.Moves.{tail-page}
use Rattle.page_store.specs.Tables.{sound-of}
use Rattle.page_store.proofs.table.Table.last_of.Goals as goal

pub returns-then-m-chain-clause-within : goal.returns-then-m-chain-clause-within
returns-then-m-chain-clause-within c =
    (tail-page _ _ _ (sound-of c.args.self.now) c.args.owner c.requires.0 (omega (arith, c.requires.1, c.if-m-chain.true))).1
