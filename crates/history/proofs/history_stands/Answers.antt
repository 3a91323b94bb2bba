use Rattle.std.proofs.Common.{refl}
use Rattle.history.proofs.Histories.{faithful}
use Rattle.history.proofs.history_stands.Goals as goal

pub returns : goal.returns
returns c = record {
  law = faithful;
  samples = record { first = refl; counted = refl; apart = refl; empty = refl; stays = refl; ends = refl };
}
