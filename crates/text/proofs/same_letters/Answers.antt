use Rattle.std.proofs.Common.{rules}
use Rattle.std.proofs.lemmas.Slice.Eq.{bytes_eq-Decides}
use Rattle.text.specs.Words.{same_letters}
use Rattle.text.proofs.same_letters.Goals as goal

pub returns : goal.returns
unfolding same_letters
returns c = search (rules, bytes_eq-Decides)
