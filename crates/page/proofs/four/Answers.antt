use Rattle.std.proofs.Common.{[], ◌∷◌}
use Rattle.ids.specs.Ids.{hexes}
use Rattle.page.proofs.four.Goals as goal

pub returns : goal.returns
unfolding hexes
returns c = λ j. c.hex_digit.ensures j ∷ c.hex_digit-2.ensures j ∷ c.hex_digit-3.ensures j ∷ c.hex_digit-4.ensures j ∷ []
