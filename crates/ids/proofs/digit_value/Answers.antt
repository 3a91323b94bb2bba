use Rattle.std.proofs.Common.{arith}
use Rattle.std.proofs.lemmas.List.FromFn.{get_or-map-range_with_len}
use Rattle.std.specs.Char.{digit_value}
use Rattle.ids.proofs.digit_value.Goals as goal

-- The table is `digit_value` of 0, 1, .. 255: antt computes both.
pub returns : goal.returns
returns c = get_or-map-range_with_len digit_value 0 256 c.args.b c.args.b 0 (omega (arith, c.ranges.b.fits)) (omega arith)
