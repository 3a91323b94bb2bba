use Rattle.std.proofs.Common.{arith}
use Rattle.std.proofs.lemmas.List.FromFn.{get_or-map-range_with_len}
use Rattle.text.specs.Bytes.{class_of}
use Rattle.text.specs.declared.Class.TheVariants.{Control}
use Rattle.text.proofs.class_of.Goals as goal

-- The table is `class_of` of 0, 1, .. 255: antt computes both.
pub returns : goal.returns
returns c = get_or-map-range_with_len class_of 0 256 c.args.b c.args.b Control (omega (arith, c.ranges.b.fits)) (omega arith)
