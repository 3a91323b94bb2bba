use Rattle.std.proofs.Common.{refl, arith}
use Rattle.volume.specs.Bundles.{big_endian}
use Rattle.volume.proofs.sample.example.Goals as goal

pub returns : goal.returns
unfolding big_endian
returns c = record {
  long = refl;
  bytes = refl;
  volume = record { each = (record { some = omega arith; named = omega arith; short = omega arith; fits = omega arith }, tt); is = refl };
}
