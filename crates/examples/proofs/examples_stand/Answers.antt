use Rattle.std.proofs.Common.{[], ◌∷◌, refl, arith}
use Rattle.ids.specs.Ids.{id_of, id_text, hexes}
use Rattle.page_store.specs.Stores.{two-pages}
use Rattle.session.specs.Plans.{plan_of}
use Rattle.volume.proofs.Laws.{unique}
use Rattle.volume.specs.Bundles.{Volume, big_endian}
use Rattle.examples.specs.Examples.{nineteen, sheet}
use Rattle.examples.proofs.Pages.{two-owned, none_free}
use Rattle.examples.proofs.examples_stand.Goals as goal

one : Volume nineteen (sheet ∷ [])
unfolding big_endian
one = record { each = (record { some = omega arith; named = omega arith; short = omega arith; fits = omega arith }, tt); is = refl }

pub returns : goal.returns
unfolding plan_of id_of id_text hexes big_endian
returns c = record {
  overlap-taken = refl;
  overlap-grown = refl;
  overlap-after = refl;
  overlap-fresh = refl;
  overlap-new = refl;
  overlap-call = refl;
  overlap-changes = refl;
  overlap-full = refl;
  gap-fault = refl;
  gap-after = refl;
  gap-call = refl;
  gap-none = refl;
  cut-call = refl;
  cut-changes = refl;
  cut-grown = refl;
  cut-after = refl;
  wrong-range = refl;
  wrong-fault = refl;
  wrong-call = refl;
  id-text = refl;
  id-read = refl;
  volume-bytes = refl;
  volume-length = refl;
  volume-one = one;
  volume-only = λ bs v. unique nineteen bs (sheet ∷ []) v one;
  pages-owned = two-owned;
  pages-free = none_free;
  pages-room = two-pages;
  age-stays = refl;
  age-ends = refl;
  age-kept = refl;
  age-swept = refl;
}
