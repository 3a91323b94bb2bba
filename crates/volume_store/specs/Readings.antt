-- The one list of bundles that a volume is.
use Rattle.std.specs.Prelude.{ℕ, List, [], ◌∷◌, refl}
use mathlib.Core.List.{is_set}
use Rattle.std.proofs.Math.Logic.{∥∥₁_elim}
use Rattle.std.proofs.Math.Bridge.{le_prop}
use Rattle.std.proofs.Math.Nat.{ℕ_set}
use std.HLevel.{Σ_prop_path, ×_prop}
use Rattle.std.specs.List.{AllByRecursion}
use Rattle.volume.specs.Bundles.{Bundle, Volume, Proper}
use Rattle.volume.proofs.Laws.{unique}

-- bytes are a volume: some list of bundles, joined
abbrev pub Holds : List ℕ → Type 0
Holds s = (bs : List Bundle) × Volume s bs

proper-prop : (b : Bundle) → IsProp (Proper b)
proper-prop b p q = λ i. record {
  some = le_prop p.some q.some i;
  named = le_prop p.named q.named i;
  short = le_prop p.short q.short i;
  fits = le_prop p.fits q.fits i;
}

all_prop : (bs : List Bundle) → IsProp (AllByRecursion Proper bs)
all_prop [] = λ p q. refl
all_prop (b ∷ bs) = ×_prop (proper-prop b) (all_prop bs)

volume-prop : (s : List ℕ) (bs : List Bundle) → IsProp (Volume s bs)
volume-prop s bs p q = λ i. record { each = all_prop bs p.each q.each i; is = is_set ℕ_set _ _ p.is q.is i }

-- there is one at most
pub holds_prop : (s : List ℕ) → IsProp (Holds s)
holds_prop s x y = Σ_prop_path (volume-prop s) (unique s x.0 y.0 x.1 y.1)

unfoldable pub reading : (s : List ℕ) → ∥ Holds s ∥₁ → Holds s
reading s h = ∥∥₁_elim h (holds_prop s) (λ x. x)
