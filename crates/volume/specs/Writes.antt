-- What writing one bundle more does to a region.
use Rattle.std.specs.Prelude.{◌≡◌, ℕ, ◌+◌, ◌≤◌, Bool, cond, List, [], ◌∷◌, ◌++◌, length, take, drop, Some, None, Option, ◌==◌, nat_le, nat_lt}
use Rattle.volume.specs.Bundles.{Bundle, bytes_of, Proper, Volume, newest}
use Rattle.volume.specs.declared.bundle.Refusal.{Refusal}
use Rattle.volume.specs.declared.bundle.Refusal.TheVariants.{EmptyEntity, EmptyName, LongName, Outside, NoRoom}

-- the volume in a region: `used` bytes from `base` on
abbrev pub volume_in : List ℕ → ℕ → ℕ → List ℕ
volume_in region base used = take used (drop base region)

-- s stands at `at`, up to `end`; all else is as it was
pub record Put (before : List ℕ) (at : ℕ) (s after : List ℕ) (end : ℕ) : Type 0 where
  pub ends : end ≡ at + length s
  pub bytes : after ≡ take at before ++ (s ++ drop end before)

-- why no bundle of these lengths goes behind `at` in a region of `size` bytes; `before` says whether the entity lies before the volume
abbrev pub refusal : Bool → ℕ → ℕ → ℕ → ℕ → Option Refusal
refusal before size at entity name =
    cond (entity == 0) (Some EmptyEntity) (cond (name == 0) (Some EmptyName) (cond (nat_lt 128 name) (Some LongName) (cond before (cond (nat_le (at + (entity + name + 16)) size) None (Some NoRoom)) (Some Outside))))

-- the bundle b is written behind the volume, which now has `end` bytes
pub record Appended (region : List ℕ) (base used : ℕ) (b : Bundle) (after : List ℕ) (end : ℕ) : Type 0 where
  pub proper : Proper b
  pub grows : end ≡ used + length (bytes_of b)
  pub fits : base + end ≤ length region
  pub put : Put region (base + used) (bytes_of b) after (base + end)
  pub volume : (bs : List Bundle) → Volume (volume_in region base used) bs → Volume (volume_in after base end) (bs ++ (b ∷ []))

-- the volume at the start of a region is the bundles bs; what lies past it is as it was
pub record Packed (region : List ℕ) (bs : List Bundle) (after : List ℕ) (used : ℕ) : Type 0 where
  pub fits : used ≤ length region
  pub volume : Volume (take used after) bs
  pub rest : drop used after ≡ drop used region
  pub same : length after ≡ length region

-- what is read from s is what was written
pub record RoundTrip (s : List ℕ) (bs : List Bundle) : Type 0 where
  pub list : (cs : List Bundle) → Volume s cs → cs ≡ bs
  pub newest-of : (name : List ℕ) (cs : List Bundle) → Volume s cs → newest name cs ≡ newest name bs
