-- Whole lists: what reading all of a volume gives, and what writing a list leaves.
use Rattle.std.specs.Prelude.{◌≡◌, ℕ, ◌+◌, ◌<◌, true, List, [], map, reverse, length, take, Some, Ok, Err, vec_items, Result, Vec, slice_index_or}
use Rattle.std.specs.declared.alloc.Global.{Global}
use Rattle.std.specs.List.{flat_map}
use Rattle.volume.specs.Bundles.{Bundle, bytes_of}
use Rattle.volume.specs.Reads.{Damaged, Listed, laid, seen, placed}
use Rattle.volume.specs.Writes.{Packed, RoundTrip, refusal}
use Rattle.volume.specs.declared.bundle.BundleRef.{BundleRef}
use Rattle.volume.specs.declared.bundle.Found.{Found}
use Rattle.volume.specs.declared.whole.Unlisted.{Unlisted}
use Rattle.volume.specs.declared.whole.Unlisted.TheVariants.{Memory}
use Rattle.volume.specs.declared.whole.Unlisted.TheVariants as unlisted
use Rattle.volume.specs.declared.whole.Lost.{Lost}
use Rattle.volume.specs.declared.whole.Lost.TheVariants as lost
use Rattle.volume.specs.declared.whole.Unwritten.{Unwritten}

abbrev pub Read : List ℕ → Result (Vec Found Global) Unlisted → Type 0
Read s (Ok v) = Listed s (map placed (vec_items v))
Read s (Err (unlisted.Damaged d)) = Damaged s d
Read s (Err Memory) = Unit {0}

abbrev pub blank : Bundle
blank = record { entity = []; name = [] }

-- the bundles before the refused one are written; it is refused behind them
pub record Part (region : List ℕ) (bs : List Bundle) (after : List ℕ) (u : Unwritten) : Type 0 where
  pub inside : u.index < length bs
  pub used : ℕ
  pub packed : Packed region (take u.index bs) after used
  pub refused : refusal true (length region) (0 + used) (length (slice_index_or bs u.index blank).entity) (length (slice_index_or bs u.index blank).name) ≡ Some u.refusal

pub record Whole (region : List ℕ) (bs : List Bundle) (after : List ℕ) (used : ℕ) : Type 0 where
  pub packed : Packed region bs after used
  pub back : RoundTrip (take used after) bs

abbrev pub Written : List ℕ → List BundleRef → List ℕ → Result ℕ Unwritten → Type 0
Written region bs after (Ok used) = Whole region (map seen bs) after used
Written region bs after (Err u) = Part region (map seen bs) after u

-- the bundles bs come back, newest first with their offsets; only memory may keep them from it
abbrev pub Returned : List Bundle → Result (Vec Found Global) Lost → Type 0
Returned bs (Ok v) = map placed (vec_items v) ≡ reverse (laid 0 bs)
Returned bs (Err (lost.Unlisted e)) = e ≡ Memory
Returned bs (Err (lost.Unwritten u)) = ⊥

-- a bundle of bs is refused behind those before it
pub record Stuck (size : ℕ) (bs : List Bundle) (u : Unwritten) : Type 0 where
  pub inside : u.index < length bs
  pub refused : refusal true size (length (flat_map bytes_of (take u.index bs))) (length (slice_index_or bs u.index blank).entity) (length (slice_index_or bs u.index blank).name) ≡ Some u.refusal

abbrev pub Back : ℕ → List BundleRef → Result (Vec Found Global) Lost → Type 0
Back size bs (Ok v) = Returned (map seen bs) (Ok v)
Back size bs (Err (lost.Unlisted e)) = e ≡ Memory
Back size bs (Err (lost.Unwritten u)) = Stuck size (map seen bs) u
