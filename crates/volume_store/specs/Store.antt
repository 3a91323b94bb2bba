-- What a volume store means, and its own account of each change, to the last byte of the region.
use Rattle.std.specs.Prelude.{◌≡◌, ℕ, ◌+◌, ◌-◌, ◌*◌, ◌<◌, ◌≤◌, Bool, true, cond, ◌&&◌, List, [], ◌∷◌, ◌++◌, length, take, drop, Some, None, vec_items, vec_len, Option, nat_le, nat_lt, slice_set}
use Rattle.std.specs.Borrow.{Bor}
use Rattle.store.specs.Meaning.{Meaning, Change, nameable}
use Rattle.store.specs.Meaning.Change.{adding, clearing, publishing}
use Rattle.volume.specs.Bundles.{Bundle, newest}
use Rattle.volume.specs.Writes.{Appended}
use Rattle.volume_store.specs.declared.state.VolumeStore.{VolumeStore}
use Rattle.volume_store.specs.Readings.{Holds, reading}
use Rattle.volume_store.specs.State.{length_of, volume_bytes}

abbrev pub items : VolumeStore → List ℕ
items s = vec_items s.region

abbrev pub volume_of : VolumeStore → List ℕ
volume_of s = volume_bytes (items s) s.capacity s.used

-- the bundles that the volume is
abbrev pub bundles : VolumeStore → List Bundle
bundles s = (reading (volume_of s) s.volume).0

-- the bytes of slot k lie from k × C on
abbrev pub slot_bytes : VolumeStore → ℕ → List ℕ
slot_bytes s k = take (length_of s.lengths k) (drop (k * s.capacity) (items s))

abbrev pub entity_of : Option Bundle → Option (List ℕ)
entity_of (Some b) = Some b.entity
entity_of None = None

-- what a borrowed part holds
abbrev pub viewed : Option (Bor (List ℕ)) → Option (List ℕ)
viewed (Some x) = Some x.now
viewed None = None

-- a slot with bytes fits under a name when entity, name and trailer go into the rest of the region
abbrev pub fits_under : VolumeStore → ℕ → List ℕ → Bool
fits_under s k n = nameable n && ((nat_lt k 16 && nat_lt 0 (length_of s.lengths k)) && nat_le (16 * s.capacity + s.used + (length_of s.lengths k + length n + 16)) (vec_len s.region))

-- what the question's yes says
pub record Can (s : VolumeStore) (k : ℕ) (n : List ℕ) : Type 0 where
  pub named : nameable n ≡ true
  pub slot : k < 16
  pub some : 0 < length_of s.lengths k
  pub room : 16 * s.capacity + s.used + (length_of s.lengths k + length n + 16) ≤ vec_len s.region

abbrev pub meaning_of : VolumeStore → Meaning
meaning_of s = record {
  held = λ k. cond (nat_lt k 16) (slot_bytes s k) [];
  room = λ k. cond (nat_lt k 16) (s.capacity - length_of s.lengths k) 0;
  catalog = λ n. entity_of (newest n (bundles s));
  publishable = λ k n. fits_under s k n;
}

-- bytes were added: they stand behind the slot's own, and every other byte of the region is as it was
pub record Adding (s : VolumeStore) (k : ℕ) (xs : List ℕ) (t : VolumeStore) : Type 0 where
  pub region : items t ≡ take (k * s.capacity + length_of s.lengths k) (items s) ++ (xs ++ drop (k * s.capacity + length_of s.lengths k + length xs) (items s))
  pub lengths : t.lengths ≡ slice_set s.lengths k (length_of s.lengths k + length xs)
  pub capacity : t.capacity ≡ s.capacity
  pub used : t.used ≡ s.used

-- no byte of the region changed
pub record Clearing (s : VolumeStore) (k : ℕ) (t : VolumeStore) : Type 0 where
  pub region : t.region ≡ s.region
  pub lengths : t.lengths ≡ slice_set s.lengths k 0
  pub capacity : t.capacity ≡ s.capacity
  pub used : t.used ≡ s.used

-- there is nothing to clear above the slots
pub record Clearance (s : VolumeStore) (k : ℕ) (t : VolumeStore) : Type 0 where
  pub inside : k < 16 → Clearing s k t
  pub above : 16 ≤ k → t ≡ s

-- the slot's bytes and the name were written behind the last trailer as one bundle, which is read back behind the others
pub record Publishing (s : VolumeStore) (k : ℕ) (n : List ℕ) (t : VolumeStore) : Type 0 where
  pub region : Appended (items s) (16 * s.capacity) s.used (record { entity = slot_bytes s k; name = n }) (items t) t.used
  pub lengths : t.lengths ≡ slice_set s.lengths k 0
  pub capacity : t.capacity ≡ s.capacity
  pub read : bundles t ≡ bundles s ++ (record { entity = slot_bytes s k; name = n } ∷ [])

abbrev pub Accounted : VolumeStore → Change → VolumeStore → Type 0
Accounted s (adding k xs) t = Adding s k xs t
Accounted s (clearing k) t = Clearance s k t
Accounted s (publishing k n) t = Publishing s k n t

-- 16 slots of `capacity` bytes and `used` bytes that are a volume fit a region
pub record Fitting (region : List ℕ) (capacity used : ℕ) : Type 0 where
  pub some : 1 ≤ capacity
  pub room : 16 * capacity + used ≤ length region
  pub volume : Holds (volume_bytes region capacity used)

-- a new store: the volume as it was, the slots empty
pub record Opened (bytes : List ℕ) (c u : ℕ) (s : VolumeStore) : Type 0 where
  pub region : items s ≡ bytes
  pub capacity : s.capacity ≡ c
  pub used : s.used ≡ u
  pub slots : (k : ℕ) → (meaning_of s).held k ≡ []
  pub fitting : Fitting bytes c u
