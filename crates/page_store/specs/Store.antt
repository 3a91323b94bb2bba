-- What a page store means, and its own account of each change, to the last byte of the region.
use Rattle.std.specs.Prelude.{◌≡◌, ℕ, ◌+◌, ◌-◌, ◌*◌, ◌%◌, ◌<◌, ◌≤◌, Bool, cond, ◌&&◌, ◌||◌, List, [], ◌++◌, length, Some, None, vec_items, vec_len, Option, ◌==◌, ◌≢◌, is_some, nat_le, nat_lt, slice_get, slice_set}
use Rattle.inline_bytes.specs.declared.held.InlineBytes.{InlineBytes}
use Rattle.store.specs.Meaning.{Meaning, Change, nameable}
use Rattle.store.specs.Meaning.Change.{adding, clearing, publishing}
use Rattle.page_store.specs.declared.state.PageStore.{PageStore}
use Rattle.page_store.specs.Bytes.{content, Written}
use Rattle.page_store.specs.Names.{title, row_with, standing, target}
use Rattle.page_store.specs.Owners.{pages_in, count_in, Spliced}
use Rattle.page_store.specs.State.{length_of}

abbrev pub pages_at : PageStore → ℕ → List ℕ
pages_at s k = pages_in s.table k

abbrev pub owned : PageStore → ℕ → ℕ
owned s k = count_in s.table k

abbrev pub bytes_at : PageStore → ℕ → List ℕ
bytes_at s k = content (vec_items s.region) (pages_at s k) (length_of s.lengths k)

-- the row of a name that stands
abbrev pub entry : List (Option (InlineBytes 128)) → List ℕ → Option ℕ
entry names n = cond (nameable n) (row_with names n) None

abbrev pub published_at : PageStore → Option ℕ → Option (List ℕ)
published_at s (Some e) = Some (bytes_at s (16 + e))
published_at s None = None

-- room: as many bytes as the slot's own pages and the free ones take, without those that it holds
abbrev pub room_of : PageStore → ℕ → ℕ
room_of s k = 4096 * (owned s k + owned s 48) - length_of s.lengths k

-- a slot with bytes fits under a name that stands, or while fewer than 32 names do
abbrev pub fits_under : PageStore → ℕ → List ℕ → Bool
fits_under s k n = nameable n && ((nat_lt k 16 && nat_lt 0 (length_of s.lengths k)) && (is_some (row_with s.names n) || nat_lt (standing s.names) 32))

-- the row that a slot can be published under a name in
abbrev pub row_for : PageStore → ℕ → List ℕ → Option ℕ
row_for s k n = cond (nameable n && (nat_lt k 16 && nat_lt 0 (length_of s.lengths k))) (target s.names n) None

abbrev pub meaning_of : PageStore → Meaning
meaning_of s = record {
  held = λ k. cond (nat_lt k 16) (bytes_at s k) [];
  room = λ k. cond (nat_lt k 16) (room_of s k) 0;
  catalog = λ n. published_at s (entry s.names n);
  publishable = λ k n. fits_under s k n;
}

-- bytes were added: free pages went behind the slot's own, and only the bytes' places in the region changed
pub record Adding (s : PageStore) (k : ℕ) (xs : List ℕ) (t : PageStore) : Type 0 where
  pub region : Written (vec_items s.region) (pages_at t k) (length_of s.lengths k) xs (vec_items t.region)
  pub pages : Spliced s.table k 48 (owned t k - owned s k) t.table
  pub lengths : t.lengths ≡ slice_set s.lengths k (length_of s.lengths k + length xs)
  pub names : t.names ≡ s.names

-- a slot's pages went behind the free ones
pub record Clearing (s : PageStore) (k : ℕ) (t : PageStore) : Type 0 where
  pub region : t.region ≡ s.region
  pub pages : Spliced s.table 48 k (owned s k) t.table
  pub lengths : t.lengths ≡ slice_set s.lengths k 0
  pub names : t.names ≡ s.names

-- there is nothing to clear above the slots
pub record Clearance (s : PageStore) (k : ℕ) (t : PageStore) : Type 0 where
  pub inside : k < 16 → Clearing s k t
  pub above : 16 ≤ k → t ≡ s

-- a slot's pages are now those of row e, whose old ones went behind the free ones; no byte of the region changed
pub record Publishing (s : PageStore) (k e : ℕ) (n : List ℕ) (t : PageStore) : Type 0 where
  pub region : t.region ≡ s.region
  pub given : pages_at t (16 + e) ≡ pages_at s k
  pub none : pages_at t k ≡ []
  pub freed : pages_at t 48 ≡ pages_at s 48 ++ pages_at s (16 + e)
  pub others : (j : ℕ) → j < 48 → (j ≢ 16 + e) → (j ≢ k) → pages_at t j ≡ pages_at s j
  pub lengths : t.lengths ≡ slice_set (slice_set s.lengths (16 + e) (length_of s.lengths k)) k 0
  pub named : title t.names e ≡ Some n
  pub names : (f : ℕ) → (f ≢ e) → slice_get t.names f ≡ slice_get s.names f

abbrev pub Accounted : PageStore → Change → PageStore → Type 0
Accounted s (adding k xs) t = Adding s k xs t
Accounted s (clearing k) t = Clearance s k t
Accounted s (publishing k n) t = (e : ℕ) × ((target s.names n ≡ Some e) × Publishing s k e n t)

-- 1 to 1,024 pages of 4,096 bytes fill a region of so many bytes
abbrev pub fillable : ℕ → Bool
fillable n = n % 4096 == 0 && (nat_le 4096 n && nat_le n 4194304)

-- a new store: nothing held, nothing published, every page free
pub record Empty (s : PageStore) : Type 0 where
  pub slots : (k : ℕ) → (meaning_of s).held k ≡ []
  pub names : (n : List ℕ) → (meaning_of s).catalog n ≡ None
  pub free : 4096 * owned s 48 ≡ vec_len s.region
