-- What a store means, and what one change does to that meaning. Nothing above a store speaks of anything else.
use Rattle.std.specs.Prelude.{◌≡◌, ℕ, ◌+◌, ◌≤◌, Bool, ◌&&◌, List, [], ◌++◌, length, Some, Option, ◌≢◌, nat_le}

-- the bytes in each slot of the staging area, how many more it takes, what is published under a name, and
-- whether a slot can be published under a name now
pub record Meaning : Type 0 where
  pub held : ℕ → List ℕ
  pub room : ℕ → ℕ
  pub catalog : List ℕ → Option (List ℕ)
  pub publishable : ℕ → List ℕ → Bool

-- a name has 1 to 128 bytes
abbrev pub nameable : List ℕ → Bool
nameable n = nat_le 1 (length n) && nat_le (length n) 128

-- the changes that a store can be asked for
pub data Change : Type 0 where
  adding : ℕ → List ℕ → Change
  clearing : ℕ → Change
  publishing : ℕ → List ℕ → Change

-- bytes xs were added to slot i
pub record Added (s : Meaning) (i : ℕ) (xs : List ℕ) (t : Meaning) : Type 0 where
  pub grown : t.held i ≡ s.held i ++ xs
  pub falls : t.room i + length xs ≡ s.room i
  pub others : (k : ℕ) → (k ≢ i) → t.held k ≡ s.held k
  pub rooms : (k : ℕ) → (k ≢ i) → t.room k ≤ s.room k
  pub names : (n : List ℕ) → t.catalog n ≡ s.catalog n

-- slot i was cleared
pub record Cleared (s : Meaning) (i : ℕ) (t : Meaning) : Type 0 where
  pub emptied : t.held i ≡ []
  pub rises : t.room i ≡ s.room i + length (s.held i)
  pub others : (k : ℕ) → (k ≢ i) → t.held k ≡ s.held k
  pub rooms : (k : ℕ) → (k ≢ i) → s.room k ≤ t.room k
  pub names : (n : List ℕ) → t.catalog n ≡ s.catalog n

-- slot i was published under a name; what this does to rooms is the store's own
pub record Published (s : Meaning) (i : ℕ) (name : List ℕ) (t : Meaning) : Type 0 where
  pub stored : t.catalog name ≡ Some (s.held i)
  pub emptied : t.held i ≡ []
  pub others : (k : ℕ) → (k ≢ i) → t.held k ≡ s.held k
  pub names : (n : List ℕ) → (n ≢ name) → t.catalog n ≡ s.catalog n
