-- What it means that a whole bundle was put under a name by way of a slot.
use Rattle.std.specs.Prelude.{◌≡◌, ℕ, List, [], Some, ◌≢◌}
use Rattle.store.specs.Meaning.{Meaning}

pub record Stored (s : Meaning) (i : ℕ) (name xs : List ℕ) (t : Meaning) : Type 0 where
  pub stored : t.catalog name ≡ Some xs
  pub emptied : t.held i ≡ []
  pub others : (k : ℕ) → (k ≢ i) → t.held k ≡ s.held k
  pub names : (n : List ℕ) → (n ≢ name) → t.catalog n ≡ s.catalog n

-- a refusal on the way leaves all other slots and all names as they were
pub record Untouched (s : Meaning) (i : ℕ) (t : Meaning) : Type 0 where
  pub others : (k : ℕ) → (k ≢ i) → t.held k ≡ s.held k
  pub names : (n : List ℕ) → t.catalog n ≡ s.catalog n
