-- What a tick does to a table and a store.
use Rattle.std.specs.Prelude.{◌≡◌, ℕ, zero, suc, true, false, cond, List, [], ◌∷◌, ◌++◌, map, Option}
use Rattle.session.specs.Sessions.{Live, row}
use Rattle.session.specs.Rules.{is_expired}
use Rattle.session.specs.Steps.{count_expired, swept}
use Rattle.store.specs.Meaning.{Change, Meaning}
use Rattle.store.specs.Meaning.Change.{clearing}
use Rattle.intake_core.specs.Worlds.{Changed}

-- the slots of the expired among the first n rows, cleared in order
abbrev pub sweeps : ℕ → List (Option Live) → ℕ → List Change
sweeps clock rows zero = []
sweeps clock rows (suc n) = sweeps clock rows n ++ cond (is_expired clock (row rows n)) (clearing n ∷ []) []

-- the sessions that had expired were ended, which made table rs into vs, and their slots cleared, which made store s into t
pub record Swept {S : Type 0} (meaning : S → Meaning) (made : S → Change → S → Type 0) (clock : ℕ) (rs : List (Option Live)) (s : S) (ended : ℕ) (vs : List (Option Live)) (t : S) : Type 0 where
  pub rows : vs ≡ map (swept clock) rs
  pub count : ended ≡ count_expired clock rs
  pub emptied : (i : ℕ) → is_expired clock (row rs i) ≡ true → (meaning t).held i ≡ []
  pub others : (i : ℕ) → is_expired clock (row rs i) ≡ false → (meaning t).held i ≡ (meaning s).held i
  pub names : (n : List ℕ) → (meaning t).catalog n ≡ (meaning s).catalog n
  pub account : Changed made s (sweeps clock rs 16) t
