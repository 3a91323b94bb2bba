use Rattle.std.proofs.Common.{◌≡◌, ℕ, ◌<◌, List, []}
use Rattle.intake_core.specs.Worlds.{Changed, clearings}
use Rattle.intake_core.proofs.calls.cleared.Given as goal

abbrev pub invariant-loop-i : goal.invariant-loop-i
invariant-loop-i g l =
    ((k : ℕ) → k < l.i → (g.S.Store.meaning l.store).held k ≡ [])
    × ((n : List ℕ) → (g.S.Store.meaning l.store).catalog n ≡ (g.S.Store.meaning l.initial.store).catalog n)
    × Changed g.S.Store.made l.initial.store (clearings l.i) l.store
