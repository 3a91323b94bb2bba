-- The whole law over histories.
use Rattle.std.specs.Prelude.{◌≡◌, ℕ, List, Some, Option}
use Rattle.store.specs.Meaning.{Meaning}
use Rattle.session.specs.Sessions.{receiving, Live, World, row}
use Rattle.session.specs.Steps.{Started, Call}
use Rattle.session.specs.declared.records.Settings.{Settings}
use Rattle.history.specs.Ledger.{Event, ledger_of}
use Rattle.history.specs.Law.{Tells, Runs}
use Rattle.finishing.specs.Finishing.{Finishing, Finished}
use Rattle.law.specs.Heard.{Heard, events, Story, RangesTrue}

-- what holds of a world after the events of its history
pub record Promise (sets : Settings) (start : List ℕ → Option (List ℕ)) (es : List Event) (w : World) : Type 0 where
  -- its sessions and its catalog are those of the ledger
  pub tells : Tells sets start (ledger_of sets es) w
  -- every receiving session can be finished: each finishing list run next ends in a close that is taken, with exactly these bytes
  pub finishes : (i : ℕ) (x : Live) → row w.rows i ≡ Some x → x.phase ≡ receiving
      → (t : ℕ) (cs : List Call) (z : World) (page : ℕ) (input : List ℕ) (v : World)
      → Finishing sets w i x t cs z page input v → Finished sets w i x t cs z page input v

-- for every run of an intake newly set up, over any store
abbrev pub Promised : Type 0
Promised = (sets : Settings) (m : Meaning) (u w : World) (es : List Event) → Started sets m u → Runs sets u es w → Promise sets m.catalog es w

-- what holds of a world after the calls of its history, each with what was acknowledged
pub record PromiseHeard (sets : Settings) (start : List ℕ → Option (List ℕ)) (hs : List Heard) (w : World) : Type 0 where
  -- all that holds after their events
  pub after : Promise sets start (events hs) w
  -- every range that was acknowledged gave the count after its call
  pub ranges : RangesTrue sets hs

-- for every such run, with its acknowledgements
abbrev pub PromisedHeard : Type 0
PromisedHeard = (sets : Settings) (m : Meaning) (u w : World) (hs : List Heard) → Started sets m u → Story sets u hs w → PromiseHeard sets m.catalog hs w
