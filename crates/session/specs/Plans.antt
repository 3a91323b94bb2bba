-- What a request comes to in a world: the plan, its outcome, and the changes that it makes to the store.
use Rattle.std.specs.Prelude.{ℕ, ◌-◌, Bool, true, false, cond, not, List, [], ◌∷◌, length, drop, is_some, Some, None, Option, ◌==◌}
use Rattle.ids.specs.declared.SessionId.{SessionId}
use Rattle.outcome.specs.declared.Outcome.{Outcome}
use Rattle.outcome.specs.declared.Outcome.TheVariants.{Done, UploadsOff, NoSession, TooManySessions, CutBody}
use Rattle.packet.specs.Packets.{Request}
use Rattle.packet.specs.declared.judging.Action.{Action}
use Rattle.packet.specs.declared.judging.Action.TheVariants.{Create, Ping, Fragment, Close, Cancel}
use Rattle.packet.specs.declared.ranges.Range.{Range}
use Rattle.store.specs.Meaning.{Change}
use Rattle.store.specs.Meaning.Change.{adding, clearing, publishing}
use Rattle.session.specs.Sessions.{Live, World, row, index_of}
use Rattle.session.specs.Rules.{is_of, is_free, fragment_fault, close_fault, create_fault}
use Rattle.session.specs.declared.records.Settings.{Settings}

-- what is to be done: refuse, or act on a row and the session in it
pub data Plan : Type 0 where
  refuse : Outcome → Plan
  ping : Plan
  create : ℕ → Plan
  take : ℕ → Live → Range → Plan
  close : ℕ → Live → Plan
  cancel : ℕ → Live → Plan

-- the lowest row of the session that an id and a path name
abbrev pub found : Settings → World → SessionId → List ℕ → Option ℕ
found set w id path = cond (id.site == set.site) (index_of (is_of id.serial path) w.rows) None

abbrev pub with_live : Option Live → ℕ → (ℕ → Live → Plan) → Plan
with_live None i f = refuse NoSession
with_live (Some x) i f = f i x

abbrev pub with_row : World → Option ℕ → (ℕ → Live → Plan) → Plan
with_row w None f = refuse NoSession
with_row w (Some i) f = with_live (row w.rows i) i f

abbrev pub unless : Option Outcome → Plan → Plan
unless (Some o) p = refuse o
unless None p = p

abbrev pub in_row : Option ℕ → Plan
in_row None = refuse TooManySessions
in_row (Some i) = create i

abbrev pub stands : World → List ℕ → Bool
stands w path = is_some (w.store.catalog path)

unfoldable pub create_plan : Settings → World → Bool → List ℕ → Plan
create_plan set w shared path =
    unless (create_fault set shared path (stands w path) (not (is_some (index_of is_free w.rows))) w.next) (in_row (index_of is_free w.rows))

abbrev pub take_plan : Settings → World → Range → ℕ → ℕ → ℕ → Live → Plan
take_plan set w r at n i x = unless (fragment_fault set x r at n (w.store.room i)) (take i x r)

abbrev pub close_plan : Settings → World → ℕ → Live → Plan
close_plan set w i x = unless (close_fault set x.phase (stands w x.path) (w.store.publishable i x.path)) (close i x)

abbrev pub action_plan : Settings → World → Request → Action → Plan
action_plan set w q (Create shared) = create_plan set w shared q.path
action_plan set w q Ping = ping
action_plan set w q (Fragment id r at) = with_row w (found set w id q.path) (take_plan set w r at q.content_length)
action_plan set w q (Close id) = with_row w (found set w id q.path) (close_plan set w)
action_plan set w q (Cancel id) = with_row w (found set w id q.path) cancel

abbrev pub is_ping : Action → Bool
is_ping (Create shared) = false
is_ping Ping = true
is_ping (Fragment id r at) = false
is_ping (Close id) = false
is_ping (Cancel id) = false

-- only a ping is answered while uploads are off
unfoldable pub plan_of : Settings → World → Request → Plan
plan_of set w q = cond (is_ping q.action) ping (cond set.uploads (action_plan set w q q.action) (refuse UploadsOff))

-- whether all announced bytes came
abbrev pub is_whole : Request → Bool
is_whole q = length q.body == q.content_length

abbrev pub outcome_of : Request → Plan → Outcome
outcome_of q (refuse o) = o
outcome_of q ping = Done
outcome_of q (create i) = Done
outcome_of q (take i x r) = cond (is_whole q) Done CutBody
outcome_of q (close i x) = Done
outcome_of q (cancel i x) = Done

-- the bytes of a fragment past those that are kept
abbrev pub fresh : Live → Range → List ℕ → List ℕ
fresh x r body = drop (x.received - r.first) body

-- the changes made to the store, in order
abbrev pub changes_of : Request → Plan → List Change
changes_of q (refuse o) = []
changes_of q ping = []
changes_of q (create i) = clearing i ∷ []
changes_of q (take i x r) = adding i (fresh x r q.body) ∷ []
changes_of q (close i x) = publishing i x.path ∷ []
changes_of q (cancel i x) = clearing i ∷ []
