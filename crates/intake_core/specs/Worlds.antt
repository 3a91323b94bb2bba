-- The world that an intake stands for, and what its calls do to it and to its store.
use Rattle.std.specs.Prelude.{◌≡◌, ℕ, zero, suc, ◌+◌, Bool, true, false, cond, ◌&&◌, List, [], ◌∷◌, ◌++◌, map, length, Some, None, Ok, Err, Option, Result, ◌==◌}
use Rattle.std.specs.Option.{option_map}
use Rattle.ack.specs.Told.{ack_of, handed_over, received_of, reply_of}
use Rattle.ack.specs.declared.told.Progress.{Progress}
use Rattle.outcome.specs.Outcomes.{report_of}
use Rattle.outcome.specs.declared.Outcome.{Outcome}
use Rattle.outcome.specs.declared.Outcome.TheVariants.{Done as Finished, NoSession}
use Rattle.packet.specs.Packets.{Request}
use Rattle.packet.specs.declared.Fault.{Fault}
use Rattle.packet.specs.declared.judging.Action.{Action}
use Rattle.packet.specs.declared.judging.Action.TheVariants.{Create, Ping, Fragment, Close, Cancel}
use Rattle.packet.specs.declared.ranges.Range.{Range}
use Rattle.session.specs.Rules.{grown}
use Rattle.store.specs.Meaning.{Meaning, Change, Added, Cleared, Published}
use Rattle.store.specs.Meaning.Change.{adding, clearing, publishing}
use Rattle.session.specs.Sessions.{Live, World, live, row, row_of}
use Rattle.session.specs.Plans.{Plan, refuse, ping, create, take, close, cancel, changes_of, close_plan, fresh, is_whole, outcome_of, plan_of, take_plan, with_live}
use Rattle.session.specs.Steps.{Done, Opened, fault_outcome}
use Rattle.session.specs.Told.{address_told, found_in, is_away_now, newly_away, request_ack}
use Rattle.session.specs.declared.records.Session.{Session}
use Rattle.session.specs.declared.records.Settings.{Settings}
use Rattle.intake_core.specs.declared.faults.Refused.{Refused}
use Rattle.intake_core.specs.declared.intake.Intake.{Intake}
use Rattle.intake_core.specs.declared.messages.Acted.{Acted}
use Rattle.intake_core.specs.declared.notice.Notice.{Notice}

abbrev pub world_of : {S : Type 0} → (S → Meaning) → Intake S → World
world_of meaning k = record { rows = map row_of k.rows; next = k.next; clock = k.clock; store = meaning k.store }

-- the changes made to a store, one after another, by the store's own account
abbrev pub Changed : {S : Type 0} → (S → Change → S → Type 0) → S → List Change → S → Type 0
Changed made s [] t = t ≡ s
Changed {S} made s (c ∷ cs) t = (u : S) × made s c u × Changed made u cs t

-- slots 0 up to n, cleared in order
abbrev pub clearings : ℕ → List Change
clearings zero = []
clearings (suc n) = clearings n ++ (clearing n ∷ [])

-- a world of which only the clock and the store matter
abbrev pub around : ℕ → Meaning → World
around clock m = record { rows = []; next = 0; clock = clock; store = m }

-- what a request comes to for the session in a row
abbrev pub live_plan : Settings → World → Request → Action → ℕ → Live → Plan
live_plan sets w q (Create shared) i x = refuse NoSession
live_plan sets w q Ping i x = refuse NoSession
live_plan sets w q (Fragment id r at) i x = take_plan sets w r at q.content_length i x
live_plan sets w q (Close id) i x = close_plan sets w i x
live_plan sets w q (Cancel id) i x = cancel i x

-- what becomes of a row and of the store by a plan that is no refusal
abbrev pub RowDone : Settings → ℕ → Request → Plan → Meaning → Option Live → Meaning → Type 0
RowDone sets clock q (refuse o) m y n = ⊥
RowDone sets clock q ping m y n = ⊥
RowDone sets clock q (create i) m y n = ⊥
RowDone sets clock q (take i x r) m y n = (y ≡ Some (grown sets clock x r (length q.body) (is_whole q))) × Added m i (fresh x r q.body) n
RowDone sets clock q (close i x) m y n = (y ≡ None) × Published m i x.path n
RowDone sets clock q (cancel i x) m y n = (y ≡ None) × Cleared m i n

pub record RowChanged {S : Type 0} (meaning : S → Meaning) (made : S → Change → S → Type 0) (sets : Settings) (clock : ℕ) (q : Request) (plan : Plan) (s : S) (o : Outcome) (y : Option Live) (t : S) : Type 0 where
  pub done : RowDone sets clock q plan (meaning s) y (meaning t)
  pub outcome : o ≡ outcome_of q plan
  pub account : Changed made s (changes_of q plan) t

-- a fragment was taken and made a session's record into y, or not, with the reason
abbrev pub Taken : {S : Type 0} → (S → Meaning) → (S → Change → S → Type 0) → Settings → ℕ → ℕ → Request → Range → ℕ → Live → S → Result Session Refused → S → Type 0
Taken meaning made sets clock i q r at x s (Ok y) t =
    (take_plan sets (around clock (meaning s)) r at q.content_length i x ≡ take i x r)
    × (live y ≡ grown sets clock x r (length q.body) (is_whole q))
    × Added (meaning s) i (fresh x r q.body) (meaning t)
    × made s (adding i (fresh x r q.body)) t
Taken meaning made sets clock i q r at x s (Err e) t = (take_plan sets (around clock (meaning s)) r at q.content_length i x ≡ refuse e.outcome) × (t ≡ s)

-- a slot was published under its session's destination, or not, with the reason
abbrev pub Shut : {S : Type 0} → (S → Meaning) → (S → Change → S → Type 0) → Settings → ℕ → Live → S → Result (Unit {0}) Refused → S → Type 0
Shut meaning made sets i x s (Ok done) t = (close_plan sets (around 0 (meaning s)) i x ≡ close i x) × Published (meaning s) i x.path (meaning t) × made s (publishing i x.path) t
Shut meaning made sets i x s (Err e) t = (close_plan sets (around 0 (meaning s)) i x ≡ refuse e.outcome) × (t ≡ s)

abbrev pub row_plan : Settings → World → Request → ℕ → Option Live → Plan
row_plan sets w q i x = with_live x i (live_plan sets w q q.action)

-- a row and its slot were changed by a request, or not, with the reason
abbrev pub Settled : {S : Type 0} → (S → Meaning) → (S → Change → S → Type 0) → Settings → ℕ → ℕ → Request → Option Session → S → Result Outcome Refused → Option Session → S → Type 0
Settled meaning made sets clock i q x s (Ok o) y t = RowChanged meaning made sets clock q (row_plan sets (around clock (meaning s)) q i (row_of x)) s o (row_of y) t
Settled meaning made sets clock i q x s (Err e) y t = (row_plan sets (around clock (meaning s)) q i (row_of x) ≡ refuse e.outcome) × (y ≡ x) × (t ≡ s)

-- a session was opened in row i, or not, with the reason
abbrev pub Created : {S : Type 0} → (S → Change → S → Type 0) → Plan → World → List ℕ → S → Result Outcome Refused → World → S → Type 0
Created made plan w path s (Ok o) v t = (i : ℕ) × (plan ≡ create i) × Opened w path i v × made s (clearing i) t × (o ≡ Finished)
Created made plan w path s (Err e) v t = (plan ≡ refuse e.outcome) × (v ≡ w) × (t ≡ s)

abbrev pub is_refusal : Plan → Bool
is_refusal (refuse o) = true
is_refusal ping = false
is_refusal (create i) = false
is_refusal (take i x r) = false
is_refusal (close i x) = false
is_refusal (cancel i x) = false

-- a plan was carried out, or it is a refusal and nothing was changed
abbrev pub Visited : {S : Type 0} → (S → Change → S → Type 0) → Settings → World → Request → Plan → S → Result Outcome Refused → World → S → Type 0
Visited made sets w q plan s (Ok o) v t = (is_refusal plan ≡ false) × (o ≡ outcome_of q plan) × Done sets w q plan v × Changed made s (changes_of q plan) t
Visited made sets w q plan s (Err e) v t = (plan ≡ refuse e.outcome) × (v ≡ w) × (t ≡ s)

abbrev pub row_in : List (Option Live) → Option ℕ → Option Live
row_in rows None = None
row_in rows (Some i) = row rows i

-- what is told of a session
pub record Shows (p : Option Progress) (x : Option Live) : Type 0 where
  pub received : received_of p ≡ option_map (λ y. y.received) x
  pub reply : reply_of p ≡ address_told x
  pub away : handed_over p ≡ is_away_now x

abbrev pub serial_of : Notice → ℕ
serial_of n = n.serial

-- the serial of a notice, if there is one
abbrev pub noticed : Option Notice → List ℕ
noticed None = []
noticed (Some n) = serial_of n ∷ []

abbrev pub outcome_in : Result Outcome Refused → Outcome
outcome_in (Ok o) = o
outcome_in (Err e) = e.outcome

abbrev pub is_done : Outcome → Bool
is_done o = (report_of o).number == 0

-- a session that is at the approver after a whole fragment has newly come there
abbrev pub notice_for : Result Outcome Refused → Bool → ℕ → List ℕ
notice_for (Ok o) away serial = cond (is_done o && away) (serial ∷ []) []
notice_for (Err e) away serial = []

-- a request was answered by its plan
pub record Acting {S : Type 0} (made : S → Change → S → Type 0) (sets : Settings) (w : World) (q : Request) (plan : Plan) (s : S) (a : Acted) (v : World) (t : S) : Type 0 where
  pub number : a.outcome ≡ outcome_of q plan
  pub done : Done sets w q plan v
  pub account : Changed made s (changes_of q plan) t
  pub told : ack_of a.outcome a.call ≡ request_ack (report_of a.outcome).answer sets w q.action (found_in sets w v q q.action)
  pub newly : noticed a.notice ≡ newly_away w.rows v.rows

-- a request was read and answered, or it could not be read, with the reason
abbrev pub Received : {S : Type 0} → (S → Change → S → Type 0) → Settings → World → Result Request Fault → S → Result (Acted × ℕ) Refused → World → S → Type 0
Received made sets w read s (Ok (a, n)) v t = (q : Request) × (read ≡ Ok q) × Acting made sets w q (plan_of sets w q) s a v t × (n ≡ q.head_size + length q.body)
Received made sets w read s (Err e) v t = (f : Fault) × (read ≡ Err f) × (e.outcome ≡ fault_outcome f) × (v ≡ w) × (t ≡ s)
