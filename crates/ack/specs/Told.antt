-- What an acknowledgement tells, by the outcome and the kind of call. Assumes nothing.
use Rattle.std.specs.Prelude.{ℕ, ◌^◌, ◌<◌, Bool, true, false, cond, List, [], Some, None, Option}
use Rattle.ids.specs.Ids.{InRange}
use Rattle.ids.specs.declared.SessionId.{SessionId}
use Rattle.outcome.specs.Outcomes.{report_of}
use Rattle.outcome.specs.declared.Answer.{Answer as Reported}
use Rattle.outcome.specs.declared.Answer.TheVariants.{Silent, Accepted, Refused}
use Rattle.outcome.specs.declared.Outcome.{Outcome}
use Rattle.outcome.specs.declared.Refusal.{Refusal}
use Rattle.outcome.specs.declared.Status.{Status}
use Rattle.outcome.specs.declared.Status.TheVariants as status
use Rattle.reply.specs.Address.{bytes_of}
use Rattle.reply.specs.Visible.{IsAddress}
use Rattle.ack.specs.declared.told.Call.{Call}
use Rattle.ack.specs.declared.told.Call.TheVariants.{Unread, Ping, Create, Fragment, Close, Cancel, Answer}
use Rattle.ack.specs.declared.told.Progress.{Progress}
use Rattle.ack.specs.declared.told.Stage.{Stage}
use Rattle.ack.specs.declared.told.Stage.TheVariants.{Receiving, AtApprover, Ready}

-- what an acknowledgement tells: the refusal, whether a session was opened, its id, the bytes received and the reply address
pub record Ack : Type 0 where
  pub refusal : Option Refusal
  pub opened : Bool
  pub id : Option SessionId
  pub received : Option ℕ
  pub reply : List ℕ

abbrev pub status_of : Option Refusal → Status
status_of None = status.Ok
status_of (Some r) = r.status

-- the reply address of a session that is ready
abbrev pub address_of : Stage → List ℕ
address_of Receiving = []
address_of AtApprover = []
address_of (Ready address) = bytes_of address

abbrev pub received_of : Option Progress → Option ℕ
received_of None = None
received_of (Some p) = Some p.received

abbrev pub reply_of : Option Progress → List ℕ
reply_of None = []
reply_of (Some p) = address_of p.stage

abbrev pub told : Option Refusal → Bool → Option SessionId → Option Progress → Ack
told refusal opened id found = record { refusal = refusal; opened = opened; id = id; received = received_of found; reply = reply_of found }

abbrev pub is_receiving : Stage → Bool
is_receiving Receiving = true
is_receiving AtApprover = false
is_receiving (Ready address) = false

-- a session that is at the approver after the call
abbrev pub is_away : Stage → Bool
is_away Receiving = false
is_away AtApprover = true
is_away (Ready address) = false

abbrev pub handed_over : Option Progress → Bool
handed_over None = false
handed_over (Some p) = is_away p.stage

-- a fragment that goes to the approver is acknowledged by the approver's answer
abbrev pub accepted : Call → Option Ack
accepted Unread = Some (told None false None None)
accepted Ping = Some (told None false None None)
accepted (Create id) = Some (told None true (Some id) None)
accepted (Fragment id found) = cond (handed_over found) None (Some (told None false (Some id) found))
accepted (Close id) = Some (told None false (Some id) None)
accepted (Cancel id) = Some (told None false (Some id) None)
accepted (Answer id found) = Some (told None false (Some id) found)

-- the session that a fragment or an answer found
abbrev pub found_by : Call → Option Progress
found_by Unread = None
found_by Ping = None
found_by (Create id) = None
found_by (Fragment id found) = found
found_by (Close id) = None
found_by (Cancel id) = None
found_by (Answer id found) = found

abbrev pub refused_as : Refusal → Call → Ack
refused_as refusal call = told (Some refusal) false None (found_by call)

abbrev pub answered : Reported → Call → Option Ack
answered Silent call = None
answered Accepted call = accepted call
answered (Refused refusal) call = Some (refused_as refusal call)

-- what is acknowledged, if anything is
abbrev pub ack_of : Outcome → Call → Option Ack
ack_of outcome call = answered (report_of outcome).answer call

-- what the types of the parts say of them
abbrev pub KnownRefusal : Option Refusal → Type 0
KnownRefusal None = Unit {0}
KnownRefusal (Some r) = r.code < 2 ^ 32

abbrev pub KnownId : Option SessionId → Type 0
KnownId None = Unit {0}
KnownId (Some id) = InRange id

abbrev pub KnownReceived : Option ℕ → Type 0
KnownReceived None = Unit {0}
KnownReceived (Some n) = n < 2 ^ 64

-- what can be told at all
pub record Tellable (a : Ack) : Type 0 where
  pub refusal : KnownRefusal a.refusal
  pub id : KnownId a.id
  pub received : KnownReceived a.received
  pub reply : IsAddress a.reply
