-- What is told of a call: its acknowledgement, and the notices handed out.
use Rattle.std.specs.Prelude.{ℕ, Bool, true, false, cond, not, ◌&&◌, List, [], ◌∷◌, ◌++◌, Some, None, Ok, Err, Option, Result, nat_lt}
use Rattle.std.specs.Option.{option_map}
use Rattle.ack.specs.Told.{Ack}
use Rattle.ids.specs.declared.SessionId.{SessionId}
use Rattle.outcome.specs.Outcomes.{report_of}
use Rattle.outcome.specs.declared.Answer.{Answer as Reported}
use Rattle.outcome.specs.declared.Answer.TheVariants.{Silent, Accepted, Refused}
use Rattle.outcome.specs.declared.Refusal.{Refusal}
use Rattle.packet.specs.Packets.{Request, packet_of}
use Rattle.packet.specs.declared.Fault.{Fault}
use Rattle.packet.specs.declared.judging.Action.{Action}
use Rattle.packet.specs.declared.judging.Action.TheVariants.{Create, Ping, Fragment, Close, Cancel}
use Rattle.store.specs.Meaning.{Change}
use Rattle.session.specs.Sessions.{Phase, receiving, away, ready, Live, World, row, index_of}
use Rattle.session.specs.Rules.{is_asked, is_away}
use Rattle.session.specs.Plans.{found, plan_of, changes_of}
use Rattle.session.specs.Steps.{Word, message_outcome, answer_outcome}
use Rattle.session.specs.declared.records.Settings.{Settings}

-- the reply address of a session that is ready
abbrev pub address_in : Phase → List ℕ
address_in receiving = []
address_in away = []
address_in (ready a) = a

abbrev pub address_told : Option Live → List ℕ
address_told None = []
address_told (Some x) = address_in x.phase

-- a session that was found is told by the bytes it has and its reply address
abbrev pub tell : Option Refusal → Bool → Option SessionId → Option Live → Ack
tell refusal opened id x = record { refusal = refusal; opened = opened; id = id; received = option_map (λ y. y.received) x; reply = address_told x }

abbrev pub id_in : Settings → ℕ → SessionId
id_in sets serial = record { site = sets.site; serial = serial }

abbrev pub is_away_now : Option Live → Bool
is_away_now None = false
is_away_now (Some x) = is_away x.phase

abbrev pub row_at : World → Option ℕ → Option Live
row_at v None = None
row_at v (Some i) = row v.rows i

-- the session that a fragment found in world w, as it is in world v; where uploads are off none is looked for
abbrev pub found_in : Settings → World → World → Request → Action → Option Live
found_in sets w v q (Create shared) = None
found_in sets w v q Ping = None
found_in sets w v q (Fragment id r at) = cond sets.uploads (row_at v (found sets w id q.path)) None
found_in sets w v q (Close id) = None
found_in sets w v q (Cancel id) = None

-- a message of number 0; a fragment that goes to the approver is acknowledged by the approver's answer
abbrev pub done_ack : Settings → World → Action → Option Live → Option Ack
done_ack sets w (Create shared) x = Some (tell None true (Some (id_in sets w.next)) None)
done_ack sets w Ping x = Some (tell None false None None)
done_ack sets w (Fragment id r at) x = cond (is_away_now x) None (Some (tell None false (Some id) x))
done_ack sets w (Close id) x = Some (tell None false (Some id) None)
done_ack sets w (Cancel id) x = Some (tell None false (Some id) None)

abbrev pub request_ack : Reported → Settings → World → Action → Option Live → Option Ack
request_ack Silent sets w a x = None
request_ack Accepted sets w a x = done_ack sets w a x
request_ack (Refused refusal) sets w a x = Some (tell (Some refusal) false None x)

abbrev pub read_ack : Reported → Settings → World → World → Result Request Fault → Option Ack
read_ack rep sets w v (Ok q) = request_ack rep sets w q.action (found_in sets w v q q.action)
read_ack rep sets w v (Err e) = request_ack rep sets w Ping None

-- the acknowledgement of a message that led from world w to world v
abbrev pub message_ack : Settings → World → ℕ → List ℕ → World → Option Ack
message_ack sets w page input v = read_ack (report_of (message_outcome sets w page input)).answer sets w v (packet_of input)

abbrev pub verdict_ack : Reported → Settings → ℕ → Option Live → Option Ack
verdict_ack Silent sets serial x = None
verdict_ack Accepted sets serial x = Some (tell None false (Some (id_in sets serial)) x)
verdict_ack (Refused refusal) sets serial x = Some (tell (Some refusal) false None x)

-- the acknowledgement of an answer
abbrev pub answer_ack : Settings → World → ℕ → ℕ → Word → World → Option Ack
answer_ack sets w page serial word v = verdict_ack (report_of (answer_outcome w page serial word)).answer sets serial (row_at v (index_of (is_asked serial) w.rows))

abbrev pub new_at : Option Live → Option Live → List ℕ
new_at x None = []
new_at x (Some y) = cond (is_away y.phase && not (is_away_now x)) (y.serial ∷ []) []

-- the serials of the sessions that are at the approver now and were not before, row by row
abbrev pub newly_away : List (Option Live) → List (Option Live) → List ℕ
newly_away [] ys = []
newly_away (x ∷ xs) [] = []
newly_away (x ∷ xs) (y ∷ ys) = new_at x y ++ newly_away xs ys

-- the changes that a message makes to the store, in order
abbrev pub read_changes : Settings → World → Result Request Fault → List Change
read_changes sets w (Ok q) = changes_of q (plan_of sets w q)
read_changes sets w (Err e) = []

abbrev pub message_changes : Settings → World → ℕ → List ℕ → List Change
message_changes sets w page input = cond (nat_lt page 1024) [] (read_changes sets w (packet_of input))
