-- Calls as they are heard: each with its number and what was acknowledged; and that every range told is true.
use Rattle.std.specs.Prelude.{◌≡◌, ℕ, List, [], ◌∷◌, ◌++◌, map, Some, None, Ok, Err, Option, Result}
use Rattle.ack.specs.Told.{Ack}
use Rattle.packet.specs.Packets.{Request, packet_of}
use Rattle.packet.specs.declared.Fault.{Fault}
use Rattle.packet.specs.declared.judging.Action.{Action}
use Rattle.packet.specs.declared.judging.Action.TheVariants.{Create, Ping, Fragment, Close, Cancel}
use Rattle.session.specs.Sessions.{World}
use Rattle.session.specs.Steps.{Call, message, answer, tick}
use Rattle.session.specs.Told.{message_ack, answer_ack}
use Rattle.session.specs.declared.records.Settings.{Settings}
use Rattle.history.specs.Ledger.{Event, places, Entry, Ledger, named, ledger_of}
use Rattle.history.specs.Law.{Stepped}

-- a call, the number that it gave (for a tick, how many sessions it ended), and its acknowledgement, if there was one
pub record Heard : Type 0 where
  pub call : Call
  pub number : ℕ
  pub ack : Option Ack

abbrev pub event_of : Heard → Event
event_of h = record { call = h.call; number = h.number }

abbrev pub events : List Heard → List Event
events hs = map event_of hs

-- a tick is not acknowledged
abbrev pub ack_of_call : Settings → World → Call → World → Option Ack
ack_of_call sets w (message page input) v = message_ack sets w page input v
ack_of_call sets w (answer page serial word) v = answer_ack sets w page serial word v
ack_of_call sets w (tick reading) v = None

-- one call with its number and its acknowledgement, and the worlds before and after it
abbrev pub Said : Settings → World → Heard → World → Type 0
Said sets w h v = Stepped sets w h.call h.number v × (h.ack ≡ ack_of_call sets w h.call v)

-- a run of such calls
abbrev pub Story : Settings → World → List Heard → World → Type 0
Story sets w [] v = v ≡ w
Story sets w (h ∷ hs) v = (u : World) × Said sets w h u × Story sets u hs v

-- the session on the ledger that a fragment names
abbrev pub session_in : Settings → Ledger → Request → Action → Option Entry
session_in sets l q (Create shared) = None
session_in sets l q Ping = None
session_in sets l q (Fragment id r at) = named sets l id q.path
session_in sets l q (Close id) = None
session_in sets l q (Cancel id) = None

abbrev pub session_read : Settings → Ledger → Result Request Fault → Option Entry
session_read sets l (Ok q) = session_in sets l q q.action
session_read sets l (Err e) = None

-- the session on the ledger that a call speaks of: the one that a fragment names, or the one that an answer is about
abbrev pub session_of : Settings → Ledger → Call → Option Entry
session_of sets l (message page input) = session_read sets l (packet_of input)
session_of sets l (answer page serial word) = l.sessions serial
session_of sets l (tick reading) = None

abbrev pub range_told : Option Ack → Option ℕ
range_told None = None
range_told (Some a) = a.received

-- every range that is acknowledged gives the count after its call: how many places of its session then have a byte on the ledger
abbrev pub RangesTrue : Settings → List Heard → Type 0
RangesTrue sets hs =
    (before : List Heard) (h : Heard) (after : List Heard) (n : ℕ) → hs ≡ before ++ h ∷ after → range_told h.ack ≡ Some n
    → (e : Entry) × (session_of sets (ledger_of sets (events (before ++ h ∷ []))) h.call ≡ Some e) × (places e.parts ≡ n)
