-- The ledger: what a history of calls comes to. It is drawn from the settings, the calls' input and their numbers alone.
use Rattle.std.specs.Prelude.{ℕ, zero, suc, ◌+◌, ◌-◌, max, Bool, true, false, cond, ◌||◌, List, [], ◌∷◌, ◌++◌, length, is_some, Some, None, Ok, Err, Option, Result, ◌==◌, nat_eq, nat_le}
use Rattle.std.specs.Option.{option_or}
use Rattle.std.specs.List.{slice_get}
use Rattle.std.specs.Map.{update}
use Rattle.std.specs.Str.{bytes_eq}
use Rattle.ids.specs.declared.SessionId.{SessionId}
use Rattle.packet.specs.Packets.{Request, packet_of}
use Rattle.packet.specs.declared.Fault.{Fault}
use Rattle.packet.specs.declared.judging.Action.{Action}
use Rattle.packet.specs.declared.judging.Action.TheVariants.{Create, Ping, Fragment, Close, Cancel}
use Rattle.packet.specs.declared.ranges.Range.{Range}
use Rattle.session.specs.Steps as verdict
use Rattle.session.specs.Steps.{Word}
pub use Rattle.session.specs.Steps.{Call, message, answer, tick}
use Rattle.session.specs.declared.records.Settings.{Settings}

-- a call and the number that it gave: for a tick, how many sessions it ended
pub record Event : Type 0 where
  pub call : Call
  pub number : ℕ

-- the bytes that a fragment carried, to the places from `from` on
pub record Part : Type 0 where
  pub from : ℕ
  pub bytes : List ℕ

abbrev pub carries : Part → ℕ → Option ℕ
carries q p = cond (nat_le q.from p) (slice_get q.bytes (p - q.from)) None

-- the first byte that was carried to a place
abbrev pub first_byte : List Part → ℕ → Option ℕ
first_byte [] p = None
first_byte (q ∷ qs) p = option_or (carries q p) (first_byte qs p)

-- no part carries a byte to this place or past it
abbrev pub reach : List Part → ℕ
reach [] = 0
reach (q ∷ qs) = max (q.from + length q.bytes) (reach qs)

abbrev pub places_below : List Part → ℕ → ℕ
places_below qs zero = 0
places_below qs (suc n) = places_below qs n + cond (is_some (first_byte qs n)) 1 0

-- how many places have a byte
abbrev pub places : List Part → ℕ
places qs = places_below qs (reach qs)

-- bytes are still to come, the approver is asked, or the session may be closed
pub data Standing : Type 0 where
  receiving : Standing
  away : Standing
  ready : Standing

-- a session on the ledger: its path, the parts carried in their order, the announced length, how it stands, whether a
-- yes was taken for it, and the clock at its last message of number 0
pub record Entry : Type 0 where
  pub path : List ℕ
  pub parts : List Part
  pub total : Option ℕ
  pub standing : Standing
  pub approved : Bool
  pub stamp : ℕ

-- the sessions by their serials, the next serial, the clock, and under each name the session that was last closed there
pub record Ledger : Type 0 where
  pub sessions : ℕ → Option Entry
  pub next : ℕ
  pub clock : ℕ
  pub published : List ℕ → Option Entry

abbrev pub blank : Settings → Ledger
blank sets = record { sessions = λ n. None; next = sets.first_serial; clock = 0; published = λ n. None }

abbrev pub written : Ledger → ℕ → Option Entry → Ledger
written l serial e = record { sessions = update nat_eq l.sessions serial e; next = l.next; clock = l.clock; published = l.published }

abbrev pub of_path : List ℕ → Option Entry → Option Entry
of_path path None = None
of_path path (Some e) = cond (bytes_eq e.path path) (Some e) None

-- the session that an id and a path name, if it is on the ledger
abbrev pub named : Settings → Ledger → SessionId → List ℕ → Option Entry
named sets l id path = cond (id.site == sets.site) (of_path path (l.sessions id.serial)) None

abbrev pub opening : Ledger → List ℕ → Ledger
opening l path = record {
  sessions = update nat_eq l.sessions l.next (Some (record { path = path; parts = []; total = None; standing = receiving; approved = false; stamp = l.clock }));
  next = l.next + 1;
  clock = l.clock;
  published = l.published;
}

-- a session that has all its bytes receives no more: it is ready, or away where the approver is told
abbrev pub once_whole : Settings → Standing → Bool → Standing
once_whole sets receiving true = cond sets.approver away ready
once_whole sets receiving false = receiving
once_whole sets away all = away
once_whole sets ready all = ready

-- a part that came whole, or cut
abbrev pub carried : Settings → ℕ → Bool → Entry → Part → ℕ → Entry
carried sets clock true e q t = record {
  path = e.path;
  parts = e.parts ++ q ∷ [];
  total = Some t;
  standing = once_whole sets e.standing (places (e.parts ++ q ∷ []) == t);
  approved = e.approved;
  stamp = clock;
}
carried sets clock false e q t = record {
  path = e.path;
  parts = e.parts ++ q ∷ [];
  total = Some t;
  standing = e.standing;
  approved = e.approved;
  stamp = e.stamp;
}

abbrev pub carrying : Settings → Ledger → Bool → ℕ → Part → ℕ → Option Entry → Ledger
carrying sets l whole serial q t None = l
carrying sets l whole serial q t (Some e) = written l serial (Some (carried sets l.clock whole e q t))

abbrev pub closing : Ledger → ℕ → Option Entry → Ledger
closing l serial None = l
closing l serial (Some e) = record {
  sessions = update nat_eq l.sessions serial None;
  next = l.next;
  clock = l.clock;
  published = update bytes_eq l.published e.path (Some e);
}

abbrev pub cancelling : Ledger → ℕ → Option Entry → Ledger
cancelling l serial None = l
cancelling l serial (Some e) = written l serial None

abbrev pub part_of : Range → Request → Part
part_of r q = record { from = r.first; bytes = q.body }

-- a message of number 0
abbrev pub after_done : Settings → Ledger → Request → Action → Ledger
after_done sets l q (Create shared) = opening l q.path
after_done sets l q Ping = l
after_done sets l q (Fragment id r at) = carrying sets l true id.serial (part_of r q) r.total (named sets l id q.path)
after_done sets l q (Close id) = closing l id.serial (named sets l id q.path)
after_done sets l q (Cancel id) = cancelling l id.serial (named sets l id q.path)

-- a message of number 19
abbrev pub after_cut : Settings → Ledger → Request → Action → Ledger
after_cut sets l q (Create shared) = l
after_cut sets l q Ping = l
after_cut sets l q (Fragment id r at) = carrying sets l false id.serial (part_of r q) r.total (named sets l id q.path)
after_cut sets l q (Close id) = l
after_cut sets l q (Cancel id) = l

abbrev pub after_request : Settings → Ledger → ℕ → Request → Action → Ledger
after_request sets l n q a = cond (n == 0) (after_done sets l q a) (cond (n == 19) (after_cut sets l q a) l)

abbrev pub after_message : Settings → Ledger → ℕ → Result Request Fault → Ledger
after_message sets l n (Ok q) = after_request sets l n q q.action
after_message sets l n (Err e) = l

abbrev pub is_yes : Word → Bool
is_yes (verdict.yes address) = true
is_yes (verdict.no code) = false

-- an answer of number 0; a yes is then taken
abbrev pub approved : Word → Entry → Entry
approved word e = record { path = e.path; parts = e.parts; total = e.total; standing = ready; approved = is_yes word || e.approved; stamp = e.stamp }

-- a session that is refused receives again
abbrev pub refused : Entry → Entry
refused e = record { path = e.path; parts = e.parts; total = e.total; standing = receiving; approved = e.approved; stamp = e.stamp }

abbrev pub amending : Ledger → ℕ → (Entry → Entry) → Option Entry → Ledger
amending l serial f None = l
amending l serial f (Some e) = written l serial (Some (f e))

abbrev pub after_answer : Ledger → ℕ → ℕ → Word → Ledger
after_answer l n serial word =
    cond (n == 0) (amending l serial (approved word) (l.sessions serial)) (cond (n == 20 || n == 21) (amending l serial refused (l.sessions serial)) l)

-- sessions whose last message of number 0 is 14 days old are struck off
abbrev pub struck : ℕ → Option Entry → Option Entry
struck clock None = None
struck clock (Some e) = cond (nat_le 1209600 (clock - e.stamp)) None (Some e)

abbrev pub after_tick : Ledger → ℕ → Ledger
after_tick l reading = record {
  sessions = λ n. struck (max l.clock reading) (l.sessions n);
  next = l.next;
  clock = max l.clock reading;
  published = l.published;
}

abbrev pub after_call : Settings → Ledger → ℕ → Call → Ledger
after_call sets l n (message page input) = after_message sets l n (packet_of input)
after_call sets l n (answer page serial word) = after_answer l n serial word
after_call sets l n (tick reading) = after_tick l reading

abbrev pub drawn : Settings → Ledger → List Event → Ledger
drawn sets l [] = l
drawn sets l (e ∷ es) = drawn sets (after_call sets l e.number e.call) es

abbrev pub ledger_of : Settings → List Event → Ledger
ledger_of sets es = drawn sets (blank sets) es
