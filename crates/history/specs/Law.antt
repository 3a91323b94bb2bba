-- The law over histories: the world after any calls is the one that the ledger tells of.
use Rattle.std.specs.Prelude.{◌≡◌, ℕ, ◌<◌, ◌≤◌, true, List, [], ◌∷◌, length, Some, None, Option, ◌≢◌}
use Rattle.std.specs.List.{slice_get}
use Rattle.outcome.specs.Outcomes.{report_of}
use Rattle.outcome.specs.declared.Outcome.{Outcome}
use Rattle.store.specs.Meaning.{Meaning}
use Rattle.session.specs.Sessions as session
use Rattle.session.specs.Sessions.{Phase, Live, World, row}
use Rattle.session.specs.Steps.{MessageDone, message_outcome, AnswerDone, answer_outcome, Ticked, Started}
use Rattle.session.specs.declared.records.Settings.{Settings}
use Rattle.history.specs.Ledger.{Call, message, answer, tick, Event, first_byte, places, Standing, receiving, away, ready, Entry, Ledger, ledger_of}

abbrev pub standing_of : Phase → Standing
standing_of session.receiving = receiving
standing_of session.away = away
standing_of (session.ready address) = ready

-- exactly the first bytes that were carried, place by place
abbrev pub Bundle : Entry → List ℕ → Type 0
Bundle e bytes = (p : ℕ) → slice_get bytes p ≡ first_byte e.parts p

-- a session's record and the bytes of its slot are what its entry tells
pub record Keeps (sets : Settings) (e : Entry) (x : Live) (slot : List ℕ) : Type 0 where
  pub path : x.path ≡ e.path
  pub total : x.total ≡ e.total
  pub state : standing_of x.phase ≡ e.standing
  pub stamp : x.stamp ≡ e.stamp
  pub bytes : Bundle e slot
  pub size : x.received ≡ length slot
  pub count : x.received ≡ places e.parts
  pub bound : (t : ℕ) → x.total ≡ Some t → (x.received ≤ t) × (t ≤ sets.maximum)
  pub unset : x.total ≡ None → x.received ≡ 0
  pub whole : (e.standing ≢ receiving) → x.total ≡ Some x.received
  pub told : sets.approver ≡ true → e.standing ≡ ready → e.approved ≡ true

-- the live sessions are those of the ledger, each in one row
pub record Matched (sets : Settings) (sessions : ℕ → Option Entry) (next : ℕ) (rows : List (Option Live)) (held : ℕ → List ℕ) : Type 0 where
  pub size : length rows ≡ 16
  pub each : (i : ℕ) (x : Live) → row rows i ≡ Some x → (e : Entry) × (sessions x.serial ≡ Some e) × Keeps sets e x (held i)
  pub all : (n : ℕ) (e : Entry) → sessions n ≡ Some e → (i : ℕ) × (x : Live) × (row rows i ≡ Some x) × (x.serial ≡ n)
  pub apart : (i j : ℕ) (x y : Live) → row rows i ≡ Some x → row rows j ≡ Some y → x.serial ≡ y.serial → i ≡ j
  pub young : (i : ℕ) (x : Live) → row rows i ≡ Some x → x.serial < next

-- the whole bundle of a session that was closed, at its announced length; a yes was taken for it where the approver is told
pub record Whole (sets : Settings) (e : Entry) (content : Option (List ℕ)) : Type 0 where
  pub bytes : List ℕ
  pub stands : content ≡ Some bytes
  pub bundle : Bundle e bytes
  pub length-told : e.total ≡ Some (length bytes)
  pub told : sets.approver ≡ true → e.approved ≡ true

-- what stands under a name: what stood there at the start until a close was taken there
abbrev pub Stands : Settings → Option (List ℕ) → Option (List ℕ) → Option Entry → Type 0
Stands sets old content None = content ≡ old
Stands sets old content (Some e) = Whole sets e content

pub record Tells (sets : Settings) (start : List ℕ → Option (List ℕ)) (l : Ledger) (w : World) : Type 0 where
  pub next : w.next ≡ l.next
  pub clock : w.clock ≡ l.clock
  pub sessions : Matched sets l.sessions l.next w.rows w.store.held
  pub catalog : (n : List ℕ) → Stands sets (start n) (w.store.catalog n) (l.published n)

abbrev pub number : Outcome → ℕ
number o = (report_of o).number

-- one call with its number, and the worlds before and after it
abbrev pub Stepped : Settings → World → Call → ℕ → World → Type 0
Stepped sets w (message page input) n v = (n ≡ number (message_outcome sets w page input)) × MessageDone sets w page input v
Stepped sets w (answer page serial word) n v = (n ≡ number (answer_outcome w page serial word)) × AnswerDone w page serial word v
Stepped sets w (tick reading) n v = Ticked w reading n v

-- a run of calls
abbrev pub Runs : Settings → World → List Event → World → Type 0
Runs sets w [] v = v ≡ w
Runs sets w (e ∷ es) v = (u : World) × Stepped sets w e.call e.number u × Runs sets u es v

-- every run of an intake newly set up is told by its ledger
unfoldable pub Faithful : Type 0
Faithful =
    (sets : Settings) (m : Meaning) (u w : World) (es : List Event) → Started sets m u → Runs sets u es w → Tells sets m.catalog (ledger_of sets es) w
