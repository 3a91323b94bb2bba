-- What a run's lines tell of its calls.
use Rattle.std.specs.Prelude.{◌≡◌, ℕ, ◌+◌, ◌-◌, ◌<◌, ◌≤◌, min, List, [], ◌∷◌, ◌++◌, length, take, drop, Some, None, Option, slice_index}
use Rattle.ack.specs.Text.{ack_bytes}
use Rattle.ack.specs.Told.{Ack}
use Rattle.history.specs.Law.{number}
use Rattle.intake_core.specs.Verdicts.{word_of}
use Rattle.law.specs.Heard.{Heard, Story}
use Rattle.law.specs.Whole.{PromiseHeard}
use Rattle.session.specs.Sessions.{World}
use Rattle.session.specs.Steps.{message, answer, tick, message_used}
use Rattle.session.specs.declared.records.Settings.{Settings}
use Rattle.runs.specs.declared.calls.Call.{Call}
use Rattle.runs.specs.declared.calls.Call.TheVariants as call
use Rattle.runs.specs.declared.calls.Halted.{Halted}
use Rattle.runs.specs.declared.calls.Halted.TheVariants as halted
use Rattle.runs.specs.declared.calls.Line.{Line}
use Rattle.runs.specs.declared.calls.Line.TheVariants as line

abbrev pub listed : Option ℕ → List ℕ
listed None = []
listed (Some n) = n ∷ []

-- the page that a call asks for; a tick needs none
abbrev pub size_of : Call → ℕ
size_of (call.Message page input) = page
size_of (call.Answer page at verdict) = page
size_of (call.Tick reading) = 0

-- the length of the acknowledgement that a line tells of
abbrev pub length_in : Line → ℕ
length_in (line.Message page outcome used n notice) = n
length_in (line.Answer page serial outcome n notice) = n
length_in (line.Tick ended) = 0
length_in line.Skipped = 0

-- the serials on the desk after a call: an answered notice is taken off, a new one or one handed back is put at the end
abbrev pub desk_after : List ℕ → Call → Line → List ℕ
desk_after desk (call.Message size input) (line.Message page outcome used n notice) = desk ++ listed notice
desk_after desk (call.Message size input) (line.Answer page serial outcome n notice) = desk
desk_after desk (call.Message size input) (line.Tick ended) = desk
desk_after desk (call.Message size input) line.Skipped = desk
desk_after desk (call.Answer size at verdict) (line.Message page outcome used n notice) = desk
desk_after desk (call.Answer size at verdict) (line.Answer page serial outcome n notice) = (take at desk ++ drop (at + 1) desk) ++ listed notice
desk_after desk (call.Answer size at verdict) (line.Tick ended) = desk
desk_after desk (call.Answer size at verdict) line.Skipped = desk
desk_after desk (call.Tick reading) l = desk

-- the line of a call made with a page of n bytes and these serials on the desk, and the call as it is heard; an answer is
-- skipped exactly where no notice lies at its place
abbrev pub Tells : ℕ → List ℕ → Call → Line → List Heard → Type 0
Tells n desk (call.Message size input) (line.Message page outcome used k notice) hs =
    (a : Option Ack) × (hs ≡ record { call = message page input.now; number = number outcome; ack = a } ∷ []) × (page ≡ n) × (used ≡ message_used n input.now) × (k ≡ length (ack_bytes a))
Tells n desk (call.Message size input) (line.Answer page serial outcome k notice) hs = ⊥
Tells n desk (call.Message size input) (line.Tick ended) hs = ⊥
Tells n desk (call.Message size input) line.Skipped hs = ⊥
Tells n desk (call.Answer size at verdict) (line.Message page outcome used k notice) hs = ⊥
Tells n desk (call.Answer size at verdict) (line.Answer page serial outcome k notice) hs =
    (a : Option Ack) × (hs ≡ record { call = answer page serial (word_of verdict); number = number outcome; ack = a } ∷ []) × (page ≡ n) × (at < length desk) × (serial ≡ slice_index desk at) × (k ≡ length (ack_bytes a))
Tells n desk (call.Answer size at verdict) (line.Tick ended) hs = ⊥
Tells n desk (call.Answer size at verdict) line.Skipped hs = (length desk ≤ at) × (hs ≡ [])
Tells n desk (call.Tick reading) (line.Message page outcome used k notice) hs = ⊥
Tells n desk (call.Tick reading) (line.Answer page serial outcome k notice) hs = ⊥
Tells n desk (call.Tick reading) (line.Tick ended) hs = hs ≡ record { call = tick reading; number = ended; ack = None } ∷ []
Tells n desk (call.Tick reading) line.Skipped hs = ⊥

-- the lines of calls made one after another, each with what is left from place `at` on of the `whole` bytes lent for pages
abbrev pub Logged : ℕ → ℕ → List ℕ → List Call → List Line → List Heard → List ℕ → Type 0
Logged whole at desk [] [] hs end = (hs ≡ []) × (end ≡ desk)
Logged whole at desk [] (l ∷ ls) hs end = ⊥
Logged whole at desk (c ∷ cs) [] hs end = ⊥
Logged whole at desk (c ∷ cs) (l ∷ ls) hs end =
    (one : List Heard) × (rest : List Heard) × (hs ≡ one ++ rest) × Tells (min (size_of c) (whole - at)) desk c l one × Logged whole (at + length_in l) (desk_after desk c l) cs ls rest end

-- the acknowledgements, one behind the other
abbrev pub acks_of : List Heard → List ℕ
acks_of [] = []
acks_of (h ∷ hs) = ack_bytes h.ack ++ acks_of hs

-- one call made
pub record Made (sets : Settings) (w : World) (desk : List ℕ) (c : Call) (page : List ℕ) (l : Line) (out : List ℕ) (v : World) : Type 0 where
  pub heard : List Heard
  pub tells : Tells (length page) desk c l heard
  pub story : Story sets w heard v
  pub written : out ≡ acks_of heard ++ drop (length_in l) page
  pub size : length (acks_of heard) ≡ length_in l
  pub fits : length_in l ≤ length page

-- calls made one after another from an empty desk
pub record Played (sets : Settings) (w : World) (calls : List Call) (pages : List ℕ) (lines : List Line) (desk : List ℕ) (out : List ℕ) (v : World) : Type 0 where
  pub heard : List Heard
  pub logged : Logged (length pages) 0 [] calls lines heard desk
  pub story : Story sets w heard v
  pub written : out ≡ acks_of heard ++ drop (length (acks_of heard)) pages

-- a whole run: the calls as its lines tell of them, their acknowledgements at the front of the pages, and the law over them
pub record Account (sets : Settings) (start : List ℕ → Option (List ℕ)) (calls : List Call) (pages : List ℕ) (lines : List Line) (desk : List ℕ) (out : List ℕ) (w : World) : Type 0 where
  pub heard : List Heard
  pub logged : Logged (length pages) 0 [] calls lines heard desk
  pub written : out ≡ acks_of heard ++ drop (length (acks_of heard)) pages
  pub promise : PromiseHeard sets start heard w

-- why nothing was run
abbrev pub Stopped : {S : Type 0} → Settings → S → Halted S → Type 0
Stopped sets store (halted.NoMemory s) = s ≡ store
Stopped sets store (halted.BadSetting s) = (s ≡ store) × (sets.maximum ≡ 0)
