-- The messages that came over one connection.
use Rattle.std.specs.Prelude.{◌≡◌, ℕ, zero, suc, ◌+◌, ◌-◌, ◌<◌, ◌≤◌, ◌⊎◌, List, [], ◌++◌, map, length, drop}
use Rattle.ack.specs.Text.{ack_bytes}
use Rattle.store.specs.Meaning.{Meaning, Change}
use Rattle.session.specs.Sessions.{row_of}
use Rattle.session.specs.Steps.{MessageDone, message_used}
use Rattle.session.specs.Told.{message_ack, message_changes, newly_away}
use Rattle.intake_core.specs.Worlds.{Changed, world_of}
use Rattle.intake_core.specs.declared.intake.Intake.{Intake}

-- one message: given an input that is not empty and a page of `room` bytes, it used the bytes that are its own, led intake k to
-- l, was acknowledged by `told`, and handed out a notice for each session that it sent to the approver
pub record Turn {S : Type 0} (meaning : S → Meaning) (made : S → Change → S → Type 0) (room : ℕ) (input : List ℕ) (k : Intake S) (used : ℕ) (told serials : List ℕ) (l : Intake S) : Type 0 where
  pub more : 0 < length input
  pub page : 1024 ≤ room
  pub done : MessageDone k.settings (world_of meaning k) room input (world_of meaning l)
  pub account : Changed made k.store (message_changes k.settings (world_of meaning k) room input) l.store
  pub settings : l.settings ≡ k.settings
  pub used_is : used ≡ message_used room input
  pub told_is : told ≡ ack_bytes (message_ack k.settings (world_of meaning k) room input (world_of meaning l))
  pub notices : serials ≡ newly_away (map row_of k.rows) (map row_of l.rows)

-- a message behind others that used `at` bytes, were acknowledged by `before`, led the intake to k and handed out no notice: it is
-- given what they left of the input and of the room
pub record Next {S : Type 0} (meaning : S → Meaning) (made : S → Change → S → Type 0) (room : ℕ) (input : List ℕ) (at : ℕ) (before : List ℕ) (k : Intake S) (used : ℕ) (told serials : List ℕ) (l : Intake S) : Type 0 where
  pub own : ℕ
  pub ack : List ℕ
  pub turn : Turn meaning made (room - length before) (drop at input) k own ack serials l
  pub used_is : used ≡ at + own
  pub told_is : told ≡ before ++ ack

-- n messages, the first on the whole input, each next one on what those before it left; only the last may have handed out a notice
abbrev pub Turns : {S : Type 0} → (S → Meaning) → (S → Change → S → Type 0) → ℕ → List ℕ → ℕ → Intake S → ℕ → List ℕ → List ℕ → Intake S → Type 0
Turns meaning made room input zero k used told serials l = (used ≡ 0) × (told ≡ []) × (serials ≡ []) × (l ≡ k)
Turns {S} meaning made room input (suc n) k used told serials l =
    (at : ℕ) × (before : List ℕ) × (m : Intake S) × Turns meaning made room input n k at before [] m × Next meaning made room input at before m used told serials l

-- why no more messages are served: nothing of the input is left, a notice was handed out, or less than a page is left
abbrev pub Stop : ℕ → ℕ → ℕ → ℕ → List ℕ → Type 0
Stop all room used put serials = (used ≡ all) ⊎ ((0 < length serials) ⊎ (room < put + 1024))

-- a connection was served: messages one behind another until there was a reason to stop; the
-- acknowledgements stand in order at the front of `after`, and the rest of it is as in `out`
pub record Served {S : Type 0} (meaning : S → Meaning) (made : S → Change → S → Type 0) (input out : List ℕ) (k : Intake S) (used put : ℕ) (serials after : List ℕ) (l : Intake S) : Type 0 where
  pub count : ℕ
  pub told : List ℕ
  pub turns : Turns meaning made (length out) input count k used told serials l
  pub stops : Stop (length input) (length out) used put serials
  pub put_is : put ≡ length told
  pub bytes : after ≡ told ++ drop (length told) out
  pub settings : l.settings ≡ k.settings
