-- What an acknowledgement's bytes tell, read again. Assumes nothing.
use Rattle.std.specs.Prelude.{◌≡◌, ℕ, ◌≤◌, cond, List, [], ◌∷◌, length, take, is_some, Some, None, codes, Option, ◌==◌}
use Rattle.std.specs.Option.{option_map, option_or, unwrap_or}
use Rattle.std.specs.Str.Parse.{digits_value}
use Rattle.ids.specs.Ids.{id_of}
use Rattle.ids.specs.declared.SessionId.{SessionId}
use Rattle.outcome.specs.declared.Context.{Context}
use Rattle.outcome.specs.declared.Context.TheVariants as context
use Rattle.outcome.specs.declared.Refusal.{Refusal}
use Rattle.outcome.specs.declared.Status.{Status}
use Rattle.outcome.specs.declared.Status.TheVariants as status
use Rattle.ack.specs.Told.{Ack, Tellable}
use Rattle.ack.specs.Text.{ack_text, least_page}

abbrev pub onto : ℕ → List (List ℕ) → List (List ℕ)
onto c [] = (c ∷ []) ∷ []
onto c (l ∷ ls) = (c ∷ l) ∷ ls

-- the lines of a text: CR ends one, LF is passed over
abbrev pub lines_of : List ℕ → List (List ℕ)
lines_of [] = []
lines_of (c ∷ s) = cond (c == 13) ([] ∷ lines_of s) (cond (c == 10) (lines_of s) (onto c (lines_of s)))

-- what a line has after a front
abbrev pub after : List ℕ → List ℕ → Option (List ℕ)
after [] l = Some l
after (p ∷ ps) [] = None
after (p ∷ ps) (c ∷ l) = cond (c == p) (after ps l) None

-- what follows a front in the first line that begins with it
abbrev pub value_in : List ℕ → List (List ℕ) → Option (List ℕ)
value_in front [] = None
value_in front (l ∷ ls) = option_or (after front l) (value_in front ls)

abbrev pub status_numbered : ℕ → Status
status_numbered n = cond (n == 400) status.BadRequest (cond (n == 403) status.Forbidden (cond (n == 416) status.BadRange (cond (n == 500) status.ServerError (cond (n == 501) status.NotImplemented (cond (n == 503) status.Unavailable status.Ok)))))

abbrev pub context_numbered : ℕ → Context
context_numbered n = cond (n == 7) context.Approver context.Intake

-- the status, by the three digits after the protocol's name
abbrev pub status_in : List (List ℕ) → Status
status_in ls = status_numbered (digits_value 10 (take 3 (unwrap_or (value_in (codes "HTTP/1.1 ") ls) [])))

abbrev pub refusal_in : List (List ℕ) → Option Refusal
refusal_in ls = option_map (λ code. record { status = status_in ls; code = digits_value 16 code; context = context_numbered (digits_value 16 (unwrap_or (value_in (codes "BITS-Error-Context: 0x") ls) [])) }) (value_in (codes "BITS-Error: 0x") ls)

abbrev pub then_id : Option (List ℕ) → Option SessionId
then_id None = None
then_id (Some s) = id_of s

-- everything that the lines tell
abbrev pub read_lines : List (List ℕ) → Ack
read_lines ls = record {
  refusal = refusal_in ls;
  opened = is_some (value_in (codes "BITS-Protocol: ") ls);
  id = then_id (value_in (codes "BITS-Session-Id: ") ls);
  received = option_map (digits_value 10) (value_in (codes "BITS-Received-Content-Range: ") ls);
  reply = unwrap_or (value_in (codes "BITS-Reply-URL: ") ls) [];
}

-- what holds of an acknowledgement that is written
pub record Sound (a : Ack) : Type 0 where
  pub tellable : Tellable a
  -- it fits the least page
  pub fits : length (ack_text a) ≤ least_page
  -- what it tells can be read from its bytes again
  pub read : read_lines (lines_of (ack_text a)) ≡ a
  -- and no other has the same bytes
  pub only : (b : Ack) → Tellable b → ack_text b ≡ ack_text a → b ≡ a
