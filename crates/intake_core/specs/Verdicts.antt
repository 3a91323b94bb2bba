-- What the approver's verdict says, and what is made of it.
use Rattle.std.specs.Prelude.{◌≡◌, ℕ, Option}
use Rattle.std.specs.Option.{option_map}
use Rattle.ack.specs.Told.{received_of, reply_of}
use Rattle.ack.specs.declared.told.Progress.{Progress}
use Rattle.outcome.specs.declared.Outcome.{Outcome}
use Rattle.session.specs.Sessions.{World}
use Rattle.session.specs.Steps.{AskedDone, Word, asked_outcome, yes, no}
use Rattle.session.specs.Told.{address_told, row_at}
use Rattle.intake_core.specs.declared.answers.Verdict.{Verdict}
use Rattle.intake_core.specs.declared.answers.Verdict.TheVariants.{Yes, No}

abbrev pub word_of : Verdict → Word
word_of (Yes a) = yes a.now
word_of (No code) = no code

-- the word on the session in the row that was found, if one was, and what is told of that session after it
pub record Answered (w : World) (row : Option ℕ) (word : Word) (outcome : Outcome) (told : Option Progress) (v : World) : Type 0 where
  pub number : outcome ≡ asked_outcome row word
  pub done : AskedDone w row word v
  pub received : received_of told ≡ option_map (λ y. y.received) (row_at v row)
  pub reply : reply_of told ≡ address_told (row_at v row)
