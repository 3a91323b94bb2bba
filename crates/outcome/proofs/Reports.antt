-- A report tells its outcome. Assumes nothing.
use Rattle.std.proofs.Common.{◌≡◌, ℕ, [], ◌∷◌, get_or, refl, sym, ap, ◌∙◌}
use Rattle.outcome.specs.Outcomes.{report_of}
use Rattle.outcome.specs.declared.Answer.{Answer}
use Rattle.outcome.specs.declared.Answer.TheVariants.{Silent, Accepted, Refused}
use Rattle.outcome.specs.declared.Outcome.{Outcome}
use Rattle.outcome.specs.declared.Outcome.TheVariants.{Done, ShortPage, UnfinishedHead, BadHead, RepeatedField, BadPacket, UploadsOff, NoSharedProtocol, FolderDestination, NoSession, AtApprover, Incomplete, WrongRange, TooLarge, Gap, DestinationStands, TooManySessions, SerialsSpent, StoreFull, CutBody, Rejected, BadReplyAddress, StoreRefused, BadSetting}
use Rattle.outcome.specs.declared.Report.{Report}

abbrev code_in : Answer → ℕ
code_in Silent = 0
code_in Accepted = 0
code_in (Refused r) = r.code

-- the case of its number
abbrev outcome_of : Report → Outcome
outcome_of r = get_or (Done ∷ ShortPage ∷ UnfinishedHead ∷ BadHead r.place ∷ RepeatedField r.place ∷ BadPacket r.place ∷ UploadsOff ∷ NoSharedProtocol ∷ FolderDestination ∷ NoSession ∷ AtApprover ∷ Incomplete ∷ WrongRange r.place ∷ TooLarge ∷ Gap ∷ DestinationStands ∷ TooManySessions ∷ SerialsSpent ∷ StoreFull ∷ CutBody ∷ Rejected (code_in r.answer) ∷ BadReplyAddress ∷ StoreRefused ∷ BadSetting ∷ []) r.number Done

again : (o : Outcome) → outcome_of (report_of o) ≡ o
again Done = refl
again ShortPage = refl
again UnfinishedHead = refl
again (BadHead x) = refl
again (RepeatedField x) = refl
again (BadPacket x) = refl
again UploadsOff = refl
again NoSharedProtocol = refl
again FolderDestination = refl
again NoSession = refl
again AtApprover = refl
again Incomplete = refl
again (WrongRange x) = refl
again TooLarge = refl
again Gap = refl
again DestinationStands = refl
again TooManySessions = refl
again SerialsSpent = refl
again StoreFull = refl
again CutBody = refl
again (Rejected x) = refl
again BadReplyAddress = refl
again StoreRefused = refl
again BadSetting = refl

pub apart : (o p : Outcome) → report_of o ≡ report_of p → o ≡ p
apart o p e = sym (again o) ∙ ap outcome_of e ∙ again p
