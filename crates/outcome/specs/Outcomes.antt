-- What each outcome reports: the one place where numbers, layers, places, statuses and codes stand. Assumes nothing.
use Rattle.std.specs.Prelude.{List, ℕ, codes}
use Rattle.outcome.specs.declared.Answer.{Answer}
use Rattle.outcome.specs.declared.Answer.TheVariants.{Silent, Accepted, Refused}
use Rattle.outcome.specs.declared.Context.{Context}
use Rattle.outcome.specs.declared.Context.TheVariants as context
use Rattle.outcome.specs.declared.Layer.{Layer}
use Rattle.outcome.specs.declared.Layer.TheVariants as layer
use Rattle.outcome.specs.declared.Outcome.{Outcome}
use Rattle.outcome.specs.declared.Outcome.TheVariants.{Done, ShortPage, UnfinishedHead, BadHead, RepeatedField, BadPacket, UploadsOff, NoSharedProtocol, FolderDestination, NoSession, AtApprover, Incomplete, WrongRange, TooLarge, Gap, DestinationStands, TooManySessions, SerialsSpent, StoreFull, CutBody, Rejected, BadReplyAddress, StoreRefused, BadSetting}
use Rattle.outcome.specs.declared.Report.{Report}
use Rattle.outcome.specs.declared.Status.{Status}
use Rattle.outcome.specs.declared.Status.TheVariants as status

abbrev pub by : Context → Status → ℕ → Answer
by c s code = Refused (record { status = s; code = code; context = c })

abbrev pub refused : Status → ℕ → Answer
refused s code = by context.Intake s code

-- the code where something in the message is wrong
abbrev pub invalid_code : ℕ
invalid_code = 0x80070057

abbrev pub of : ℕ → Layer → ℕ → Answer → Report
of n l p a = record { number = n; layer = l; place = p; answer = a }

abbrev pub report_of : Outcome → Report
report_of Done = of 0 layer.Clear 0 Accepted
report_of ShortPage = of 1 layer.Page 0 Silent
report_of UnfinishedHead = of 2 layer.Text 0 Silent
report_of (BadHead line) = of 3 layer.Text line (refused status.BadRequest invalid_code)
report_of (RepeatedField line) = of 4 layer.Text line (refused status.BadRequest invalid_code)
report_of (BadPacket line) = of 5 layer.Protocol line (refused status.BadRequest invalid_code)
report_of UploadsOff = of 6 layer.Protocol 0 (refused status.NotImplemented 0x80070005)
report_of NoSharedProtocol = of 7 layer.Protocol 0 (refused status.BadRequest invalid_code)
report_of FolderDestination = of 8 layer.Protocol 0 (refused status.BadRequest invalid_code)
report_of NoSession = of 9 layer.Session 0 (refused status.ServerError 0x8020001F)
report_of AtApprover = of 10 layer.Session 0 (refused status.Unavailable 0xA0000003)
report_of Incomplete = of 11 layer.Session 0 (refused status.BadRequest invalid_code)
report_of (WrongRange line) = of 12 layer.Session line (refused status.BadRequest invalid_code)
report_of TooLarge = of 13 layer.Session 0 (refused status.ServerError 0x80200020)
report_of Gap = of 14 layer.Session 0 (refused status.BadRange 0x00000000)
report_of DestinationStands = of 15 layer.Session 0 (refused status.Forbidden 0x80070005)
report_of TooManySessions = of 16 layer.Session 0 (refused status.Unavailable 0xA0000001)
report_of SerialsSpent = of 17 layer.Session 0 (refused status.Unavailable 0xA0000002)
report_of StoreFull = of 18 layer.Store 0 (refused status.ServerError 0x80070112)
report_of CutBody = of 19 layer.Session 0 Silent
report_of (Rejected code) = of 20 layer.Approver 0 (by context.Approver status.ServerError code)
report_of BadReplyAddress = of 21 layer.Approver 0 (refused status.BadRequest invalid_code)
report_of StoreRefused = of 22 layer.Store 0 (refused status.ServerError 0x8000FFFF)
report_of BadSetting = of 23 layer.Making 0 Silent

abbrev pub number_of : Status → ℕ
number_of status.Ok = 200
number_of status.BadRequest = 400
number_of status.Forbidden = 403
number_of status.BadRange = 416
number_of status.ServerError = 500
number_of status.NotImplemented = 501
number_of status.Unavailable = 503

-- the reason phrases, as the standard's list of them prints each
abbrev pub phrase_of : Status → List ℕ
phrase_of status.Ok = codes "OK"
phrase_of status.BadRequest = codes "Bad Request"
phrase_of status.Forbidden = codes "Forbidden"
phrase_of status.BadRange = codes "Requested range not satisfiable"
phrase_of status.ServerError = codes "Internal Server Error"
phrase_of status.NotImplemented = codes "Not Implemented"
phrase_of status.Unavailable = codes "Service Unavailable"

-- the names of the layers, as they are printed
abbrev pub name_of : Layer → List ℕ
name_of layer.Clear = codes "clear"
name_of layer.Page = codes "page"
name_of layer.Text = codes "text"
name_of layer.Protocol = codes "protocol"
name_of layer.Session = codes "session"
name_of layer.Store = codes "store"
name_of layer.Approver = codes "approver"
name_of layer.Making = codes "making"

abbrev pub context_of : Context → ℕ
context_of context.Intake = 5
context_of context.Approver = 7
