use Rattle.std.proofs.Common.{◌≡◌, ◌++◌, length, drop, IfSome, Option, Some, Ok, sym, ap, ◌∙◌, subst, rules}
use Rattle.std.specs.Option.{option_map}
use Rattle.ack.specs.declared.write.Lines.{Lines}
use Rattle.ack.specs.Back.{Sound}
use Rattle.ack.specs.Lines.{told_by}
use Rattle.ack.specs.Told.{Ack}
use Rattle.ack.specs.Text.{ack_bytes}
use Rattle.ack.proofs.Back.{sound}
use Rattle.ack.proofs.Long.{text-long, whole-page}
use Rattle.ack.proofs.acknowledge.Goals as goal

told-as : {r : Option Lines} {l : Lines} {a : Option Ack} → option_map told_by r ≡ a → r ≡ Some l → Some (told_by l) ≡ a
told-as e is = ap (option_map told_by) (sym is) ∙ e

pub returns-clause-length : goal.returns-clause-length
returns-clause-length c =
    let ack = told_by c.in-Some.lines in
    let is = told-as c.lines_of.ensures c.in-Some.is in
    let long = text-long ack c.put.ensures.known in
    λ h. ap Ok ((whole-page c.new-writer.ensures.page c.new-writer.ensures.at c.put.ensures.wrote long h).0 ∙ ap (λ a. length (ack_bytes a)) is)

pub returns-clause-page : goal.returns-clause-page
returns-clause-page c =
    let ack = told_by c.in-Some.lines in
    let is = told-as c.lines_of.ensures c.in-Some.is in
    let long = text-long ack c.put.ensures.known in
    let page : _ ≡ c.put.new.page.page.now = search rules in
    λ h. page ∙ (whole-page c.new-writer.ensures.page c.new-writer.ensures.at c.put.ensures.wrote long h).1 ∙ ap (λ a. ack_bytes a ++ drop (length (ack_bytes a)) c.args.page.now) is

pub returns-clause-laws : goal.returns-clause-laws
returns-clause-laws c =
    let ack = told_by c.in-Some.lines in
    let is = told-as c.lines_of.ensures c.in-Some.is in
    λ h. subst (λ a. IfSome a Sound) is (sound ack c.put.ensures.known)
