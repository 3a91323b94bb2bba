use Rattle.std.proofs.Common.{sym, ap}
use Rattle.page.proofs.Pages.{◌then◌, wrote-as, wrote_none}
use Rattle.std.proofs.lemmas.List.{nil_from_length}
use Rattle.std.proofs.lemmas.Bool.{eqb-true, eqb-false}
use Rattle.ack.specs.Text.{address_lines, ended}
use Rattle.ack.proofs.Lines.{address_line}
use Rattle.ack.proofs.write.put_address.Goals as goal

pub returns-then-not-is_empty : goal.returns-then-not-is_empty
returns-then-not-is_empty c = wrote-as (address_line c.args.address.now (eqb-false _ _ (sym c.if-not-is_empty.ensures))) (c.put.ensures then c.put-then-not-is_empty.ensures then c.put-then-not-is_empty-2.ensures)

pub returns-else-not-is_empty : goal.returns-else-not-is_empty
returns-else-not-is_empty c =
    let none = nil_from_length c.args.address.now (eqb-true _ _ (sym c.if-not-is_empty.ensures)) in
    wrote-as (sym (ap (λ s. ended (address_lines s)) none)) (wrote_none c.args.page.now)
