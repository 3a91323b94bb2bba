use Rattle.std.proofs.Common.{ap}
use Rattle.std.specs.Option.{option_copied}
use Rattle.page.proofs.Pages.{◌then◌, wrote-as}
use Rattle.ack.specs.Text.{status_line}
use Rattle.ack.proofs.Lines.{text-is}
use Rattle.ack.proofs.write.Lines.put.Goals as goal

pub returns-clause-wrote : goal.returns-clause-wrote
returns-clause-wrote c =
    let l = c.args.self.now in
    let status = wrote-as (ap status_line c.status_of.ensures) c.put_status.ensures in
    wrote-as
    (text-is l.refusal l.opened l.id (option_copied l.found))
    (status then c.put.ensures then c.put_if.ensures then c.put_session.ensures.wrote then c.put_if-2.ensures then c.put_found.ensures.wrote then c.put_refusal.ensures.wrote then c.put-2.ensures)
