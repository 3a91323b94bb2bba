use Rattle.std.proofs.Common.{sym, ap}
use Rattle.page.proofs.Pages.{◌then◌, wrote-as, wrote_none}
use Rattle.ack.specs.Text.{ended, id_lines}
use Rattle.ack.proofs.write.put_session.Goals as goal

pub returns-in-Some-clause-wrote : goal.returns-in-Some-clause-wrote
returns-in-Some-clause-wrote c = wrote-as (sym (ap (λ i. ended (id_lines i)) c.in-Some.is)) (c.put.ensures then c.put_id.ensures then c.put-in-Some.ensures)

pub returns-in_default-clause-wrote : goal.returns-in_default-clause-wrote
returns-in_default-clause-wrote c = wrote-as (sym (ap (λ i. ended (id_lines i)) c.in_default.is)) (wrote_none c.args.page.now)
