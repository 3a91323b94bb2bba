use Rattle.std.proofs.Common.{◌++◌, codes, decimal, sym, ap, ◌∙◌}
use Rattle.std.specs.Option.{option_copied}
use Rattle.page.proofs.Pages.{◌then◌, wrote-as, wrote_none}
use Rattle.ack.specs.Text.{address_lines, ended, found_lines}
use Rattle.ack.proofs.write.put_found.Goals as goal

pub returns-in-Some-clause-wrote : goal.returns-in-Some-clause-wrote
returns-in-Some-clause-wrote c =
    let received = decimal c.in-Some.progress.now.received in
    wrote-as
    ((λ j. codes "BITS-Received-Content-Range: " ++ (received ++ (codes "\r\n" ++ ended (address_lines (c.reply.ensures.value j))))) ∙ sym (ap (λ f. ended (found_lines (option_copied f))) c.in-Some.is))
    (c.put.ensures then c.put_decimal.ensures then c.put-in-Some.ensures then c.put_address.ensures)

pub returns-in_default-clause-wrote : goal.returns-in_default-clause-wrote
returns-in_default-clause-wrote c = wrote-as (sym (ap (λ f. ended (found_lines (option_copied f))) c.in_default.is)) (wrote_none c.args.page.now)
