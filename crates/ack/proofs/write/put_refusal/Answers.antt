use Rattle.std.proofs.Common.{◌++◌, codes, sym, ap, ◌∙◌}
use Rattle.ids.specs.Ids.{hexes}
use Rattle.page.proofs.Pages.{◌then◌, wrote-as, wrote_none}
use Rattle.ack.specs.Text.{ended, error_lines}
use Rattle.ack.proofs.write.put_refusal.Goals as goal

pub returns-in-Some-clause-wrote : goal.returns-in-Some-clause-wrote
returns-in-Some-clause-wrote c =
    let code = c.from.ensures in
    let context = c.from-in-Some.ensures ∙ c.number.ensures in
    wrote-as
    ((λ j. codes "BITS-Error: 0x" ++ (hexes 8 (code j) ++ (codes "\r\nBITS-Error-Context: 0x" ++ (hexes 1 (context j) ++ codes "\r\n")))) ∙ sym (ap (λ r. ended (error_lines r)) c.in-Some.is))
    (c.put.ensures then c.put_hex.ensures then c.put-in-Some.ensures then c.put_hex-in-Some.ensures then c.put-in-Some-2.ensures)

pub returns-in_default-clause-wrote : goal.returns-in_default-clause-wrote
returns-in_default-clause-wrote c = wrote-as (sym (ap (λ r. ended (error_lines r)) c.in_default.is)) (wrote_none c.args.page.now)
