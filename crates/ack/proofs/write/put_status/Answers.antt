use Rattle.std.proofs.Common.{◌++◌, codes, decimal, ◌∙◌}
use Rattle.page.proofs.Pages.{◌then◌, wrote-as}
use Rattle.ack.proofs.write.put_status.Goals as goal

pub returns : goal.returns
returns c =
    let number = c.from.ensures ∙ c.number.ensures in
    wrote-as (λ j. codes "HTTP/1.1 " ++ (decimal (number j) ++ (codes " " ++ c.phrase.ensures j))) (c.put.ensures then c.put_decimal.ensures then c.put-2.ensures then c.put-3.ensures)
