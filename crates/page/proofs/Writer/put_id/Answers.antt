use Rattle.page.proofs.Ids.{id-pieces}
use Rattle.page.proofs.Pages.{◌then◌, wrote-as}
use Rattle.page.proofs.Writer.put_id.Goals as goal

pub returns : goal.returns
returns c =
    let site = c.put.ensures then c.put_hex.ensures then c.put-2.ensures then c.put_hex-2.ensures then c.put-3.ensures then c.put_hex-3.ensures in
    let serial = c.put-4.ensures then c.put_hex-4.ensures then c.put-5.ensures then c.put_hex-5.ensures then c.put-6.ensures in
    wrote-as (id-pieces c.args.id) (site then serial)
