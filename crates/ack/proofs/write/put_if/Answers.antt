use Rattle.std.proofs.Common.{sym}
use Rattle.page.proofs.Pages.{wrote-as, wrote_none}
use Rattle.std.proofs.lemmas.Bool.{cond-false}
use Rattle.ack.proofs.write.put_if.Goals as goal

pub returns-else-told : goal.returns-else-told
returns-else-told c = wrote-as (sym (cond-false _ _ _ c.if-told.false)) (wrote_none c.args.page.now)
