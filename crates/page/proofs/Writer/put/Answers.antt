use Rattle.std.proofs.Common.{refl, arith}
use Rattle.page.proofs.Pages.{puts-past, puts-part}
use Rattle.page.proofs.Writer.put.Goals as goal

pub returns-then-self : goal.returns-then-self
returns-then-self c = record { puts = puts-past c.args.self.now.page.now c.args.s.now c.args.self.now.at (omega arith); same_page = refl }

pub returns : goal.returns
returns c =
    let s = c.args.s.now in
    let n = c.min-n.result in
    record {
      puts = puts-part c.args.self.now.page.now s c.copy_from_slice.new.self c.args.self.now.at n _ (omega arith) (omega arith) c.copy_from_slice.ensures.after;
      same_page = refl;
    }
