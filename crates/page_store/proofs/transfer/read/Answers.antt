use Rattle.std.proofs.Common.{refl, ◌∙◌, arith}
use Rattle.page_store.proofs.Walks.{read-next}
use Rattle.page_store.proofs.transfer.read.Goals as goal

pub loop-part-preserved : goal.loop-part-preserved
loop-part-preserved c =
    let v = c.loop-part.invariant in
    let g = c.in-Some.ensures.steps in
    record {
      can = tt;
      ends = tt;
      table = g.table ∙ v.table;
      owner = g.owner ∙ v.owner;
      start = g.start ∙ v.start;
      end = g.end ∙ v.end;
      filled = read-next c.args.walk.table.now c.args.walk.owner c.args.walk.start _ c.loop-part.part-iterator (c.in-Some.part, c.in-Some.place) c.next.new.self g
          c.args.walk.owned v.table v.owner v.start v.end c.args.region.now c.args.out.now c.loop-part.out c.copy_from_slice.new.self refl c.loop-part.auto.out c.requires.region
          c.copy_from_slice.ensures.after v.filled;
    }

pub returns : goal.returns
returns c =
    let v = c.loop-part.invariant in
    λ j h. v.filled j (omega (arith, c.in-None.ensures.steps.0, v.end, v.start))
