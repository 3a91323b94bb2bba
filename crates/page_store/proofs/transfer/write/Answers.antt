use Rattle.std.proofs.Common.{ℕ, refl, ◌-◌, List, ◌∙◌, subst, arith}
use Rattle.std.proofs.lemmas.List.{take_all}
use Rattle.page_store.specs.Bytes.{Written}
use Rattle.page_store.specs.Owners.{pages_in}
use Rattle.page_store.proofs.Walks.{written-next}
use Rattle.page_store.proofs.transfer.write.Goals as goal

pub loop-part-preserved : goal.loop-part-preserved
loop-part-preserved c =
    let v = c.loop-part.invariant in
    let g = c.in-Some.ensures.steps in
    record {
      can = tt;
      ends = tt;
      table = g.table ∙ v.table;
      owner = g.owner ∙ v.owner;
      start = g.start ∙ v.start;
      end = g.end ∙ v.end;
      put = written-next c.args.walk.table.now c.args.walk.owner c.args.walk.start _ c.loop-part.part-iterator (c.in-Some.part, c.in-Some.place) c.next.new.self g
          c.args.walk.owned v.table v.owner v.start v.end c.args.region.now c.args.bytes.now c.loop-part.region c.copy_from_slice.new.self refl c.requires.region
          c.copy_from_slice.ensures.after v.put;
    }

pub returns : goal.returns
returns c =
    let v = c.loop-part.invariant in
    subst (λ (x : List ℕ). Written c.args.region.now (pages_in c.args.walk.table.now c.args.walk.owner) c.args.walk.start x c.loop-part.region)
    (take_all (c.loop-part.part-iterator.at - c.args.walk.start) c.args.bytes.now (omega (arith, c.in-None.ensures.steps.0, v.end, v.start))) v.put
