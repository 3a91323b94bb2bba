use Rattle.std.proofs.Common.{rules, refl, ap}
use Rattle.page_store.specs.declared.chain.Chain.{Chain}
use Rattle.page_store.proofs.Fresh.{sound-new, at-free, at_other}
use Rattle.page_store.proofs.table.Table.new.Goals as goal

pub invariant_of-result : goal.invariant_of-result
invariant_of-result c =
    let s = sound-new c.links-next.result c.links-next.ensures.link c.args.pages c.requires.0 c.requires.1 c.links-next.ensures.long c.default-chains.result (search rules) in
    record { few = s.few; links = s.links; owners = s.owners; once = s.once; whole = s.whole; tails = s.tails }

pub returns : goal.returns
returns c = record {
  pages = refl;
  free = ap (λ (x : Chain). x.count) (at-free c.links-next.result c.links-next.ensures.link c.args.pages c.requires.0 c.requires.1 c.links-next.ensures.long c.default-chains.result (search rules));
  unowned = λ k ne. ap (λ (x : Chain). x.count) (at_other c.links-next.result c.links-next.ensures.link c.args.pages c.requires.0 c.requires.1 c.links-next.ensures.long c.default-chains.result (search rules) k ne);
}
