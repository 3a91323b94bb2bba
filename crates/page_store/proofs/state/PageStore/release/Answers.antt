use Rattle.std.proofs.Common.{◌≡◌, ℕ, ◌*◌, sym, ap, ◌∙◌, arith}
use Rattle.std.proofs.lemmas.List.{length-set}
use Rattle.page_store.specs.Pages.{count_of}
use Rattle.page_store.specs.Stores.{nothing-set, sparing-set}
use Rattle.page_store.proofs.state.PageStore.release.Goals as goal

pub invariant_of-self : goal.invariant_of-self
invariant_of-self c =
    let s = c.args.self.now in
    let d = c.splice.ensures.moved in
    let z : count_of c.splice.new.self.chains c.args.slot ≡ 0 = omega (arith, d.fewer) in
    record {
      fills = s.fills ∙ ap (λ (x : ℕ). 4096 * x) (sym c.splice.ensures.same);
      held = length-set s.lengths c.args.slot 0 ∙ s.held;
      rows = s.rows;
      sparing = sparing-set s c.args.slot c.requires 0 c.splice.new.self.chains (omega arith, omega arith) (λ j h ne. d.counts j (omega arith) ne);
      nothing = nothing-set s c.args.slot c.requires 0;
      named = s.named;
      single = s.single;
    }
