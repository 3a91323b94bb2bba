use Rattle.std.proofs.Common.{◌≡◌, ℕ, ◌+◌, ◌*◌, length, sym, refl, ap, ◌∙◌, subst, arith}
use Rattle.std.proofs.lemmas.List.{length-set, with_items_is}
use Rattle.page_store.specs.Bytes.{Written}
use Rattle.page_store.specs.Pages.{pages_of}
use Rattle.page_store.specs.State.{length_of}
use Rattle.page_store.specs.Stores.{nothing-set, sparing-set}
use Rattle.page_store.proofs.state.PageStore.put.Goals as goal

pub invariant_of-self : goal.invariant_of-self
invariant_of-self c =
    let s = c.args.self.now in
    let d = c.reserve-first.ensures.moved in
    let f = c.reserve-first.ensures.fewest in
    let v : ℕ = length_of s.lengths c.args.slot + length c.args.bytes.now in
    record {
      fills = s.fills ∙ ap (λ (x : ℕ). 4096 * x) (sym c.reserve-first.ensures.same);
      held = length-set s.lengths c.args.slot v ∙ s.held;
      rows = s.rows;
      sparing = sparing-set s c.args.slot c.requires.slot v c.reserve-first.new.self.chains (f.enough, f.needed) (λ j h ne. d.counts j ne (omega arith));
      nothing = nothing-set s c.args.slot c.requires.slot v;
      named = s.named;
      single = s.single;
    }

pub returns : goal.returns
returns c =
    let s = c.args.self.now in
    let u = c.reserve-first.new.self in
    let was : c.deref_mut.result.now ≡ s.region.items = c.deref_mut.ensures.value in
    let long : length c.write.new.region ≡ s.region.len = c.write.ensures.long ∙ (ap length was ∙ sym s.region.ok.0) in
    let w : Written s.region.items (pages_of u.next u.chains c.args.slot) (length_of s.lengths c.args.slot) c.args.bytes.now c.write.new.region =
    rw (c.new-walk.ensures.table, c.new-walk.ensures.owner, c.new-walk.ensures.start, was) at c.write.ensures in
    record {
      region = subst (Written s.region.items (pages_of u.next u.chains c.args.slot) (length_of s.lengths c.args.slot) c.args.bytes.now) (sym (with_items_is s.region c.write.new.region long)) w;
      pages = c.reserve-first.ensures.moved;
      lengths = refl;
      names = refl;
    }
