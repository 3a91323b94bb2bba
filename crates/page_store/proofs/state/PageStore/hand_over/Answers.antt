use Rattle.std.proofs.Common.{rules, Some, arith, ◌≡◌, ℕ, ◌*◌, sym, refl, ap, ◌∙◌}
use Rattle.std.specs.Option.{option_map}
use Rattle.inline_bytes.specs.Contents.{contents}
use Rattle.page_store.proofs.Handing.{can-of, given, none, freed, others, named, names-kept, held₂, rows₂, sparing₂, nothing₂, named₂, single₂}
use Rattle.page_store.proofs.state.PageStore.hand_over.Goals as goal

pub invariant_of-self : goal.invariant_of-self
invariant_of-self c =
    let s = c.args.self.now in
    let k = c.args.slot in
    let e = c.args.row in
    let n = c.args.name.now in
    let can = can-of s k n e c.requires in
    let a = c.splice.new.self in
    let b = c.splice-2.new.self in
    let d = c.splice.ensures.moved in
    let f = c.splice-2.ensures.moved in
    let new = c.new.result in
    let name-is : option_map contents new ≡ Some n = search rules in
    record {
      fills = s.fills ∙ ap (λ (x : ℕ). 4096 * x) (sym (c.splice-2.ensures.same ∙ c.splice.ensures.same));
      held = held₂ s k e n can new name-is a.next a.chains d b.next b.chains f;
      rows = rows₂ s k e n can new name-is a.next a.chains d b.next b.chains f;
      sparing = sparing₂ s k e n can new name-is a.next a.chains d b.next b.chains f;
      nothing = nothing₂ s k e n can new name-is a.next a.chains d b.next b.chains f;
      named = named₂ s k e n can new name-is a.next a.chains d b.next b.chains f;
      single = single₂ s k e n can new name-is a.next a.chains d b.next b.chains f;
    }

pub returns : goal.returns
returns c =
    let s = c.args.self.now in
    let k = c.args.slot in
    let e = c.args.row in
    let n = c.args.name.now in
    let can = can-of s k n e c.requires in
    let a = c.splice.new.self in
    let b = c.splice-2.new.self in
    let d = c.splice.ensures.moved in
    let f = c.splice-2.ensures.moved in
    let new = c.new.result in
    let name-is : option_map contents new ≡ Some n = search rules in
    record {
      region = refl;
      given = given s k e n can new name-is a.next a.chains d b.next b.chains f;
      none = none s k e n can new name-is a.next a.chains d b.next b.chains f;
      freed = freed s k e n can new name-is a.next a.chains d b.next b.chains f;
      others = others s k e n can new name-is a.next a.chains d b.next b.chains f;
      lengths = refl;
      named = named s k e n can new name-is a.next a.chains d b.next b.chains f;
      names = names-kept s k e n can new name-is a.next a.chains d b.next b.chains f;
    }

pub offset_bounds-self-owner-2 : goal.offset_bounds-self-owner-2
offset_bounds-self-owner-2 c = omega (arith, (can-of c.args.self.now c.args.slot c.args.name.now c.args.row c.requires).within)

pub bounds-self-owner-2 : goal.bounds-self-owner-2
bounds-self-owner-2 c = omega (arith, (can-of c.args.self.now c.args.slot c.args.name.now c.args.row c.requires).within)
