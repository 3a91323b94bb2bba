use Rattle.std.proofs.Common.{replicate, None, ◌≡◌, ◌*◌, ◌%◌, ◌≤◌, refl, arith}
use Rattle.page_store.specs.Pages.{count_of}
use Rattle.page_store.proofs.Starts.{sparing-new, title-none, nothing-new, named-new, single-new, fillable-is, empty-new}
use Rattle.page_store.proofs.state.PageStore.new.Goals as goal

pub invariant_of-result : goal.invariant_of-result
invariant_of-result c =
    let n : c.len-len.result ≡ c.args.region.len = c.len-len.ensures in
    let fills : c.args.region.len ≡ 4096 * c.new.result.pages = omega (arith, c.new.ensures.pages, c.if-len-ne0.false) in
    record { fills = fills; held = refl; rows = refl; sparing = sparing-new c.new.result.chains c.new.ensures.unowned; nothing = λ e h z. nothing-new (replicate 32 None) e h (title-none 32 e); named = named-new; single = single-new }

pub returns : goal.returns
returns c =
    let n : c.len-len.result ≡ c.args.region.len = c.len-len.ensures in
    let m : c.args.region.len % 4096 ≡ 0 = omega (arith, c.if-len-ne0.false) in
    let lo : 4096 ≤ c.args.region.len = omega (arith, c.if-len-lt-PAGE.false) in
    let hi : c.args.region.len ≤ 4194304 = omega (arith, c.if-len.false) in
    let free : 4096 * count_of c.new.result.chains 48 ≡ c.args.region.len = omega (arith, c.new.ensures.free) in
    record {
      verdict = fillable-is c.args.region.len m lo hi;
      answer = (refl, empty-new _ refl refl free);
    }
