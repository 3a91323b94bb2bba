use Rattle.std.proofs.Common.{◌≡◌, ℕ, ◌+◌, ◌-◌, ◌/◌, sym, ◌∙◌, subst, arith}
use Rattle.page_store.specs.Pages.{Moved, count_of}
use Rattle.page_store.specs.Tables.{start_is}
use Rattle.page_store.proofs.table.Table.reserve.Goals as goal

pub returns : goal.returns
returns c =
    let t = c.args.self.now in
    let u = c.splice.new.self in
    let more = (c.args.len + c.args.n - 1) / 4096 + 1 - count_of t.chains c.args.owner in
    let d = c.splice.ensures.moved in
    let e : count_of u.chains c.args.owner - count_of t.chains c.args.owner ≡ more = omega (arith, d.more) in
    record {
      moved = subst (λ (m : ℕ). Moved t.next t.chains c.args.owner 48 m u.next u.chains) (sym e) d;
      fewest = record { enough = omega (arith, d.more, c.requires.fewest.enough, c.requires.fewest.needed, c.requires.some); needed = omega (arith, d.more, c.requires.fewest.enough, c.requires.fewest.needed, c.requires.some) };
      first = c.first_page-first.ensures ∙ start_is t c.args.owner c.args.len more u.next u.chains c.requires.owner c.requires.fewest
          (λ z. omega (arith, c.requires.fewest.enough, c.requires.fewest.needed, c.requires.some)) (omega (arith, d.fewer)) d;
      same = c.splice.ensures.same;
    }
