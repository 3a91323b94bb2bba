use Rattle.std.proofs.Common.{◌≡◌, ℕ, ◌+◌, ◌/◌, length, sym, ap, ◌∙◌, arith}
use Rattle.page_store.specs.Pages.{total, count_of}
use Rattle.page_store.specs.Store.{pages_at}
use Rattle.page_store.specs.Chains.{total-same}
use Rattle.page_store.specs.Tables.{count-is}
use Rattle.page_store.proofs.state.PageStore.free_pages.Goals as goal

pub returns : goal.returns
returns c =
    let s = c.args.self.now in
    let t : total (λ k. length (pages_at s k)) 48 ≡ total (count_of s.table.chains) 48 = total-same (count_of s.table.chains) (λ k. length (pages_at s k)) 48 (λ k h. count-is s.table k) in
    let w : total (count_of s.table.chains) 48 + count_of s.table.chains 48 ≡ s.table.pages = s.table.whole in
    let d : s.table.pages ≡ s.region.len / 4096 = omega (arith, s.fills) in
    record { free = sym (count-is s.table 48); whole = ap (λ (x : ℕ). x + count_of s.table.chains 48) t ∙ (w ∙ d) }
