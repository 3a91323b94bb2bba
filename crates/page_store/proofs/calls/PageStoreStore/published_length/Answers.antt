use Rattle.std.proofs.Common.{ℕ, ◌+◌, Some, Option, sym, ap, ◌∙◌}
use Rattle.store.specs.Answers.{length_of}
use Rattle.page_store.specs.Store.{published_at}
use Rattle.page_store.specs.Stores.{length-bytes}
use Rattle.page_store.proofs.calls.PageStoreStore.published_length.Goals as goal

pub returns : goal.returns
returns c =
    let s = c.args.self.now in
    sym (ap (λ (o : Option ℕ). length_of (published_at s o)) (sym c.in_ok-row.ensures.row) ∙ ap Some (length-bytes s (16 + c.in_ok-row.row)))
