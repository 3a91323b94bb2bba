use Rattle.std.proofs.Common.{rules, ◌≡◌, false, is_ok, Some, None, sym, ap, ◌∙◌}
use Rattle.std.specs.Option.{is_some}
use Rattle.page_store.specs.Store.{row_for}
use Rattle.page_store.proofs.Handing.{can-of, published, row_for-fits}
use Rattle.page_store.proofs.calls.PageStoreStore.publish.Goals as goal

pub returns-in_err-row-clause-verdict : goal.returns-in_err-row-clause-verdict
returns-in_err-row-clause-verdict c =
    let s = c.args.self.now in
    let q : row_for s c.args.slot c.args.name.now ≡ None = search rules in
    let n : is_ok c.from_residual.result ≡ false = search rules in
    n ∙ (sym (ap is_some q) ∙ row_for-fits s c.args.slot c.args.name.now)

pub returns-clause-verdict : goal.returns-clause-verdict
returns-clause-verdict c =
    let s = c.args.self.now in
    let q : row_for s c.args.slot c.args.name.now ≡ Some c.in_ok-row.row = search rules in
    sym (ap is_some q) ∙ row_for-fits s c.args.slot c.args.name.now

pub returns-clause-published : goal.returns-clause-published
returns-clause-published c =
    let s = c.args.self.now in
    let q : row_for s c.args.slot c.args.name.now ≡ Some c.in_ok-row.row = search rules in
    published s c.hand_over.new.self c.args.slot c.in_ok-row.row c.args.name.now c.hand_over.ensures (can-of s c.args.slot c.args.name.now c.in_ok-row.row q)
