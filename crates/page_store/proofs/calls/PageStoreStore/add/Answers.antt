use Rattle.std.proofs.Common.{rules, ◌≡◌, ℕ, ◌<◌, List, length, sym, subst}
use Rattle.std.proofs.lemmas.List.{nil_from_length}
use Rattle.store.specs.Meaning.{Added}
use Rattle.page_store.specs.Store.{meaning_of, Adding}
use Rattle.page_store.specs.Stores.{added, added_none, adding-none}
use Rattle.page_store.proofs.calls.PageStoreStore.add.Goals as goal

pub returns-then-not-is_empty-clause-added : goal.returns-then-not-is_empty-clause-added
returns-then-not-is_empty-clause-added c =
    let h : c.args.slot < 16 = search rules in
    added c.args.self.now c.put.new.self c.args.slot c.args.bytes.now c.put.ensures h

pub returns-else-not-is_empty-clause-added : goal.returns-else-not-is_empty-clause-added
returns-else-not-is_empty-clause-added c =
    let s = c.args.self.now in
    let n : length c.args.bytes.now ≡ 0 = search rules in
    subst (λ (x : List ℕ). Added (meaning_of s) c.args.slot x (meaning_of s)) (sym (nil_from_length c.args.bytes.now n)) (added_none s c.args.slot)

pub returns-else-not-is_empty-clause-account : goal.returns-else-not-is_empty-clause-account
returns-else-not-is_empty-clause-account c =
    let s = c.args.self.now in
    let n : length c.args.bytes.now ≡ 0 = search rules in
    subst (λ (x : List ℕ). Adding s c.args.slot x s) (sym (nil_from_length c.args.bytes.now n)) (adding-none s c.args.slot)
