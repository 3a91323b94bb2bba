use Rattle.std.proofs.Common.{rules, Some, ◌≡◌, ℕ, ◌+◌, ◌-◌, ◌<◌, ◌≤◌, min, List, ◌++◌, length, get_or, take, drop, Ok, Option, sym, ap, ◌∙◌, arith}
use Rattle.std.proofs.lemmas.List.{length-take-le}
use Rattle.store.specs.Answers.{copied, filled, portion}
use Rattle.page_store.specs.Bytes.{place}
use Rattle.page_store.specs.State.{length_of}
use Rattle.page_store.specs.Store.{published_at, bytes_at, pages_at, entry}
use Rattle.page_store.specs.Content.{filled_is}
use Rattle.page_store.specs.Stores.{length-bytes}
use Rattle.page_store.proofs.calls.PageStoreStore.copy.Goals as goal
use Rattle.page_store.proofs.calls.PageStoreStore.copy.Goals.{After-min-n}

-- how many bytes are copied
count : (c : After-min-n) → c.min-n.result ≡ portion (bytes_at c.args.self.now (16 + c.in_ok-row.row)) c.args.offset (length c.args.page.now)
count c =
    let s = c.args.self.now in
    c.min-n.ensures
    ∙ ap (λ (x : ℕ). min x (length c.args.page.now))
    (c.saturating_sub.ensures ∙ ap (λ (x : ℕ). x - c.args.offset) (sym (length-bytes s (16 + c.in_ok-row.row))))

pub returns-then-n-gt0 : goal.returns-then-n-gt0
returns-then-n-gt0 c =
    let s = c.args.self.now in
    let page = c.args.page.now in
    let k : ℕ = 16 + c.in_ok-row.row in
    let b : List ℕ = bytes_at s k in
    let n : ℕ = c.min-n.result in
    let e : entry s.names c.args.name.now ≡ Some c.in_ok-row.row = search rules in
    let q = count (goal.at.returns-then-n-gt0 c).After-min-n in
    let sat = c.saturating_sub.ensures in
    let le : n ≤ length page = omega (arith, c.min-n.ensures) in
    let left : n ≤ length_of s.lengths k - c.args.offset = omega (arith, c.min-n.ensures) in
    let part : length (take n page) ≡ n = length-take-le n page le in
    let got : (j : ℕ) → j < length (take n page) → get_or c.read.new.out j 0 ≡ get_or s.region.items (place (pages_at s k) (c.args.offset + j)) 0 =
    rw (c.new-walk.ensures.table, c.new-walk.ensures.owner, c.new-walk.ensures.start, c.deref.ensures.value) at c.read.ensures in
    let out : c.read.new.out ≡ take n (drop c.args.offset b) =
    filled_is s.region.items (pages_at s k) c.read.new.out page (length_of s.lengths k) c.args.offset n left le (c.read.auto.out ∙ part) (λ j h. got j (omega (arith, part))) in
    record {
      answer = sym (ap (λ (o : Option ℕ). copied (published_at s o) c.args.offset (length page)) e ∙ ap Ok (sym q));
      page =
          ap (λ (x : List ℕ). x ++ drop n page) out
          ∙ (ap (λ (m : ℕ). take m (drop c.args.offset b) ++ drop m page) q
          ∙ sym (ap (λ (o : Option ℕ). filled (published_at s o) c.args.offset page) e));
      within = le;
    }

pub returns-else-n-gt0 : goal.returns-else-n-gt0
returns-else-n-gt0 c =
    let s = c.args.self.now in
    let page = c.args.page.now in
    let k : ℕ = 16 + c.in_ok-row.row in
    let b : List ℕ = bytes_at s k in
    let e : entry s.names c.args.name.now ≡ Some c.in_ok-row.row = search rules in
    let q = count (goal.at.returns-else-n-gt0 c).After-min-n in
    let z : 0 ≡ portion b c.args.offset (length page) = omega (arith, c.if-n-gt0.false, q) in
    record {
      answer = sym (ap (λ (o : Option ℕ). copied (published_at s o) c.args.offset (length page)) e ∙ ap Ok (sym q));
      page = ap (λ (m : ℕ). take m (drop c.args.offset b) ++ drop m page) z ∙ sym (ap (λ (o : Option ℕ). filled (published_at s o) c.args.offset page) e);
      within = omega (arith, c.if-n-gt0.false);
    }
