use Rattle.std.proofs.Common.{◌≡◌, ℕ, ◌*◌, ◌<◌, ◌≤◌, cond, ltb, length, sym, ◌∙◌, arith, w64, Fits}
use Rattle.std.proofs.lemmas.Bool.{cond-true, lt-ltb}
use Rattle.page_store.specs.declared.state.PageStore.{PageStore}
use Rattle.page_store.specs.State.{length_of}
use Rattle.page_store.specs.Store.{owned, room_of, pages_at}
use Rattle.page_store.specs.Tables.{count-is}
use Rattle.page_store.specs.Stores.{room_in, pages-le}
use Rattle.page_store.proofs.calls.PageStoreStore.room.Goals as goal

within : (k : ℕ) → k < 16 → k < 48
within k h = omega arith

fits-few : {n : ℕ} → n ≤ 1024 → Fits w64 n
fits-few h = omega arith

own_is : (s : PageStore) (k : ℕ) → k < 16 → cond (ltb k 16) (length (pages_at s k)) 0 ≡ owned s k
own_is s k h = cond-true (ltb k 16) (length (pages_at s k)) 0 (lt-ltb k 16 h) ∙ count-is s.table k

free-is : (s : PageStore) → length (pages_at s 48) ≡ owned s 48
free-is s = count-is s.table 48

pub overflow_add-result : goal.overflow_add-result
overflow_add-result c =
    let s = c.args.self.now in
    let h = c.if-slot-lt-SLOTS.true in
    let o = own_is s c.args.slot h in
    let g = free-is s in
    let le = pages-le s c.args.slot (within c.args.slot h) in
    fits-few (omega arith)

pub overflow_sub-result : goal.overflow_sub-result
overflow_sub-result c =
    let s = c.args.self.now in
    let h = c.if-slot-lt-SLOTS.true in
    let o = own_is s c.args.slot h in
    let f : length_of s.lengths c.args.slot ≤ 4096 * owned s c.args.slot = (s.sparing c.args.slot (within c.args.slot h)).0 in
    omega arith

pub returns-then-slot-lt-SLOTS : goal.returns-then-slot-lt-SLOTS
returns-then-slot-lt-SLOTS c =
    let s = c.args.self.now in
    let h = c.if-slot-lt-SLOTS.true in
    let o = own_is s c.args.slot h in
    let g = free-is s in
    let r : room_of s c.args.slot ≡ room_of s c.args.slot = omega arith in
    omega arith ∙ sym (room_in s c.args.slot h)
