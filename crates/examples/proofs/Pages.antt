-- A slot of 4,100 bytes in a store of two pages.
use Rattle.std.proofs.Common.{◌≡◌, ℕ, ◌+◌, ◌*◌, ◌<◌, ◌≤◌, length, vec_len, sym, ap, ◌∙◌, ⊎_elim, arith}
use Rattle.std.proofs.lemmas.Bool.{cases_lt}
use Rattle.page_store.specs.State.{length_of}
use Rattle.page_store.specs.Store.{meaning_of, owned}
use Rattle.page_store.specs.declared.state.PageStore.{PageStore}
use Rattle.page_store.specs.Moves.{counts-le}
use Rattle.page_store.specs.Stores.{held_in, held_out, length-bytes}
use Rattle.page_store.specs.Tables.{sound-of}

module _ (s : PageStore) (k : ℕ) (n : vec_len s.region ≡ 2 * 4096) (l : length ((meaning_of s).held k) ≡ 4100) where
  slot : k < 16
  slot = ⊎_elim (λ h. h) (λ h. let z : length ((meaning_of s).held k) ≡ 0 = ap length (held_out s k h) in absurd (omega arith)) (cases_lt k 16)

  len : length_of s.lengths k ≡ 4100
  len = sym (length-bytes s k) ∙ (ap length (sym (held_in s k slot)) ∙ l)

  few : owned s k + owned s 48 ≤ s.table.pages
  few = counts-le _ _ _ (sound-of s.table) k 48 (omega (arith, slot)) (omega arith) (omega (arith, slot))

  pub two-owned : owned s k ≡ 2
  two-owned = omega (arith, n, len, few, s.fills, (s.sparing k (omega (arith, slot))).0)

  pub none_free : owned s 48 ≡ 0
  none_free = omega (arith, n, few, two-owned, s.fills)
