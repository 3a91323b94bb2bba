-- A worked example of room.
use Rattle.std.specs.Prelude.{◌≡◌, ℕ, length, vec_len}
use Rattle.page_store.specs.declared.state.PageStore.{PageStore}
use Rattle.page_store.specs.Store.{meaning_of}

-- a slot of 4,100 bytes in a store of two pages owns both, so it has room for 4,092 bytes more
abbrev pub Two-pages : Type 0
Two-pages = (s : PageStore) (k : ℕ) → vec_len s.region ≡ 8192 → length ((meaning_of s).held k) ≡ 4100 → (meaning_of s).room k ≡ 4092
