-- Facts that hold of every page store.
use Rattle.std.specs.Prelude.{◌≡◌, ℕ, ◌+◌, ◌*◌, ◌<◌, ◌≤◌, true, List, Some, None, Option, ◌≢◌, slice_index}
use Rattle.inline_bytes.specs.declared.held.InlineBytes.{InlineBytes}
use Rattle.store.specs.Meaning.{nameable}
use Rattle.page_store.specs.declared.chain.Chain.{Chain}
use Rattle.page_store.specs.Names.{title}
use Rattle.page_store.specs.Pages.{count_of}

-- how many bytes a slot (0 to 15) or a name's row (from 16 on) holds
abbrev pub length_of : List ℕ → ℕ → ℕ
length_of lengths k = slice_index lengths k

-- each owner has as few pages as its bytes need
abbrev pub Sparing : List Chain → List ℕ → Type 0
Sparing chains lengths = (k : ℕ) → k < 48 → (length_of lengths k ≤ 4096 * count_of chains k) × (4096 * count_of chains k < length_of lengths k + 4096)

-- a row without a name holds nothing
abbrev pub Nothing : List ℕ → List (Option (InlineBytes 128)) → Type 0
Nothing lengths names = (e : ℕ) → e < 32 → title names e ≡ None → length_of lengths (16 + e) ≡ 0

-- a name in a row is one that bytes can be published under, so that none stands that the catalog does not show
abbrev pub Named : List (Option (InlineBytes 128)) → Type 0
Named names = (e : ℕ) (n : List ℕ) → title names e ≡ Some n → nameable n ≡ true

-- no name stands twice
abbrev pub Single : List (Option (InlineBytes 128)) → Type 0
Single names = (e f : ℕ) → (e < 32) × (f < 32) × (title names e ≢ None) × (title names e ≡ title names f) → e ≡ f
