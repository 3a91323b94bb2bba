-- Where an owner's bytes lie in the region.
use Rattle.std.specs.Prelude.{◌≡◌, ℕ, ◌+◌, ◌*◌, ◌/◌, ◌%◌, ◌<◌, ◌≤◌, List, map, length, ◌≢◌, slice_index}
use Rattle.std.specs.List.{range_with_len}

-- where byte j of an owner with pages ps lies
abbrev pub place : List ℕ → ℕ → ℕ
place ps j = 4096 * slice_index ps (j / 4096) + j % 4096

-- the n bytes that an owner with pages ps has
abbrev pub content : List ℕ → List ℕ → ℕ → List ℕ
content region ps n = map (λ j. slice_index region (place ps j)) (range_with_len 0 n)

-- bytes xs were written as the owner's bytes from `at` on, and no other byte of the region was changed
pub record Written (region ps : List ℕ) (at : ℕ) (xs region' : List ℕ) : Type 0 where
  pub long : length region' ≡ length region
  pub put : (j : ℕ) → j < length xs → slice_index region' (place ps (at + j)) ≡ slice_index xs j
  pub kept : (i : ℕ) → ((j : ℕ) → j < length xs → i ≢ place ps (at + j)) → slice_index region' i ≡ slice_index region i

-- bytes of an owner with n pages can be moved from `at` on, at least one, the first on page `first`
pub record Reachable (ps : List ℕ) (n at first len : ℕ) : Type 0 where
  pub some : 0 < len
  pub within : at + len ≤ 4096 * n
  pub start : first ≡ slice_index ps (at / 4096)
