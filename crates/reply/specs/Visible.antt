-- Which bytes are a reply address. Assumes nothing.
use Rattle.std.specs.Prelude.{◌≡◌, ℕ, ◌≤◌, Bool, true, ◌&&◌, List, length, nat_le}
use Rattle.std.specs.List.{list_all}

abbrev pub is_visible : ℕ → Bool
is_visible b = nat_le 0x21 b && nat_le b 0x7e

abbrev pub are_visible : List ℕ → Bool
are_visible s = list_all is_visible s

-- the most bytes that an address has
abbrev pub most : ℕ
most = 256

pub record IsAddress (s : List ℕ) : Type 0 where
  pub short : length s ≤ most
  pub seen : are_visible s ≡ true
