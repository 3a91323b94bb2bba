-- Facts that hold of every volume store.
use Rattle.std.specs.Prelude.{ℕ, ◌*◌, ◌≤◌, List, slice_index}
use Rattle.volume.specs.Writes.{volume_in}

abbrev pub length_of : List ℕ → ℕ → ℕ
length_of lengths k = slice_index lengths k

-- no slot holds more than its bytes
abbrev pub Within : ℕ → List ℕ → Type 0
Within capacity lengths = (k : ℕ) → length_of lengths k ≤ capacity

-- the volume's bytes, behind the slots
abbrev pub volume_bytes : List ℕ → ℕ → ℕ → List ℕ
volume_bytes region capacity used = volume_in region (16 * capacity) used
