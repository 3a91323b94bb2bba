-- The bytes of a volume with one bundle more, or why there are none.
use Rattle.std.specs.Prelude.{◌≡◌, ℕ, ◌+◌, ◌-◌, true, List, [], ◌∷◌, ◌++◌, length, replicate, Some, Ok, Err, vec_items, vec_len, Result, Vec}
use Rattle.std.specs.declared.alloc.AllocError.{AllocError}
use Rattle.std.specs.declared.alloc.Global.{Global}
use Rattle.volume.specs.Bundles.{Bundle, bytes_of, Volume}
use Rattle.volume.specs.Reads as reads
use Rattle.volume.specs.Writes.{refusal}
use Rattle.volume_files.specs.declared.grow.Unadded.{Unadded}
use Rattle.volume_files.specs.declared.grow.Unadded.TheVariants.{Damaged, Refused, Memory}

abbrev pub size_with : List ℕ → Bundle → ℕ
size_with s b = length s + (length b.entity + length b.name + 16)

-- s, with zeros behind it up to the size with b
abbrev pub Widened : List ℕ → Bundle → Result (Vec ℕ Global) AllocError → Type 0
Widened s b (Ok v) = (vec_items v ≡ s ++ replicate (size_with s b - length s) 0) × (vec_len v ≡ size_with s b)
Widened s b (Err e) = Unit {0}

-- s, and b's bytes behind it
pub record Added (s : List ℕ) (b : Bundle) (t : List ℕ) : Type 0 where
  pub bytes : t ≡ s ++ bytes_of b
  pub old : List Bundle
  pub was : Volume s old
  pub is : Volume t (old ++ (b ∷ []))

abbrev pub Grown : List ℕ → Bundle → Result (Vec ℕ Global) Unadded → Type 0
Grown s b (Ok v) = Added s b (vec_items v)
Grown s b (Err (Damaged d)) = reads.Damaged s d
Grown s b (Err (Refused e)) = refusal true (size_with s b) (0 + length s) (length b.entity) (length b.name) ≡ Some e
Grown s b (Err Memory) = Unit {0}
