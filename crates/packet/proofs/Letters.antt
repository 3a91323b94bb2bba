-- Texts that are the same but for letter case.
use Rattle.std.proofs.Common.{◌≡◌, ℕ, true, false, List, map, length, sym, refl, ap, ◌∙◌}
use Rattle.std.proofs.lemmas.Slice.Eq.{bytes_eq-Decides}
use Rattle.std.proofs.lemmas.List.{length-map}
use Rattle.std.specs.Char.{to_ascii_lowercase}
use Rattle.std.specs.Str.{bytes_eq}
use Rattle.text.specs.Words.{same_letters}

-- they are as long as one another
pub letters-long : (a b : List ℕ) → (length a ≡ length b → ⊥) → same_letters a b ≡ false
unfolding same_letters
letters-long a b n = elim (bytes_eq (map to_ascii_lowercase a) (map to_ascii_lowercase b)) as (λ v. bytes_eq (map to_ascii_lowercase a) (map to_ascii_lowercase b) ≡ v → v ≡ false) [
  | true ↦ λ e. absurd (n (sym (length-map a to_ascii_lowercase) ∙ ap length ((bytes_eq-Decides (map to_ascii_lowercase a) (map to_ascii_lowercase b)).0 e) ∙ length-map b to_ascii_lowercase))
  | false ↦ λ e. refl
] refl
