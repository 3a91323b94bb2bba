-- A list of protocols: ids, and between two of them one or more blanks and commas.
use Rattle.std.specs.Prelude.{ℕ, zero, suc, Bool, false, cond, ◌&&◌, ◌||◌, List, [], ◌∷◌, length, take, drop, Some, None, Option, ◌==◌}
use Rattle.std.specs.List.{prefix_len}
use Rattle.text.specs.Bytes.{divider}
use Rattle.ids.specs.Ids.{id_of}
use Rattle.ids.specs.declared.SessionId.{SessionId}

-- {7df0354d-249b-430f-820d-3d2a9bef4931}
abbrev pub ours : SessionId → Bool
ours id = id.site == 0x7df0354d249b430f && id.serial == 0x820d3d2a9bef4931

-- after an id: the end, or a separator and what `next` reads
abbrev pub after_with : (List ℕ → Option Bool) → Bool → List ℕ → Option Bool
after_with next found [] = Some found
after_with next found (b ∷ bs) = cond (prefix_len divider (b ∷ bs) == 0) None (next (drop (prefix_len divider (b ∷ bs)) (b ∷ bs)))

abbrev pub with_id : (Bool → List ℕ → Option Bool) → Option SessionId → Bool → List ℕ → Option Bool
with_id next None found s = None
with_id next (Some id) found s = after_with (next (found || ours id)) (found || ours id) s

-- whether ours is among the ids, or came before; `fuel` is no less than the bytes that are left
abbrev pub ids_from : ℕ → Bool → List ℕ → Option Bool
ids_from zero found s = None
ids_from (suc fuel) found s = with_id (ids_from fuel) (id_of (take 38 s)) found (drop 38 s)

abbrev pub after_from : ℕ → Bool → List ℕ → Option Bool
after_from fuel found s = after_with (ids_from fuel found) found s

unfoldable pub protocols_of : List ℕ → Option Bool
protocols_of v = ids_from (length v) false v
