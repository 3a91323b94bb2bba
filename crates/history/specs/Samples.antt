-- Small cases of the ledger's words, worked out.
use Rattle.std.specs.Prelude.{◌≡◌, ℕ, false, List, [], ◌∷◌, map, Some, None}
use Rattle.history.specs.Ledger.{Part, first_byte, places, receiving, Entry, struck}

abbrev pub part : ℕ → List ℕ → Part
part from bytes = record { from = from; bytes = bytes }

-- bytes 1, 2, 3 from place 0 on, then 9, 9, 9 from place 1 on
abbrev pub overlapping : List Part
overlapping = part 0 (1 ∷ 2 ∷ 3 ∷ []) ∷ part 1 (9 ∷ 9 ∷ 9 ∷ []) ∷ []

abbrev pub stamped : ℕ → Entry
stamped clock = record { path = []; parts = []; total = None; standing = receiving; approved = false; stamp = clock }

pub record Samples : Type 0 where
  pub first : map (first_byte overlapping) (0 ∷ 1 ∷ 2 ∷ 3 ∷ 4 ∷ []) ≡ Some 1 ∷ Some 2 ∷ Some 3 ∷ Some 9 ∷ None ∷ []
  pub counted : places overlapping ≡ 4
  pub apart : places (part 0 (1 ∷ []) ∷ part 5 (2 ∷ []) ∷ []) ≡ 2
  pub empty : places (part 7 [] ∷ []) ≡ 0
  pub stays : struck 1209609 (Some (stamped 10)) ≡ Some (stamped 10)
  pub ends : struck 1209610 (Some (stamped 10)) ≡ None
