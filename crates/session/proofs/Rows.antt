-- The first row of a table that passes a test, as the library's search gives it.
use Rattle.std.proofs.Common.{◌≡◌, ℕ, suc, ◌+◌, Bool, true, false, cond, List, [], ◌∷◌, map, Some, Option, refl, sym, ap, ◌∙◌, arith, position}
use Rattle.std.specs.List.{position_from}
use Rattle.std.specs.Option.{option_map}
use Rattle.std.proofs.lemmas.Iterator.Adapters.{position_from-zero}
use Rattle.session.specs.Sessions.{Live, index_of}

later : {X : Type 0} (test : X → Bool) (i : ℕ) (xs : List X) → position_from test (i + 1) xs ≡ option_map suc (position_from test i xs)
later test i [] = refl
later test i (x ∷ xs) = by (test x) (later test (i + 1) xs)
  where
    by : (b : Bool) → position_from test (i + 1 + 1) xs ≡ option_map suc (position_from test (i + 1) xs) → cond b (Some (i + 1)) (position_from test (i + 1 + 1) xs) ≡ option_map suc (cond b (Some i) (position_from test (i + 1) xs))
    by true h = ap Some (omega arith)
    by false h = h

from_start : {X : Type 0} (read : X → Option Live) (test : Option Live → Bool) (xs : List X) → index_of test (map read xs) ≡ position_from (λ x. test (read x)) 0 xs
from_start read test [] = refl
from_start read test (x ∷ xs) = ap (λ o. cond (test (read x)) (Some 0) o) (ap (option_map suc) (from_start read test xs) ∙ sym (later (λ y. test (read y)) 0 xs))

pub index_is_position : {X : Type 0} (read : X → Option Live) (test : Option Live → Bool) (xs : List X) → position (λ x. test (read x)) xs ≡ index_of test (map read xs)
index_is_position read test xs = position_from-zero (λ x. test (read x)) xs ∙ sym (from_start read test xs)
