-- What the reading of heads keeps, in the words of the grammar.
use Rattle.std.specs.Prelude.{◌≡◌, ℕ, ◌+◌, ◌<◌, List, ◌++◌, length, take, Ok, Err, Result, ◌≢◌}
use Rattle.head.specs.declared.Fault.{Fault}
use Rattle.head.specs.declared.Fault.TheVariants.{Unfinished}
use Rattle.head.specs.Marks.{head_mark}
use Rattle.head.specs.Lines.{Entry}
use Rattle.head.specs.Heads.{Reading, end_of, head_of}
use Rattle.head.specs.Grammar.{Parts, WellFormed, Recased}

-- r is v exactly where the input begins with a head that reads as v, and an input has one reading at most
pub record Exact (input : List ℕ) (r : Result Reading Fault) : Type 0 where
  pub sound : (v : Reading) → r ≡ Ok v → WellFormed input v
  pub complete : (v : Reading) → WellFormed input v → r ≡ Ok v
  pub unique : (v w : Reading) → WellFormed input v → WellFormed input w → v ≡ w

-- an unfinished input has no whole head in it
abbrev pub NoHead : List ℕ → Result Reading Fault → Type 0
NoHead input r = r ≡ Err Unfinished → (length input < 8192) × ((a b : List ℕ) → input ≢ a ++ (head_mark ++ b))

-- what follows the head does not matter, for a refusal either
abbrev pub Fenced : List ℕ → Result Reading Fault → Type 0
Fenced input r = (n : ℕ) (other : List ℕ) → end_of input ≡ Ok n → head_of (take (n + 4) input ++ other) ≡ r

-- nor does the letter case of the fields' names
abbrev pub Caseless : List ℕ → Result Reading Fault → Type 0
Caseless input r = (path other : List ℕ) (fs gs : List Entry) (size : ℕ) → Parts input path fs size → Parts other path gs size → Recased fs gs → head_of other ≡ r
