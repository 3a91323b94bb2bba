-- The same line after line, as a loop goes.
use Rattle.std.specs.Prelude.{ℕ, Bool, true, cond, List, [], ◌∷◌, length, take, drop, Some, None, Ok, Err, Option, Result, nat_le}
use Rattle.head.specs.declared.Fault.{Fault}
use Rattle.head.specs.declared.Fault.TheVariants.{Malformed}
use Rattle.head.specs.Marks.{front, line_end, line_length, lines_of}
use Rattle.head.specs.Lines.{Entry}
use Rattle.head.specs.Heads.{Table, kept}

abbrev pub with_line : Table → ℕ → Option Entry → Result Table Fault
with_line t at None = Err (Malformed at)
with_line t at (Some e) = Ok (kept t e)

-- the known fields after a line that is good, or its fault
abbrev pub added : Result ℕ Fault → Table → Result Table Fault
added (Ok n) t = Ok t
added (Err e) t = Err e

-- a list up to its first line end
abbrev pub first_line : List ℕ → List ℕ
first_line s = take (line_length s) s

-- nothing follows, or a line end
abbrev pub ends_here : List ℕ → Bool
ends_here [] = true
ends_here (b ∷ bs) = front line_end (b ∷ bs)

-- what follows a line, its line end first
abbrev pub lines_after : List ℕ → List (List ℕ)
lines_after s = cond (nat_le 2 (length s)) (lines_of (drop 2 s)) []

abbrev pub and_then : Result Table Fault → (Table → Result Table Fault) → Result Table Fault
and_then (Ok t) f = f t
and_then (Err e) f = Err e
