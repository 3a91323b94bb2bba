-- What the lines tell of a round of messages.
use Rattle.std.specs.Prelude.{◌≡◌, ℕ, ◌<◌, ◌≤◌, List, length, count_by, take, ◌==◌, slice_index, slice_index_or}
use Rattle.intake_bench.specs.declared.Line.{Line}

abbrev pub blank : Line
blank = record { number = 0; used = 0; length = 0 }

-- a line of a message of n bytes: one of the numbers, no more used than came, an acknowledgement within a page
pub record Told (n : ℕ) (line : Line) : Type 0 where
  pub listed : line.number < 24
  pub within : line.used ≤ n
  pub fits : line.length ≤ 1024

-- the lines of the first m messages, as far as they reach, tell of them
abbrev pub Telling : List ℕ → ℕ → List Line → Type 0
Telling lengths m lines = (i : ℕ) → i < m → i < length lines → Told (slice_index lengths i) (slice_index_or lines i blank)

-- r is how many of the first m lines have number 0, where the lines reach so far
abbrev pub Counting : List Line → ℕ → ℕ → Type 0
Counting lines m r = m ≤ length lines → r ≡ count_by (λ line. line.number == 0) (take m lines)
