-- A range of bytes: the word "bytes", one or more blanks, and a-b/T.
use Rattle.std.specs.Prelude.{ℕ, ◌+◌, cond, ◌&&◌, List, length, take, drop, Some, None, codes, Option, ◌==◌, nat_le, nat_lt, slice_index}
use Rattle.std.specs.Borrow.{Bor}
use Rattle.std.specs.Char.{is_ascii_digit}
use Rattle.std.specs.List.{prefix_len}
use Rattle.text.specs.Bytes.{blank}
use Rattle.text.specs.Words.{same_letters}
use Rattle.text.specs.Numbers.{decimal_of}
use Rattle.packet.specs.declared.ranges.Range.{Range}

-- a number, and what follows the mark behind it
pub record Rest : Type 0 where
  pub number : ℕ
  pub rest : List ℕ

abbrev pub rest_of : ℕ × Bor (List ℕ) → Rest
rest_of p = record { number = p.0; rest = p.1.now }

abbrev pub with_rest : Option ℕ → List ℕ → Option Rest
with_rest None s = None
with_rest (Some n) s = Some (record { number = n; rest = s })

abbrev pub cut_at : ℕ → ℕ → List ℕ → Option Rest
cut_at n mark s = cond (nat_lt n (length s) && slice_index s n == mark) (with_rest (decimal_of (take n s)) (drop (n + 1) s)) None

-- the number in front of a mark
unfoldable pub before_mark : ℕ → List ℕ → Option Rest
before_mark mark s = cut_at (prefix_len is_ascii_digit s) mark s

abbrev pub total_of : ℕ → ℕ → Option ℕ → Option Range
total_of a b None = None
total_of a b (Some t) = Some (record { first = a; last = b; total = t })

abbrev pub last_of : ℕ → Option Rest → Option Range
last_of a None = None
last_of a (Some r) = total_of a r.number (decimal_of r.rest)

abbrev pub first_of : Option Rest → Option Range
first_of None = None
first_of (Some r) = last_of r.number (before_mark 47 r.rest)

-- a-b/T
unfoldable pub span_of : List ℕ → Option Range
span_of s = first_of (before_mark 45 s)

abbrev pub after_blanks : ℕ → List ℕ → Option Range
after_blanks n s = cond (nat_le 1 n) (span_of (drop n s)) None

unfoldable pub range_of : List ℕ → Option Range
range_of v = cond (same_letters (take 5 v) (codes "bytes")) (after_blanks (prefix_len blank (drop 5 v)) (drop 5 v)) None
