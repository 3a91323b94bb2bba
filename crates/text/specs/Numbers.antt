-- The one way in which a decimal number is written: 1 to 19 digits, the highest first.
use Rattle.std.specs.Prelude.{ℕ, Bool, cond, ◌&&◌, List, length, Some, None, Option, nat_le}
use Rattle.std.specs.Str.Parse.{digits_value}
use Rattle.std.specs.Str.{all_ascii_digits}

abbrev pub writes_number : List ℕ → Bool
writes_number s = nat_le 1 (length s) && (nat_le (length s) 19 && all_ascii_digits s)

unfoldable pub decimal_of : List ℕ → Option ℕ
decimal_of s = cond (writes_number s) (Some (digits_value 10 s)) None
