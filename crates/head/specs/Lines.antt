-- The lines of a head: the request line and the fields.
use Rattle.std.specs.Prelude.{ℕ, zero, suc, ◌+◌, ◌-◌, Bool, cond, ◌&&◌, List, [], ◌∷◌, ◌++◌, length, take, drop, Some, None, Ok, Err, codes, Option, Result, ◌==◌, nat_le, slice_index}
use Rattle.std.specs.List.{prefix_len, list_all}
use Rattle.std.specs.Str.{bytes_eq}
use Rattle.text.specs.Bytes.{token_byte, value_byte, visible}
use Rattle.text.specs.Words.{trimmed}
use Rattle.head.specs.declared.lines.Field.{Field}

abbrev pub good_path : List ℕ → Bool
good_path p = slice_index p 0 == 47 && (nat_le (length p) 128 && list_all visible p)

-- the line is this method, this path and this version
abbrev pub request_of : List ℕ → List ℕ
request_of path = codes "BITS_POST " ++ (path ++ codes " HTTP/1.1")

abbrev pub middle : List ℕ → List ℕ
middle line = take (length line - 19) (drop 10 line)

-- the path of a request line
unfoldable pub path_of : List ℕ → Option (List ℕ)
path_of line = cond (bytes_eq line (request_of (middle line)) && good_path (middle line)) (Some (middle line)) None

-- a field as it was sent: the offset of its line, its name, its value without outer blanks
pub record Entry : Type 0 where
  pub at : ℕ
  pub name : List ℕ
  pub value : List ℕ

abbrev pub valued : ℕ → List ℕ → List ℕ → Option Entry
valued at n v = cond (list_all value_byte v && nat_le (length v) 4096) (Some (record { at = at; name = n; value = v })) None

abbrev pub named_to : ℕ → ℕ → List ℕ → Option Entry
named_to n at line = cond (nat_le 1 n && slice_index line n == 58) (valued at (take n line) (trimmed (drop (n + 1) line))) None

-- the field that a line holds: a token, a colon and a value
unfoldable pub field_of : ℕ → List ℕ → Option Entry
field_of at line = named_to (prefix_len token_byte line) at line

-- the field in front of those that follow, or the offset of the first bad line
abbrev pub join_field : Option Entry → ℕ → Result (List Entry) ℕ → Result (List Entry) ℕ
join_field None at rest = Err at
join_field (Some f) at (Ok fs) = Ok (f ∷ fs)
join_field (Some f) at (Err bad) = Err bad

-- the fields of the lines from offset `at` on, of which there may be `left`
abbrev pub fields_of : ℕ → ℕ → List (List ℕ) → Result (List Entry) ℕ
fields_of left at [] = Ok []
fields_of zero at (l ∷ ls) = Err at
fields_of (suc left) at (l ∷ ls) = join_field (field_of at l) at (fields_of left (at + (length l + 2)) ls)

abbrev pub entry : Field → Entry
entry f = record { at = f.at; name = f.name.now; value = f.value.now }
