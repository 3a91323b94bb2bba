-- Outer blanks cut off, texts that are the same but for letter case, and tables of such.
use Rattle.std.specs.Prelude.{ℕ, ◌-◌, Bool, cond, List, [], ◌∷◌, map, length, take, drop, Some, None, Option}
use Rattle.std.specs.Borrow.{Bor}
use Rattle.std.specs.Char.{to_ascii_lowercase}
use Rattle.std.specs.List.{prefix_len, suffix_len}
use Rattle.std.specs.Str.{bytes_eq}
use Rattle.text.specs.Bytes.{blank}

abbrev pub trim_front : List ℕ → List ℕ
trim_front s = drop (prefix_len blank s) s

abbrev pub trim_end : List ℕ → List ℕ
trim_end s = take (length s - suffix_len blank s) s

unfoldable pub trimmed : List ℕ → List ℕ
trimmed s = trim_end (trim_front s)

unfoldable pub same_letters : List ℕ → List ℕ → Bool
same_letters a b = bytes_eq (map to_ascii_lowercase a) (map to_ascii_lowercase b)

-- what a table has for a word, at its first name that is the word but for letter case
abbrev pub named : {T : Type 0} → List (Bor (List ℕ) × T) → List ℕ → Option T
named [] word = None
named (entry ∷ table) word = cond (same_letters word entry.0.now) (Some entry.1) (named table word)
