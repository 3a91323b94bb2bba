-- Bytes that stand somewhere in a list: where the first mark is, and the list cut at each line end.
use Rattle.std.specs.Prelude.{ℕ, ◌+◌, Bool, true, false, cond, ◌&&◌, List, [], ◌∷◌, Some, None, codes, Option, ◌==◌}

-- the list begins with p
abbrev pub front : List ℕ → List ℕ → Bool
front [] s = true
front (c ∷ p) [] = false
front (c ∷ p) (x ∷ s) = x == c && front p s

abbrev pub line_end : List ℕ
line_end = codes "\r\n"

abbrev pub head_mark : List ℕ
head_mark = codes "\r\n\r\n"

-- where `mark` first stands, counted from n
abbrev pub mark_from : List ℕ → ℕ → List ℕ → Option ℕ
mark_from mark n [] = None
mark_from mark n (b ∷ bs) = cond (front mark (b ∷ bs)) (Some n) (mark_from mark (n + 1) bs)

-- the bytes before the first line end
abbrev pub line_length : List ℕ → ℕ
line_length [] = 0
line_length (b ∷ bs) = cond (front line_end (b ∷ bs)) 0 (1 + line_length bs)

abbrev pub with_byte : ℕ → List (List ℕ) → List (List ℕ)
with_byte b [] = (b ∷ []) ∷ []
with_byte b (l ∷ ls) = (b ∷ l) ∷ ls

-- the list cut at each line end; `inside` says that the first byte is the second of one
abbrev pub cut_lines : Bool → List ℕ → List (List ℕ)
cut_lines inside [] = [] ∷ []
cut_lines true (b ∷ bs) = cut_lines false bs
cut_lines false (b ∷ bs) = cond (front line_end (b ∷ bs)) ([] ∷ cut_lines true bs) (with_byte b (cut_lines false bs))

abbrev pub lines_of : List ℕ → List (List ℕ)
lines_of s = cut_lines false s
