-- What a head is: a request line and at most 64 fields, joined by CR LF and closed by an empty line, at most 8,192 bytes.
use Rattle.std.specs.Prelude.{◌≡◌, ℕ, ◌+◌, ◌-◌, ◌<◌, ◌≤◌, true, false, List, [], ◌∷◌, ◌++◌, map, length, Some, None, Option, ◌≢◌, slice_index, slice_index_or}
use Rattle.std.specs.List.{list_all}
use Rattle.std.specs.Char.{to_ascii_lowercase}
use Rattle.text.specs.Bytes.{token_byte, value_byte, blank}
use Rattle.head.specs.Marks.{line_end, head_mark}
use Rattle.head.specs.Lines.{Entry, request_of, good_path}
use Rattle.head.specs.declared.fields.Name.{Name}
use Rattle.head.specs.Heads.{Reading, Found, name_of, slot_of}

-- a field: a token, a colon, and a value with blanks around it that do not belong to it
pub record FieldLine (line name value : List ℕ) : Type 0 where
  pub before : List ℕ
  pub after : List ℕ
  pub is : line ≡ name ++ (58 ∷ (before ++ (value ++ after)))
  pub named : 0 < length name
  pub token : list_all token_byte name ≡ true
  pub plain : list_all value_byte value ≡ true
  pub short : length value ≤ 4096
  pub blanks-before : list_all blank before ≡ true
  pub blanks-after : list_all blank after ≡ true
  pub first : blank (slice_index value 0) ≡ false
  pub last : blank (slice_index value (length value - 1)) ≡ false

-- the lines from offset `at` on hold these fields
abbrev pub FieldLines : ℕ → List (List ℕ) → List Entry → Type 0
FieldLines at [] [] = Unit {0}
FieldLines at [] (e ∷ es) = ⊥
FieldLines at (l ∷ ls) [] = ⊥
FieldLines at (l ∷ ls) (e ∷ es) = (e.at ≡ at) × FieldLine l e.name e.value × FieldLines (at + (length l + 2)) ls es

-- each line after a line end
abbrev pub led : List (List ℕ) → List ℕ
led [] = []
led (l ∷ ls) = line_end ++ (l ++ led ls)

abbrev pub join_lines : List (List ℕ) → List ℕ
join_lines [] = []
join_lines (l ∷ ls) = l ++ led ls

-- the input begins with a head of `size` bytes that has this path and these fields
pub record Parts (input path : List ℕ) (fields : List Entry) (size : ℕ) : Type 0 where
  pub lines : List (List ℕ)
  pub rest : List ℕ
  pub is : input ≡ join_lines (request_of path ∷ lines) ++ (head_mark ++ rest)
  pub good : good_path path ≡ true
  pub hold : FieldLines (length (request_of path) + 2) lines fields
  pub few : length lines ≤ 64
  pub sized : size ≡ length (join_lines (request_of path ∷ lines)) + 4
  pub in-time : size ≤ 8192

-- no field has the name
abbrev pub Absent : Name → List Entry → Type 0
Absent n fs = (i : ℕ) (d : Entry) → i < length fs → name_of (slice_index_or fs i d).name ≢ Some n

-- one field has the name, and no other
pub record OnlyOne (n : Name) (fs : List Entry) (f : Found) : Type 0 where
  pub index : ℕ
  pub inside : index < length fs
  pub named : (d : Entry) → name_of (slice_index_or fs index d).name ≡ Some n
  pub at-is : (d : Entry) → (slice_index_or fs index d).at ≡ f.at
  pub value-is : (d : Entry) → (slice_index_or fs index d).value ≡ f.value
  pub only : (i : ℕ) (d : Entry) → i < length fs → name_of (slice_index_or fs i d).name ≡ Some n → i ≡ index

-- what stands under a known name: nothing where no field has it, else its only field
abbrev pub Sole : Name → List Entry → Option Found → Type 0
Sole n fs None = Absent n fs
Sole n fs (Some f) = OnlyOne n fs f

-- the input begins with a head that reads as v: each known field stands once at most
pub record WellFormed (input : List ℕ) (v : Reading) : Type 0 where
  pub fields : List Entry
  pub parts : Parts input v.path fields v.size
  pub known : (n : Name) → Sole n fields (slot_of v.table n)
  pub once : v.table.repeated ≡ None

-- the same fields but for the letter case of their names
abbrev pub Recased : List Entry → List Entry → Type 0
Recased [] [] = Unit {0}
Recased [] (f ∷ fs) = ⊥
Recased (e ∷ es) [] = ⊥
Recased (e ∷ es) (f ∷ fs) = (e.at ≡ f.at) × (e.value ≡ f.value) × (map to_ascii_lowercase e.name ≡ map to_ascii_lowercase f.name) × Recased es fs
