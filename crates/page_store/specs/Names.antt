-- The names that stand in a page store.
use Rattle.std.specs.Prelude.{ℕ, Bool, false, List, Some, None, Option, is_some, position, count_by, slice_index_or}
use Rattle.std.specs.Option.{is_none, option_map, option_or}
use Rattle.std.specs.Str.{bytes_eq}
use Rattle.inline_bytes.specs.Contents.{contents}
use Rattle.inline_bytes.specs.declared.held.InlineBytes.{InlineBytes}

-- the name in row e
abbrev pub title : List (Option (InlineBytes 128)) → ℕ → Option (List ℕ)
title rows e = option_map contents (slice_index_or rows e None)

-- a row has that name
abbrev pub names : List ℕ → Option (InlineBytes 128) → Bool
names name None = false
names name (Some held) = bytes_eq (contents held) name

-- the first row with a name
abbrev pub row_with : List (Option (InlineBytes 128)) → List ℕ → Option ℕ
row_with rows name = position (λ row. names name row) rows

-- the first row without one
abbrev pub vacancy : List (Option (InlineBytes 128)) → Option ℕ
vacancy rows = position (λ row. is_none row) rows

-- how many names stand
abbrev pub standing : List (Option (InlineBytes 128)) → ℕ
standing rows = count_by (λ row. is_some row) rows

-- the row that a name is published in: its own, or one without a name
abbrev pub target : List (Option (InlineBytes 128)) → List ℕ → Option ℕ
target rows name = option_or (row_with rows name) (vacancy rows)
