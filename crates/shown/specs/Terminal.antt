-- What may go to a terminal.
use Rattle.std.specs.Prelude.{ℕ, Bool, false, ◌&&◌, not, ◌==◌, ◌/◌, ◌%◌, cond, nat_le, List, [], ◌∷◌, ◌++◌, codes}
use Rattle.std.specs.List.{flat_map}
use Rattle.std.specs.Fmt.{digit_glyph}

abbrev pub printable : ℕ → Bool
printable b = nat_le 32 b && nat_le b 126

-- whether a byte is shown as it is; `escaped` says whether the backslash is not
abbrev pub plain : Bool → ℕ → Bool
plain escaped b = printable b && not (escaped && (b == 92))

-- what stands for a byte: itself, or `\xNN`
abbrev pub glyphs : Bool → ℕ → List ℕ
glyphs escaped b =
    cond (plain escaped b) (b ∷ []) (codes "\\x" ++ (digit_glyph false (b / 16) ∷ digit_glyph false (b % 16) ∷ []))

abbrev pub text : Bool → List ℕ → List ℕ
text escaped bytes = flat_map (glyphs escaped) bytes
