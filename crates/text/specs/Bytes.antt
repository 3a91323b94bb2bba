-- The classes of bytes after RFC 2616, section 2.2, where the tab counts as a separator; the sets of bytes that a head is made of.
use Rattle.std.specs.Prelude.{ℕ, Bool, false, cond, not, ◌&&◌, ◌||◌, List, [], ◌∷◌, codes, ◌==◌, nat_le}
use Rattle.std.specs.Char.{is_ascii_digit}
use Rattle.text.specs.declared.Class.{Class}
use Rattle.text.specs.declared.Class.TheVariants.{Control, Separator, Token, Other}
use Rattle.text.specs.declared.Kind.{Kind}
use Rattle.text.specs.declared.Kind.TheVariants.{Name, Blank, Value, Visible, Divider, Digit}

abbrev pub one_of : ℕ → List ℕ → Bool
one_of b [] = false
one_of b (c ∷ cs) = b == c || one_of b cs

-- CHAR: octets 0 to 127
abbrev pub char : ℕ → Bool
char b = nat_le b 127

-- CTL: octets 0 to 31, and DEL (127)
abbrev pub control : ℕ → Bool
control b = nat_le b 31 || b == 127

-- separators: ( ) < > @ , ; : \ " / [ ] ? = { } SP HT
abbrev pub separator : ℕ → Bool
separator b = one_of b (codes "()<>@,;:\\\"/[]?={} \t")

-- a byte of a token: any CHAR except CTLs or separators
abbrev pub token_byte : ℕ → Bool
token_byte b = char b && not (control b || separator b)

-- each byte has one class: a separator counts as one though it is a CTL too (the tab)
abbrev pub class_of : ℕ → Class
class_of b = cond (token_byte b) Token (cond (separator b) Separator (cond (control b) Control Other))

abbrev pub blank : ℕ → Bool
blank b = b == 32 || b == 9

-- 0x09, 0x20 to 0x7E and 0x80 to 0xFF
abbrev pub value_byte : ℕ → Bool
value_byte b = b == 9 || (nat_le 32 b && (nat_le b 126 || nat_le 128 b))

abbrev pub visible : ℕ → Bool
visible b = nat_le 33 b && nat_le b 126

abbrev pub divider : ℕ → Bool
divider b = blank b || b == 44

abbrev pub passes_as : Kind → ℕ → Bool
passes_as Name b = token_byte b
passes_as Blank b = blank b
passes_as Value b = value_byte b
passes_as Visible b = visible b
passes_as Divider b = divider b
passes_as Digit b = is_ascii_digit b
