-- An id as text. Assumes nothing.
use Rattle.std.specs.Prelude.{◌≡◌, ℕ, zero, suc, ◌+◌, ◌/◌, ◌%◌, ◌^◌, ◌<◌, Bool, true, false, cond, ◌&&◌, List, [], ◌∷◌, ◌++◌, map, take, drop, Some, None, codes, Option, MatchOption, ◌==◌, ◌≢◌, nat_lt}
use Rattle.std.specs.Str.Parse.{digits_value}
use Rattle.std.specs.Char.{digit_value, to_ascii_lowercase, to_ascii_uppercase}
use Rattle.ids.specs.declared.SessionId.{SessionId}

-- the two halves of an id's text: an `x` stands for a hexadecimal digit, any other byte for itself
abbrev pub site_shape : List ℕ
site_shape = codes "{xxxxxxxx-xxxx-xxxx"

abbrev pub serial_shape : List ℕ
serial_shape = codes "-xxxx-xxxxxxxxxxxx}"

abbrev pub as_shape : ℕ → ℕ → Bool
as_shape p b = cond (p == 120) (nat_lt (digit_value b) 16) (b == p)

abbrev pub fits : List ℕ → List ℕ → Bool
fits [] [] = true
fits [] (b ∷ bs) = false
fits (p ∷ ps) [] = false
fits (p ∷ ps) (b ∷ bs) = as_shape p b && fits ps bs

-- what stands at the places of the digits
abbrev pub digits_at : List ℕ → List ℕ → List ℕ
digits_at [] bs = []
digits_at (p ∷ ps) [] = []
digits_at (p ∷ ps) (b ∷ bs) = cond (p == 120) (b ∷ digits_at ps bs) (digits_at ps bs)

abbrev pub part_of : List ℕ → List ℕ → Option ℕ
part_of shape s = cond (fits shape s) (Some (digits_value 16 (digits_at shape s))) None

abbrev pub both : Option ℕ → Option ℕ → Option SessionId
both None serial = None
both (Some site) None = None
both (Some site) (Some serial) = Some (record { site = site; serial = serial })

-- the id that a text writes
unfoldable pub id_of : List ℕ → Option SessionId
id_of s = both (part_of site_shape (take 19 s)) (part_of serial_shape (drop 19 s))

-- a digit as it is written, in capitals
abbrev pub hex_digit : ℕ → ℕ
hex_digit d = cond (nat_lt d 10) (48 + d) (55 + d)

-- the last k hexadecimal digits of n
unfoldable pub hexes : ℕ → ℕ → List ℕ
hexes zero n = []
hexes (suc k) n = hexes k (n / 16) ++ hex_digit (n % 16) ∷ []

-- a shape with digits put at its places
abbrev pub filled : List ℕ → List ℕ → List ℕ
filled [] ds = []
filled (p ∷ ps) [] = p ∷ filled ps []
filled (p ∷ ps) (d ∷ ds) = cond (p == 120) (d ∷ filled ps ds) (p ∷ filled ps (d ∷ ds))

-- how an id is written: 16 digits of the site number, then 16 of the serial
unfoldable pub id_text : SessionId → List ℕ
id_text id = filled site_shape (hexes 16 id.site) ++ filled serial_shape (hexes 16 id.serial)

abbrev pub InRange : SessionId → Type 0
InRange id = (id.site < 2 ^ 64) × (id.serial < 2 ^ 64)

-- what reading a text tells
pub record ReadsId (s : List ℕ) (r : Option SessionId) : Type 0 where
  -- in capitals it is what is written of the id, and what is refused is written of none
  pub exact : MatchOption r ((id : SessionId) → map to_ascii_uppercase s ≢ id_text id) (λ id. map to_ascii_uppercase s ≡ id_text id)
  -- the letter case of its digits does not matter
  pub caseless : (t : List ℕ) → map to_ascii_lowercase t ≡ map to_ascii_lowercase s → id_of t ≡ r
  -- an id that was written is read again
  pub again : (id : SessionId) → InRange id → s ≡ id_text id → r ≡ Some id
  -- equal texts are of equal numbers
  pub apart : (id other : SessionId) → InRange id → InRange other → s ≡ id_text id → s ≡ id_text other → id ≡ other
