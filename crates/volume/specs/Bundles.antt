-- What a volume is: bundles joined, or none. A byte string is a list of numbers.
use Rattle.std.specs.Prelude.{◌≡◌, ℕ, zero, suc, ◌+◌, ◌/◌, ◌%◌, ◌^◌, ◌<◌, ◌≤◌, cond, List, [], ◌∷◌, ◌++◌, length, Some, None, codes, Option}
use Rattle.std.specs.List.{flat_map, AllByRecursion}
use Rattle.std.specs.Str.{bytes_eq}

-- a script's bytes and the name that they are kept under
pub record Bundle : Type 0 where
  pub entity : List ℕ
  pub name : List ℕ

-- n in w bytes, high byte first
unfoldable pub big_endian : ℕ → ℕ → List ℕ
big_endian zero n = []
big_endian (suc w) n = big_endian w (n / 256) ++ (n % 256 ∷ [])

-- the 16 bytes that close a bundle: the distance back to its entity, the name's length, two zeros and the mark
abbrev pub trailer : ℕ → ℕ → List ℕ
trailer distance n = big_endian 8 distance ++ (big_endian 2 n ++ (0 ∷ 0 ∷ codes "HALL"))

abbrev pub distance : Bundle → ℕ
distance b = length b.entity + length b.name

-- entity, name, trailer
abbrev pub bytes_of : Bundle → List ℕ
bytes_of b = b.entity ++ (b.name ++ trailer (distance b) (length b.name))

pub record Proper (b : Bundle) : Type 0 where
  pub some : 1 ≤ length b.entity
  pub named : 1 ≤ length b.name
  pub short : length b.name ≤ 128
  pub fits : distance b < 256 ^ 8

-- s is the bundles bs joined, in the order in which they were written
pub record Volume (s : List ℕ) (bs : List Bundle) : Type 0 where
  pub each : AllByRecursion Proper bs
  pub is : s ≡ flat_map bytes_of bs

-- a byte string has at most one reading
abbrev pub Unique : Type 0
Unique = (s : List ℕ) (bs cs : List Bundle) → Volume s bs → Volume s cs → bs ≡ cs

-- the bundle of that name that was written last
abbrev pub later : Option Bundle → Bundle → Option Bundle
later None b = Some b
later (Some c) b = Some c

abbrev pub newest : List ℕ → List Bundle → Option Bundle
newest name [] = None
newest name (b ∷ bs) = cond (bytes_eq b.name name) (later (newest name bs) b) (newest name bs)
