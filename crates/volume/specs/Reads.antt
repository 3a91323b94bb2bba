-- What reading a volume back from its end gives.
use Rattle.std.specs.Prelude.{◌≡◌, ℕ, ◌+◌, ◌^◌, ◌<◌, ◌≤◌, List, [], ◌∷◌, ◌++◌, reverse, length, take, drop, Some, None, Ok, Err, codes, Option, Result, ◌≢◌}
use Rattle.std.specs.List.{AllByRecursion}
use Rattle.volume.specs.Bundles.{Bundle, bytes_of, trailer, Proper, Volume}
use Rattle.volume.specs.declared.bundle.BundleRef.{BundleRef}
use Rattle.volume.specs.declared.bundle.Found.{Found}
use Rattle.volume.specs.declared.bundle.Damage.{Damage}
use Rattle.volume.specs.declared.bundle.Fault.{Fault}
use Rattle.volume.specs.declared.walk.Bundles.{Bundles}
use Rattle.volume.specs.declared.bundle.Fault.TheVariants.{NoTrailer, NoMark, NoZeros, NameLength, NoEntity, TooFar}

-- a bundle and the offset of its first byte
pub record Placed : Type 0 where
  pub at : ℕ
  pub bundle : Bundle

-- what borrowed parts of a volume hold
abbrev pub seen : BundleRef → Bundle
seen b = record { entity = b.entity.now; name = b.name.now }

abbrev pub placed : Found → Placed
placed f = record { at = f.at; bundle = seen f.bundle }

-- the bundles with their offsets, the first at `at`
abbrev pub laid : ℕ → List Bundle → List Placed
laid at [] = []
laid at (b ∷ bs) = record { at = at; bundle = b } ∷ laid (at + length (bytes_of b)) bs

-- s ends in that bundle
pub record Ends (s : List ℕ) (p : Placed) : Type 0 where
  pub before : List ℕ
  pub joins : s ≡ before ++ bytes_of p.bundle
  pub starts : length before ≡ p.at
  pub proper : Proper p.bundle

-- the last 16 bytes are this trailer
pub record Trailed (s : List ℕ) (d n : ℕ) : Type 0 where
  pub before : List ℕ
  pub joins : s ≡ before ++ trailer d n
  pub reach : d < 256 ^ 8
  pub long : n < 256 ^ 2

abbrev pub EndsWith : List ℕ → List ℕ → Type 0
EndsWith s p = (front : List ℕ) × (s ≡ front ++ p)

-- what each test of the end of s asks
abbrev pub Passes : List ℕ → Fault → Type 0
Passes s NoTrailer = 16 ≤ length s
Passes s NoMark = EndsWith s (codes "HALL")
Passes s NoZeros = EndsWith s (0 ∷ 0 ∷ codes "HALL")
Passes s NameLength = (d : ℕ) × (n : ℕ) × Trailed s d n × (1 ≤ n) × (n ≤ 128)
Passes s NoEntity = (d : ℕ) × (n : ℕ) × Trailed s d n × (n < d)
Passes s TooFar = (d : ℕ) × (n : ℕ) × Trailed s d n × (d + 16 ≤ length s)

-- the order of the tests
abbrev pub rank : Fault → ℕ
rank NoTrailer = 0
rank NoMark = 1
rank NoZeros = 2
rank NameLength = 3
rank NoEntity = 4
rank TooFar = 5

-- the first test that fails
pub record Faulty (s : List ℕ) (f : Fault) : Type 0 where
  pub earlier : (e : Fault) → rank e < rank f → Passes s e
  pub fails : Passes s f → ⊥

-- s ends in no bundle, for this fault and no other
pub record NoBundle (s : List ℕ) (f : Fault) : Type 0 where
  pub fault : Faulty s f
  pub only : (g : Fault) → Faulty s g → g ≡ f
  pub none : (p : Placed) → Ends s p → ⊥

-- one step of the walk back, from the bytes that are left: nothing where none are; the bundle in which they end, and
-- what stands before it is left; or damage, and nothing is left
abbrev pub Steps : Bundles → Option (Result Found Damage) → Bundles → Type 0
Steps s None t = (s.left.now ≡ []) × (t.left.now ≡ [])
Steps s (Some (Ok f)) t = Ends s.left.now (placed f) × (t.left.now ≡ take f.at s.left.now)
Steps s (Some (Err d)) t = (1 ≤ d.end) × (d.end ≡ length s.left.now) × NoBundle s.left.now d.fault × (t.left.now ≡ [])

-- from `at` on, s is the bundles bs joined
pub record Tail (s : List ℕ) (at : ℕ) (bs : List Bundle) : Type 0 where
  pub within : at ≤ length s
  pub volume : Volume (drop at s) bs

-- past d's end, s is bundles joined; before it, no bundle ends there
pub record Stopped (s : List ℕ) (d : Damage) (rest : List Bundle) : Type 0 where
  pub sound : Tail s d.end rest
  pub some : 1 ≤ d.end
  pub fault : Faulty (take d.end s) d.fault

pub record Damaged (s : List ℕ) (d : Damage) : Type 0 where
  pub rest : List Bundle
  pub stops : Stopped s d rest
  pub none : (bs : List Bundle) → Volume s bs → ⊥

pub record Counted (s : List ℕ) (n : ℕ) : Type 0 where
  pub bundles : List Bundle
  pub volume : Volume s bundles
  pub count : n ≡ length bundles

-- none of bs has that name
abbrev pub Without : List ℕ → List Bundle → Type 0
Without name bs = AllByRecursion (λ b. b.name ≢ name) bs

-- that bundle has the name, and none behind it
pub record Newest (s name : List ℕ) (p : Placed) : Type 0 where
  pub rest : List Bundle
  pub tail : Tail s p.at (p.bundle ∷ rest)
  pub named : p.bundle.name ≡ name
  pub without : Without name rest

pub record Absent (s name : List ℕ) : Type 0 where
  pub bundles : List Bundle
  pub volume : Volume s bundles
  pub without : Without name bundles

pub record Unfound (s name : List ℕ) (d : Damage) : Type 0 where
  pub rest : List Bundle
  pub stops : Stopped s d rest
  pub without : Without name rest

-- what a search for a name answers, of any bytes
abbrev pub Searched : List ℕ → List ℕ → Result (Option Found) Damage → Type 0
Searched s name (Ok None) = Absent s name
Searched s name (Ok (Some f)) = Newest s name (placed f)
Searched s name (Err d) = Unfound s name d

abbrev pub answer : Result (Option Found) Damage → Option (Option Bundle)
answer (Ok None) = Some None
answer (Ok (Some f)) = Some (Some (seen f.bundle))
answer (Err d) = None

-- the bundles of a volume with their offsets, the newest first
pub record Listed (s : List ℕ) (ps : List Placed) : Type 0 where
  pub bundles : List Bundle
  pub volume : Volume s bundles
  pub is : ps ≡ reverse (laid 0 bundles)
