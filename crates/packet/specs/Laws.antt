-- What the reading of requests keeps, in the words of the forms.
use Rattle.std.specs.Prelude.{◌≡◌, ℕ, List, [], ◌∷◌, map, take, drop, Ok, Err, Result}
use Rattle.head.specs.declared.Fault as text
use Rattle.head.specs.Heads.{Reading, head_of}
use Rattle.std.specs.Char.{to_ascii_lowercase}
use Rattle.head.specs.Lines.{Entry}
use Rattle.head.specs.Grammar.{Parts, WellFormed}
use Rattle.packet.specs.declared.Fault.{Fault}
use Rattle.packet.specs.declared.Fault.TheVariants.{Text}
use Rattle.packet.specs.Packets.{Request, packet_of}
use Rattle.packet.specs.Forms.{Needs}

-- the input begins with a head that has what the request's type needs; the body is what came of the announced bytes
pub record IsRequest (input : List ℕ) (q : Request) : Type 0 where
  pub head : Reading
  pub formed : WellFormed input head
  pub needs : Needs head.table q.content_length q.action
  pub path-is : q.path ≡ head.path
  pub size_is : q.head_size ≡ head.size
  pub body_is : q.body ≡ take q.content_length (drop head.size input)

-- r is q exactly where the input begins with that request, and an input is one request at most
pub record Exact (input : List ℕ) (r : Result Request Fault) : Type 0 where
  pub sound : (q : Request) → r ≡ Ok q → IsRequest input q
  pub complete : (q : Request) → IsRequest input q → r ≡ Ok q
  pub unique : (p q : Request) → IsRequest input p → IsRequest input q → p ≡ q

-- a fault of the head comes through as it is
abbrev pub Passed : List ℕ → Result Request Fault → Type 0
Passed input r = (e : text.Fault) → head_of input ≡ Err e → r ≡ Err (Text e)

-- the same fields but for the letter case of their names and values
abbrev pub Recased : List Entry → List Entry → Type 0
Recased [] [] = Unit {0}
Recased [] (f ∷ fs) = ⊥
Recased (e ∷ es) [] = ⊥
Recased (e ∷ es) (f ∷ fs) = (e.at ≡ f.at) × (map to_ascii_lowercase e.name ≡ map to_ascii_lowercase f.name) × (map to_ascii_lowercase e.value ≡ map to_ascii_lowercase f.value) × Recased es fs

-- letter case in the fields does not matter, for a refusal either
abbrev pub Caseless : List ℕ → Result Request Fault → Type 0
Caseless input r = (other path : List ℕ) (fs gs : List Entry) (size : ℕ) → Parts input path fs size → Parts other path gs size → Recased fs gs → drop size other ≡ drop size input → packet_of other ≡ r
