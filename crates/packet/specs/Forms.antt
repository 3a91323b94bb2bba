-- How the values of the known fields are written, and what each type of request needs.
use Rattle.std.specs.Prelude.{◌≡◌, ℕ, ◌<◌, Bool, true, false, ◌||◌, List, [], ◌∷◌, ◌++◌, length, IfSome, Some, codes}
use Rattle.std.specs.List.{list_all}
use Rattle.text.specs.Bytes as bytes
use Rattle.text.specs.Words.{same_letters}
use Rattle.text.specs.Numbers.{decimal_of}
use Rattle.head.specs.Heads.{Found, Table}
use Rattle.ids.specs.Ids.{id_of}
use Rattle.ids.specs.declared.SessionId.{SessionId}
use Rattle.packet.specs.declared.ranges.Range.{Range}
use Rattle.packet.specs.declared.judging.Action.{Action}
use Rattle.packet.specs.declared.judging.Action.TheVariants.{Create, Ping, Fragment, Close, Cancel}
use Rattle.packet.specs.Protocols.{ours}

-- a range: the word "bytes" in any letter case, one or more blanks, three numbers with a hyphen and a slash between
pub record RangeText (v : List ℕ) (r : Range) : Type 0 where
  pub word : List ℕ
  pub gap : List ℕ
  pub a : List ℕ
  pub b : List ℕ
  pub t : List ℕ
  pub is : v ≡ word ++ (gap ++ (a ++ (45 ∷ (b ++ (47 ∷ t)))))
  pub unit : same_letters word (codes "bytes") ≡ true
  pub parted : 0 < length gap
  pub blanks : list_all bytes.blank gap ≡ true
  pub from : decimal_of a ≡ Some r.first
  pub to : decimal_of b ≡ Some r.last
  pub of : decimal_of t ≡ Some r.total

-- an id, a separator, and what follows it
pub record Link (v : List ℕ) (id : SessionId) : Type 0 where
  pub text : List ℕ
  pub gap : List ℕ
  pub rest : List ℕ
  pub is : v ≡ text ++ (gap ++ rest)
  pub reads : id_of text ≡ Some id
  pub parted : 0 < length gap
  pub dividers : list_all bytes.divider gap ≡ true

-- a list of protocols: at least one id, and separators between the ids alone
abbrev pub ListText : List ℕ → List SessionId → Type 0
ListText v [] = ⊥
ListText v (id ∷ []) = id_of v ≡ Some id
ListText v (id ∷ next ∷ ids) = (l : Link v id) × ListText l.rest (next ∷ ids)

abbrev pub any_ours : List SessionId → Bool
any_ours [] = false
any_ours (id ∷ ids) = ours id || any_ours ids

pub record Announced (t : Table) (n : ℕ) : Type 0 where
  pub line : Found
  pub stands : t.content_length ≡ Some line
  pub reads : decimal_of line.value ≡ Some n

pub record Typed (t : Table) (name : List ℕ) : Type 0 where
  pub line : Found
  pub stands : t.packet_type ≡ Some line
  pub reads : same_letters line.value name ≡ true

pub record OfSession (t : Table) (id : SessionId) : Type 0 where
  pub line : Found
  pub stands : t.session_id ≡ Some line
  pub reads : id_of line.value ≡ Some id

pub record Ranged (t : Table) (range : Range) (at : ℕ) : Type 0 where
  pub line : Found
  pub stands : t.content_range ≡ Some line
  pub reads : RangeText line.value range
  pub placed : line.at ≡ at

pub record Offers (t : Table) (shared : Bool) : Type 0 where
  pub line : Found
  pub ids : List SessionId
  pub stands : t.supported_protocols ≡ Some line
  pub reads : ListText line.value ids
  pub told : shared ≡ any_ours ids

-- no encoding, or the one that changes nothing
abbrev pub Plain : Table → Type 0
Plain t = IfSome t.content_encoding (λ line. same_letters line.value (codes "identity") ≡ true)

-- what a request needs that announces n bytes of body; fields that it does not need may be anything
abbrev pub Needs : Table → ℕ → Action → Type 0
Needs t n (Create shared) = Announced t n × (n ≡ 0) × Typed t (codes "CREATE-SESSION") × Offers t shared
Needs t n Ping = Announced t n × (n ≡ 0) × Typed t (codes "PING")
Needs t n (Fragment id range at) = Announced t n × Typed t (codes "FRAGMENT") × OfSession t id × Ranged t range at × Plain t
Needs t n (Close id) = Announced t n × (n ≡ 0) × Typed t (codes "CLOSE-SESSION") × OfSession t id
Needs t n (Cancel id) = Announced t n × (n ≡ 0) × Typed t (codes "CANCEL-SESSION") × OfSession t id
