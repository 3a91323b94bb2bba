-- What a store answers.
use Rattle.std.specs.Prelude.{◌≡◌, ℕ, ◌-◌, ◌≤◌, min, List, ◌++◌, length, take, drop, Some, None, Ok, Err, Option, Result, codes}
use Rattle.store.specs.declared.Refusal.{Refusal}
use Rattle.store.specs.declared.Refusal.TheVariants.{NoRoom, Unpublishable, Absent}

-- P holds if the call was accepted
abbrev pub Accepted : {X E : Type 0} → Result X E → Type 0 → Type 0
Accepted (Ok x) P = P
Accepted (Err e) P = Unit {0}

-- a refused call gives this reason, and P holds
abbrev pub Refused : {X E : Type 0} → Result X E → E → Type 0 → Type 0
Refused (Ok x) e P = Unit {0}
Refused (Err d) e P = (d ≡ e) × P

-- the length of what is published, if anything is
abbrev pub length_of : Option (List ℕ) → Option ℕ
length_of (Some b) = Some (length b)
length_of None = None

-- how many bytes a copy from an offset puts into a page of so many bytes: none past the end
abbrev pub portion : List ℕ → ℕ → ℕ → ℕ
portion b offset n = min (length b - offset) n

-- what a copy answers
abbrev pub copied : Option (List ℕ) → ℕ → ℕ → Result ℕ Refusal
copied (Some b) offset n = Ok (portion b offset n)
copied None offset n = Err Absent

-- the page after a copy: its first bytes are filled, the others stay
abbrev pub filled : Option (List ℕ) → ℕ → List ℕ → List ℕ
filled (Some b) offset page = take (portion b offset (length page)) (drop offset b) ++ drop (portion b offset (length page)) page
filled None offset page = page

-- a count stays within a page of so many bytes
abbrev pub Within : Result ℕ Refusal → ℕ → Type 0
Within (Ok n) m = n ≤ m
Within (Err e) m = Unit {0}

-- what a refusal prints
abbrev pub text_of : Refusal → List ℕ
text_of NoRoom = codes "no room"
text_of Unpublishable = codes "cannot be published"
text_of Absent = codes "nothing under that name"
