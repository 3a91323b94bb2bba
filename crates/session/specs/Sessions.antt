-- What the records of sessions mean, and the world that an intake stands for.
use Rattle.std.specs.Prelude.{ℕ, suc, Bool, cond, List, [], ◌∷◌, Some, None, Ok, Err, Option, Result, slice_index_or}
use Rattle.std.specs.Option.{option_map}
use Rattle.ack.specs.Told.{address_of}
use Rattle.ack.specs.declared.told.Stage.{Stage}
use Rattle.ack.specs.declared.told.Stage.TheVariants.{Receiving, AtApprover, Ready}
use Rattle.inline_bytes.specs.Contents.{contents}
use Rattle.store.specs.Meaning.{Meaning}
use Rattle.session.specs.declared.destination.Destination.{Destination}
use Rattle.session.specs.declared.records.Session.{Session}

abbrev pub path_of : Destination → List ℕ
path_of d = contents d.bytes

-- how far a session is: bytes are still to come, the approver is asked, or it may be closed, with the approver's reply address
pub data Phase : Type 0 where
  receiving : Phase
  away : Phase
  ready : List ℕ → Phase

abbrev pub phase_of : Stage → Phase
phase_of Receiving = receiving
phase_of AtApprover = away
phase_of (Ready address) = ready (address_of (Ready address))

-- a live session, in plain values
pub record Live : Type 0 where
  pub serial : ℕ
  pub path : List ℕ
  pub received : ℕ
  pub total : Option ℕ
  pub phase : Phase
  pub stamp : ℕ

abbrev pub live : Session → Live
live s = record { serial = s.serial; path = path_of s.destination; received = s.received; total = s.total; phase = phase_of s.stage; stamp = s.stamp }

abbrev pub mapped_ok : {X Y E : Type 0} → (X → Y) → Result X E → Result Y E
mapped_ok f (Ok x) = Ok (f x)
mapped_ok f (Err e) = Err e

-- the row of a table: a live session, or free
abbrev pub row_of : Option Session → Option Live
row_of r = option_map live r

abbrev pub row : List (Option Live) → ℕ → Option Live
row rs i = slice_index_or rs i None

-- the first row that passes a test
abbrev pub index_of : (Option Live → Bool) → List (Option Live) → Option ℕ
index_of test [] = None
index_of test (x ∷ xs) = cond (test x) (Some 0) (option_map suc (index_of test xs))

-- all that the calls of an intake depend on: its table of 16 rows, the next serial, its clock and what its store means
pub record World : Type 0 where
  pub rows : List (Option Live)
  pub next : ℕ
  pub clock : ℕ
  pub store : Meaning
