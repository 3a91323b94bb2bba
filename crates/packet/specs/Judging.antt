-- What each packet type needs, judged field by field.
use Rattle.std.specs.Prelude.{ℕ, Bool, false, cond, ◌||◌, List, Some, None, Ok, Err, codes, Option, Result, ◌==◌}
use Rattle.std.specs.Option.{option_map, ok_or}
use Rattle.text.specs.Words.{same_letters}
use Rattle.text.specs.Numbers.{decimal_of}
use Rattle.head.specs.Heads.{Found, Table, found}
use Rattle.head.specs.declared.fields.Known.{Known}
use Rattle.ids.specs.Ids.{id_of}
use Rattle.ids.specs.declared.SessionId.{SessionId}
use Rattle.packet.specs.declared.Fault.{Fault}
use Rattle.packet.specs.declared.Fault.TheVariants.{Field}
use Rattle.packet.specs.declared.judging.Action.{Action}
use Rattle.packet.specs.declared.judging.Action.TheVariants.{Create, Ping, Fragment, Close, Cancel}
use Rattle.packet.specs.declared.judging.Kind.{Kind}
use Rattle.packet.specs.declared.judging.Kind.TheVariants as kind
use Rattle.packet.specs.declared.judging.Judged.{Judged}
use Rattle.packet.specs.Ranges.{range_of}
use Rattle.packet.specs.Protocols.{protocols_of}

abbrev pub and_then : {A B : Type 0} → Result A Fault → (A → Result B Fault) → Result B Fault
and_then (Ok x) f = f x
and_then (Err e) f = Err e

-- a field that must stand: where it is missing, the place is 0
abbrev pub given : Option Found → Result Found Fault
given None = Err (Field 0)
given (Some f) = Ok f

-- what a field's value reads as, by its own rule
abbrev pub judged_by : {A : Type 0} → (List ℕ → Option A) → Found → Result A Fault
judged_by read f = ok_or (read f.value) (Field f.at)

abbrev pub is_fragment : Option Found → Bool
is_fragment None = false
is_fragment (Some f) = same_letters f.value (codes "FRAGMENT")

-- only a fragment announces a body
abbrev pub if_empty : Bool → Option ℕ → Option ℕ
if_empty fragment None = None
if_empty fragment (Some n) = cond (n == 0 || fragment) (Some n) None

unfoldable pub length_of : Table → Result ℕ Fault
length_of t = and_then (given t.content_length) (judged_by (λ v. if_empty (is_fragment t.packet_type) (decimal_of v)))

unfoldable pub kind_named : List ℕ → Option Kind
kind_named v =
    cond (same_letters v (codes "CREATE-SESSION")) (Some kind.Create)
    (cond (same_letters v (codes "PING")) (Some kind.Ping)
    (cond (same_letters v (codes "FRAGMENT")) (Some kind.Fragment)
    (cond (same_letters v (codes "CLOSE-SESSION")) (Some kind.Close)
    (cond (same_letters v (codes "CANCEL-SESSION")) (Some kind.Cancel)
    None))))

unfoldable pub kind_of : Table → Result Kind Fault
kind_of t = and_then (given t.packet_type) (judged_by kind_named)

unfoldable pub id_of_field : Table → Result SessionId Fault
id_of_field t = and_then (given t.session_id) (judged_by id_of)

unfoldable pub protocols_of_field : Table → Result Bool Fault
protocols_of_field t = and_then (given t.supported_protocols) (judged_by protocols_of)

-- an encoding need not stand
abbrev pub encoding_of : Option Found → Result (Unit {0}) Fault
encoding_of None = Ok tt
encoding_of (Some f) = cond (same_letters f.value (codes "identity")) (Ok tt) (Err (Field f.at))

abbrev pub with_range : Table → SessionId → Found → Result Action Fault
with_range t id line = and_then (judged_by range_of line) (λ range. and_then (encoding_of t.content_encoding) (λ _. Ok (Fragment id range line.at)))

abbrev pub with_session : Table → SessionId → Result Action Fault
with_session t id = and_then (given t.content_range) (with_range t id)

-- the session, the range, the encoding
unfoldable pub fragment_of : Table → Result Action Fault
fragment_of t = and_then (id_of_field t) (with_session t)

unfoldable pub action_of : Kind → Table → Result Action Fault
action_of kind.Create t = and_then (protocols_of_field t) (λ shared. Ok (Create shared))
action_of kind.Ping t = Ok Ping
action_of kind.Fragment t = fragment_of t
action_of kind.Close t = and_then (id_of_field t) (λ id. Ok (Close id))
action_of kind.Cancel t = and_then (id_of_field t) (λ id. Ok (Cancel id))

abbrev pub with_kind : Table → ℕ → Kind → Result Judged Fault
with_kind t n k = and_then (action_of k t) (λ a. Ok (record { length = n; action = a }))

abbrev pub with_length : Table → ℕ → Result Judged Fault
with_length t n = and_then (kind_of t) (with_kind t n)

-- the order of judging: the length, the type, what the type needs
unfoldable pub judged_of : Table → Result Judged Fault
judged_of t = and_then (length_of t) (with_length t)

abbrev pub line_of : Option Known → Option Found
line_of k = option_map found k

abbrev pub lined : Result Known Fault → Result Found Fault
lined (Ok k) = Ok (found k)
lined (Err e) = Err e
