-- A whole head: its end, its lines, its known fields.
use Rattle.std.specs.Prelude.{ℕ, ◌+◌, cond, List, [], ◌∷◌, length, take, Some, None, Ok, Err, codes, fold, Option, Result, nat_lt}
use Rattle.std.specs.Option.{option_map}
use Rattle.text.specs.Words.{same_letters}
use Rattle.head.specs.declared.Fault.{Fault}
use Rattle.head.specs.declared.Fault.TheVariants.{Unfinished, Malformed, Repeated}
use Rattle.head.specs.declared.Head.{Head}
use Rattle.head.specs.declared.fields.Name.{Name}
use Rattle.head.specs.declared.fields.Name.TheVariants.{ContentLength, PacketType, SessionId, ContentRange, ContentEncoding, SupportedProtocols}
use Rattle.head.specs.declared.fields.Known.{Known}
use Rattle.head.specs.declared.fields.Fields.{Fields}
use Rattle.head.specs.Marks.{head_mark, mark_from, lines_of}
use Rattle.head.specs.Lines.{Entry, path_of, fields_of}

-- the known field that a name means, in any letter case
unfoldable pub name_of : List ℕ → Option Name
name_of n =
    cond (same_letters n (codes "Content-Length")) (Some ContentLength)
    (cond (same_letters n (codes "BITS-Packet-Type")) (Some PacketType)
    (cond (same_letters n (codes "BITS-Session-Id")) (Some SessionId)
    (cond (same_letters n (codes "Content-Range")) (Some ContentRange)
    (cond (same_letters n (codes "Content-Encoding")) (Some ContentEncoding)
    (cond (same_letters n (codes "BITS-Supported-Protocols")) (Some SupportedProtocols)
    None)))))

-- a known field's line offset and value
pub record Found : Type 0 where
  pub at : ℕ
  pub value : List ℕ

-- each known field where it stands, and the offset of the first that stands again
pub record Table : Type 0 where
  pub content_length : Option Found
  pub packet_type : Option Found
  pub session_id : Option Found
  pub content_range : Option Found
  pub content_encoding : Option Found
  pub supported_protocols : Option Found
  pub repeated : Option ℕ

abbrev pub empty : Table
empty = record { content_length = None; packet_type = None; session_id = None; content_range = None; content_encoding = None; supported_protocols = None; repeated = None }

abbrev pub slot_of : Table → Name → Option Found
slot_of t ContentLength = t.content_length
slot_of t PacketType = t.packet_type
slot_of t SessionId = t.session_id
slot_of t ContentRange = t.content_range
slot_of t ContentEncoding = t.content_encoding
slot_of t SupportedProtocols = t.supported_protocols

abbrev pub with_slot : Table → Name → Found → Table
with_slot t ContentLength f = record { content_length = Some f; packet_type = t.packet_type; session_id = t.session_id; content_range = t.content_range; content_encoding = t.content_encoding; supported_protocols = t.supported_protocols; repeated = t.repeated }
with_slot t PacketType f = record { content_length = t.content_length; packet_type = Some f; session_id = t.session_id; content_range = t.content_range; content_encoding = t.content_encoding; supported_protocols = t.supported_protocols; repeated = t.repeated }
with_slot t SessionId f = record { content_length = t.content_length; packet_type = t.packet_type; session_id = Some f; content_range = t.content_range; content_encoding = t.content_encoding; supported_protocols = t.supported_protocols; repeated = t.repeated }
with_slot t ContentRange f = record { content_length = t.content_length; packet_type = t.packet_type; session_id = t.session_id; content_range = Some f; content_encoding = t.content_encoding; supported_protocols = t.supported_protocols; repeated = t.repeated }
with_slot t ContentEncoding f = record { content_length = t.content_length; packet_type = t.packet_type; session_id = t.session_id; content_range = t.content_range; content_encoding = Some f; supported_protocols = t.supported_protocols; repeated = t.repeated }
with_slot t SupportedProtocols f = record { content_length = t.content_length; packet_type = t.packet_type; session_id = t.session_id; content_range = t.content_range; content_encoding = t.content_encoding; supported_protocols = Some f; repeated = t.repeated }

abbrev pub first_of : Option ℕ → ℕ → Option ℕ
first_of None at = Some at
first_of (Some p) at = Some p

abbrev pub again : Table → ℕ → Table
again t at = record { content_length = t.content_length; packet_type = t.packet_type; session_id = t.session_id; content_range = t.content_range; content_encoding = t.content_encoding; supported_protocols = t.supported_protocols; repeated = first_of t.repeated at }

-- a free slot takes the field, a taken one makes it a repeat
abbrev pub placed : Option Found → Table → Name → Found → Table
placed None t n f = with_slot t n f
placed (Some g) t n f = again t f.at

abbrev pub kept_as : Table → Option Name → Found → Table
kept_as t None f = t
kept_as t (Some n) f = placed (slot_of t n) t n f

abbrev pub kept : Table → Entry → Table
kept t e = kept_as t (name_of e.name) (record { at = e.at; value = e.value })

-- the known fields among all
abbrev pub gathered : Table → Result (List Entry) ℕ → Result Table Fault
gathered t (Ok fs) = Ok (fold kept t fs)
gathered t (Err at) = Err (Malformed at)

-- a head that was read: its path, its known fields, its length with the empty line
pub record Reading : Type 0 where
  pub path : List ℕ
  pub table : Table
  pub size : ℕ

-- where the empty line begins, which must end within 8,192 bytes
abbrev pub in_time : List ℕ → Option ℕ → Result ℕ Fault
in_time input (Some n) = Ok n
in_time input None = cond (nat_lt (length input) 8192) (Err Unfinished) (Err (Malformed 0))

unfoldable pub end_of : List ℕ → Result ℕ Fault
end_of input = in_time input (mark_from head_mark 0 (take 8192 input))

abbrev pub unrepeated : List ℕ → ℕ → Option ℕ → Table → Result Reading Fault
unrepeated path n None t = Ok (record { path = path; table = t; size = n + 4 })
unrepeated path n (Some at) t = Err (Repeated at)

abbrev pub with_table : List ℕ → ℕ → Result Table Fault → Result Reading Fault
with_table path n (Ok t) = unrepeated path n t.repeated t
with_table path n (Err e) = Err e

abbrev pub with_path : ℕ → Option (List ℕ) → Result Table Fault → Result Reading Fault
with_path n None t = Err (Malformed 0)
with_path n (Some path) t = with_table path n t

abbrev pub judged : ℕ → List (List ℕ) → Result Reading Fault
judged n [] = Err (Malformed 0)
judged n (l ∷ ls) = with_path n (path_of l) (gathered empty (fields_of 64 (length l + 2) ls))

abbrev pub up_to : List ℕ → Result ℕ Fault → Result Reading Fault
up_to input (Ok n) = judged n (lines_of (take n input))
up_to input (Err e) = Err e

-- what an input reads as
unfoldable pub head_of : List ℕ → Result Reading Fault
head_of input = up_to input (end_of input)

abbrev pub found : Known → Found
found k = record { at = k.at; value = k.value.now }

abbrev pub table : Fields → Table
table f = record { content_length = option_map found f.content_length; packet_type = option_map found f.packet_type; session_id = option_map found f.session_id; content_range = option_map found f.content_range; content_encoding = option_map found f.content_encoding; supported_protocols = option_map found f.supported_protocols; repeated = f.repeated }

abbrev pub tabled : Result Fields Fault → Result Table Fault
tabled (Ok f) = Ok (table f)
tabled (Err e) = Err e

abbrev pub reading : Head → Reading
reading h = record { path = h.path.now; table = table h.fields; size = h.size }

abbrev pub seen : Result Head Fault → Result Reading Fault
seen (Ok h) = Ok (reading h)
seen (Err e) = Err e
