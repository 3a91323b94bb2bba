-- Fields that are the same but for letter case are judged alike.
use Rattle.std.proofs.Common.{◌≡◌, ℕ, ◌+◌, cond, List, [], ◌∷◌, map, length, take, drop, Some, None, Ok, Err, codes, fold, Option, sym, refl, ap, ◌∙◌, subst, inl, inr}
use Rattle.std.specs.Option.{ok_or}
use Rattle.std.specs.Char.{to_ascii_lowercase}
use Rattle.text.specs.Words.{same_letters}
use Rattle.text.specs.Numbers.{decimal_of}
use Rattle.head.specs.Lines.{Entry, request_of}
use Rattle.head.specs.Heads.{Found, Table, name_of, slot_of, with_slot, first_of, again, placed, kept_as, kept, empty, unrepeated}
use Rattle.head.specs.Grammar.{join_lines}
use Rattle.head.specs.declared.fields.Name.{Name}
use Rattle.head.specs.declared.fields.Name.TheVariants as name
use Rattle.head.proofs.Slots.{slot-with, with-repeated, again-slot}
use Rattle.head.proofs.Wholes.{parts-read, named-alike}
use Rattle.ids.specs.Ids.{id_of}
use Rattle.ids.specs.declared.SessionId.{SessionId}
use Rattle.packet.specs.declared.Fault.TheVariants.{Field}
use Rattle.packet.specs.declared.judging.Action.TheVariants.{Create, Fragment, Close, Cancel}
use Rattle.packet.specs.declared.judging.Kind.{Kind}
use Rattle.packet.specs.declared.judging.Kind.TheVariants as kind
use Rattle.packet.specs.Ranges.{range_of}
use Rattle.packet.specs.Protocols.{protocols_of}
use Rattle.packet.specs.Judging.{and_then, given, judged_by, is_fragment, if_empty, length_of, kind_named, kind_of, id_of_field, protocols_of_field, encoding_of, with_range, fragment_of, action_of, judged_of}
use Rattle.packet.specs.Packets.{with_head, packet_of}
use Rattle.packet.specs.Laws.{Recased, Caseless}
use Rattle.packet.proofs.Lowers.{decimal-alike, range-alike, id-alike, protocols-alike, kind-alike, letters-alike}

abbrev AlikeSlot : Option Found → Option Found → Type 0
AlikeSlot None None = Unit {0}
AlikeSlot None (Some g) = ⊥
AlikeSlot (Some f) None = ⊥
AlikeSlot (Some f) (Some g) = (f.at ≡ g.at) × (map to_ascii_lowercase f.value ≡ map to_ascii_lowercase g.value)

record Alike (t u : Table) : Type 0 where
  slots : (n : Name) → AlikeSlot (slot_of t n) (slot_of u n)
  again-alike : t.repeated ≡ u.repeated

both-slots : (t u : Table) (f g : Found) (m n : Name) → AlikeSlot (Some f) (Some g) → AlikeSlot (slot_of t n) (slot_of u n) → AlikeSlot (slot_of (with_slot t m f) n) (slot_of (with_slot u m g) n)
both-slots t u f g m n new old = elim (slot-with t f m n) [
  | inl a ↦ elim (slot-with u g m n) [
    | inl b ↦ subst (λ x. AlikeSlot (slot_of (with_slot t m f) n) x) (sym b.1) (subst (λ x. AlikeSlot x (Some g)) (sym a.1) new)
    | inr b ↦ absurd (b.0 a.0)
  ]
  | inr a ↦ elim (slot-with u g m n) [
    | inl b ↦ absurd (a.0 b.0)
    | inr b ↦ subst (λ x. AlikeSlot (slot_of (with_slot t m f) n) x) (sym b.1) (subst (λ x. AlikeSlot x (slot_of u n)) (sym a.1) old)
  ]
]

placed_alike : (t u : Table) (m : Name) (f g : Found) (s r : Option Found) → AlikeSlot s r → AlikeSlot (Some f) (Some g) → Alike t u → Alike (placed s t m f) (placed r u m g)
placed_alike t u m f g None None h new a = record {
  slots = λ n. both-slots t u f g m n new (a.slots n);
  again-alike = with-repeated t f m ∙ (a.again-alike ∙ sym (with-repeated u g m));
}
placed_alike t u m f g None (Some y) h new a = absurd h
placed_alike t u m f g (Some x) None h new a = absurd h
placed_alike t u m f g (Some x) (Some y) h new a = record {
  slots = λ n. subst (λ z. AlikeSlot (slot_of (again t f.at) n) z) (sym (again-slot u g.at n)) (subst (λ z. AlikeSlot z (slot_of u n)) (sym (again-slot t f.at n)) (a.slots n));
  again-alike = ap (λ o. first_of o f.at) a.again-alike ∙ ap (first_of u.repeated) new.0;
}

kept-as-alike : (t u : Table) (o : Option Name) (f g : Found) → AlikeSlot (Some f) (Some g) → Alike t u → Alike (kept_as t o f) (kept_as u o g)
kept-as-alike t u None f g new a = a
kept-as-alike t u (Some m) f g new a = placed_alike t u m f g (slot_of t m) (slot_of u m) (a.slots m) new a

fold-alike : (fs gs : List Entry) (t u : Table) → Recased fs gs → Alike t u → Alike (fold kept t fs) (fold kept u gs)
fold-alike [] [] t u h a = a
fold-alike [] (g ∷ gs) t u h a = absurd h
fold-alike (f ∷ fs) [] t u h a = absurd h
fold-alike (f ∷ fs) (g ∷ gs) t u h a =
    let x : Found = record { at = f.at; value = f.value } in
    let y : Found = record { at = g.at; value = g.value } in
    let one : Alike (kept t f) (kept u g) = subst (λ o. Alike (kept t f) (kept_as u o y)) (named-alike f.name g.name h.1) (kept-as-alike t u (name_of f.name) x y (h.0, h.2) a) in
    fold-alike fs gs (kept t f) (kept u g) h.3 one

start-alike : Alike empty empty
start-alike = record { slots = λ n. by n; again-alike = refl } where
  by : (n : Name) → AlikeSlot (slot_of empty n) (slot_of empty n)
  by name.ContentLength = tt
  by name.PacketType = tt
  by name.SessionId = tt
  by name.ContentRange = tt
  by name.ContentEncoding = tt
  by name.SupportedProtocols = tt

field_alike : {A : Type 0} (read : List ℕ → Option A) → ((v w : List ℕ) → map to_ascii_lowercase v ≡ map to_ascii_lowercase w → read v ≡ read w) → (o p : Option Found) → AlikeSlot o p → and_then (given o) (judged_by read) ≡ and_then (given p) (judged_by read)
field_alike read h None None a = refl
field_alike read h None (Some g) a = absurd a
field_alike read h (Some f) None a = absurd a
field_alike read h (Some f) (Some g) a = ap (λ x. ok_or x (Field f.at)) (h f.value g.value a.1) ∙ ap (λ n. ok_or (read g.value) (Field n)) a.0

fragment-test : (o p : Option Found) → AlikeSlot o p → is_fragment o ≡ is_fragment p
fragment-test None None a = refl
fragment-test None (Some g) a = absurd a
fragment-test (Some f) None a = absurd a
fragment-test (Some f) (Some g) a = letters-alike (codes "FRAGMENT") f.value g.value a.1

encoding-alike : (o p : Option Found) → AlikeSlot o p → encoding_of o ≡ encoding_of p
encoding-alike None None a = refl
encoding-alike None (Some g) a = absurd a
encoding-alike (Some f) None a = absurd a
encoding-alike (Some f) (Some g) a = ap (λ b. cond b (Ok tt) (Err (Field f.at))) (letters-alike (codes "identity") f.value g.value a.1) ∙ ap (λ n. cond (same_letters g.value (codes "identity")) (Ok tt) (Err (Field n))) a.0

length-alike : (t u : Table) → Alike t u → length_of t ≡ length_of u
unfolding length_of
length-alike t u a =
    field_alike (λ v. if_empty (is_fragment t.packet_type) (decimal_of v)) (λ v w e. ap (if_empty (is_fragment t.packet_type)) (decimal-alike v w e)) t.content_length u.content_length (a.slots name.ContentLength)
    ∙ ap (λ b. and_then (given u.content_length) (judged_by (λ v. if_empty b (decimal_of v)))) (fragment-test t.packet_type u.packet_type (a.slots name.PacketType))

session-alike : (t u : Table) → Alike t u → id_of_field t ≡ id_of_field u
unfolding id_of_field
session-alike t u a = field_alike id_of id-alike t.session_id u.session_id (a.slots name.SessionId)

range-line : (t u : Table) (id : SessionId) (o p : Option Found) → Alike t u → AlikeSlot o p → and_then (given o) (with_range t id) ≡ and_then (given p) (with_range u id)
range-line t u id None None a h = refl
range-line t u id None (Some g) a h = absurd h
range-line t u id (Some f) None a h = absurd h
range-line t u id (Some f) (Some g) a h =
    ap (λ x. and_then (ok_or x (Field f.at)) (λ range. and_then (encoding_of t.content_encoding) (λ _. Ok (Fragment id range f.at)))) (range-alike f.value g.value h.1)
    ∙ ap (λ n. and_then (ok_or (range_of g.value) (Field n)) (λ range. and_then (encoding_of t.content_encoding) (λ _. Ok (Fragment id range n)))) h.0
    ∙ ap (λ e. and_then (ok_or (range_of g.value) (Field g.at)) (λ range. and_then e (λ _. Ok (Fragment id range g.at)))) (encoding-alike t.content_encoding u.content_encoding (a.slots name.ContentEncoding))

fragment-alike : (t u : Table) → Alike t u → fragment_of t ≡ fragment_of u
unfolding fragment_of
fragment-alike t u a = λ j. and_then (session-alike t u a j) (λ id. range-line t u id t.content_range u.content_range a (a.slots name.ContentRange) j)

action-alike : (k : Kind) (t u : Table) → Alike t u → action_of k t ≡ action_of k u
unfolding action_of protocols_of_field
action-alike kind.Create t u a = ap (λ r. and_then r (λ shared. Ok (Create shared))) (field_alike protocols_of protocols-alike t.supported_protocols u.supported_protocols (a.slots name.SupportedProtocols))
action-alike kind.Ping t u a = refl
action-alike kind.Fragment t u a = fragment-alike t u a
action-alike kind.Close t u a = ap (λ r. and_then r (λ id. Ok (Close id))) (session-alike t u a)
action-alike kind.Cancel t u a = ap (λ r. and_then r (λ id. Ok (Cancel id))) (session-alike t u a)

type-alike : (t u : Table) → Alike t u → kind_of t ≡ kind_of u
unfolding kind_of
type-alike t u a = field_alike kind_named kind-alike t.packet_type u.packet_type (a.slots name.PacketType)

judged-alike : (t u : Table) → Alike t u → judged_of t ≡ judged_of u
unfolding judged_of
judged-alike t u a = λ j. and_then (length-alike t u a j) (λ n. and_then (type-alike t u a j) (λ k. and_then (action-alike k t u a j) (λ x. Ok (record { length = n; action = x }))))

table-alike : (input other path : List ℕ) (n : ℕ) (t u : Table) (o p : Option ℕ) → o ≡ p → Alike t u → drop (n + 4) other ≡ drop (n + 4) input → with_head other (unrepeated path n p u) ≡ with_head input (unrepeated path n o t)
table-alike input other path n t u (Some x) p e a same = ap (λ q. with_head other (unrepeated path n q u)) (sym e)
table-alike input other path n t u None p e a same =
    ap (λ q. with_head other (unrepeated path n q u)) (sym e)
    ∙ (λ j. and_then (sym (judged-alike t u a) j) (λ x. Ok (record { path = path; action = x.action; head_size = n + 4; content_length = x.length; body = take x.length (same j) })))

pub caseless : (input : List ℕ) → Caseless input (packet_of input)
unfolding packet_of
caseless input other path fs gs size p q h same =
    let n = length (join_lines (request_of path ∷ p.lines)) in
    let a = fold-alike fs gs empty empty h start-alike in
    let t = fold kept empty fs in
    let u = fold kept empty gs in
    ap (with_head other) (parts-read other path gs size n q p.sized)
    ∙ table-alike input other path n t u t.repeated u.repeated a.again-alike a (subst (λ k. drop k other ≡ drop k input) p.sized same)
    ∙ sym (ap (with_head input) (parts-read input path fs size n p p.sized))
