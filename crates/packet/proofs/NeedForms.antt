-- The known fields are judged good exactly where they are what the type needs.
use Rattle.std.proofs.Common.{◌≡◌, ℕ, Bool, true, false, cond, ◌||◌, eqb, ◌⊎◌, List, map, IfSome, Some, None, Ok, Err, codes, Option, Result, sym, refl, ap, ◌∙◌, subst, inl, inr, ⊎_elim, arith}
use Rattle.std.proofs.lemmas.Slice.Eq.{bytes_eq-Decides}
use Rattle.std.proofs.lemmas.Bool.{or_cases, or_left, or_right, eqb-true, eq-eqb, cond-true}
use Rattle.std.specs.Option.{ok_or}
use Rattle.std.specs.Char.{to_ascii_lowercase}
use Rattle.text.specs.Words.{same_letters}
use Rattle.text.specs.Numbers.{decimal_of}
use Rattle.head.specs.Heads.{Found, Table}
use Rattle.ids.specs.Ids.{id_of}
use Rattle.ids.specs.declared.SessionId.{SessionId}
use Rattle.packet.specs.declared.Fault.{Fault}
use Rattle.packet.specs.declared.Fault.TheVariants.{Field}
use Rattle.packet.specs.declared.ranges.Range.{Range}
use Rattle.packet.specs.declared.judging.Action.{Action}
use Rattle.packet.specs.declared.judging.Action.TheVariants.{Create, Ping, Fragment, Close, Cancel}
use Rattle.packet.specs.declared.judging.Kind.{Kind}
use Rattle.packet.specs.declared.judging.Kind.TheVariants as kind
use Rattle.packet.specs.declared.judging.Judged.{Judged}
use Rattle.packet.specs.Ranges.{range_of}
use Rattle.packet.specs.Protocols.{protocols_of}
use Rattle.packet.specs.Judging.{and_then, given, judged_by, is_fragment, if_empty, length_of, kind_named, kind_of, id_of_field, protocols_of_field, encoding_of, with_range, with_session, fragment_of, action_of, with_kind, with_length, judged_of}
use Rattle.packet.specs.Forms.{Announced, Typed, OfSession, Ranged, Offers, Plain, Needs}
use Rattle.packet.proofs.RangeForms.{cond-some, range-sound, range-complete}
use Rattle.packet.proofs.ListForms.{list-sound, list-reads}

err-ok : {A E : Type 0} (e : E) (x : A) → ◌≡◌ {A = Result A E} (Err e) (Ok x) → ⊥
err-ok e x h = let w : ◌≡◌ {A = ℕ} 0 1 = cc in omega arith

ok_same : {A E : Type 0} (x y : A) → ◌≡◌ {A = Result A E} (Ok x) (Ok y) → x ≡ y
ok_same x y h = cc

pub then_ok : {A B : Type 0} (r : Result A Fault) (f : A → Result B Fault) (y : B) → and_then r f ≡ Ok y → (x : A) × (r ≡ Ok x) × (f x ≡ Ok y)
then_ok (Ok x) f y e = (x, refl, e)
then_ok (Err f) g y e = absurd (err-ok f y e)

or_ok : {A : Type 0} (o : Option A) (e : Fault) (x : A) → ok_or o e ≡ Ok x → o ≡ Some x
or_ok None e x h = absurd (err-ok e x h)
or_ok (Some y) e x h = let same : y ≡ x = cc in ap Some same

given-ok : (o : Option Found) (f : Found) → given o ≡ Ok f → o ≡ Some f
given-ok None f h = absurd (err-ok (Field 0) f h)
given-ok (Some g) f h = let same : g ≡ f = cc in ap Some same

-- a field that stands and reads as x
field-ok : {A : Type 0} (read : List ℕ → Option A) (o : Option Found) (x : A) → and_then (given o) (judged_by read) ≡ Ok x → (line : Found) × (o ≡ Some line) × (read line.value ≡ Some x)
field-ok read o x e =
    let p = then_ok (given o) (judged_by read) x e in
    (p.0, given-ok o p.0 p.1, or_ok (read p.0.value) (Field p.0.at) x p.2)

field_is : {A : Type 0} (read : List ℕ → Option A) (o : Option Found) (line : Found) (x : A) → o ≡ Some line → read line.value ≡ Some x → and_then (given o) (judged_by read) ≡ Ok x
field_is read o line x stands reads = ap (λ p. and_then (given p) (judged_by read)) stands ∙ ap (λ p. ok_or p (Field line.at)) reads

-- the letters of a name decide its kind
kind-alike : (v w : List ℕ) → same_letters v w ≡ true → kind_named v ≡ kind_named w
unfolding kind_named same_letters
kind-alike v w e = let same = (bytes_eq-Decides (map to_ascii_lowercase v) (map to_ascii_lowercase w)).0 e in rw same

abbrev name_of : Kind → List ℕ
name_of kind.Create = codes "CREATE-SESSION"
name_of kind.Ping = codes "PING"
name_of kind.Fragment = codes "FRAGMENT"
name_of kind.Close = codes "CLOSE-SESSION"
name_of kind.Cancel = codes "CANCEL-SESSION"

kind-reads : (k : Kind) (v : List ℕ) → same_letters v (name_of k) ≡ true → kind_named v ≡ Some k
unfolding kind_named same_letters
kind-reads kind.Create v e = kind-alike v (codes "CREATE-SESSION") e
kind-reads kind.Ping v e = kind-alike v (codes "PING") e
kind-reads kind.Fragment v e = kind-alike v (codes "FRAGMENT") e
kind-reads kind.Close v e = kind-alike v (codes "CLOSE-SESSION") e
kind-reads kind.Cancel v e = kind-alike v (codes "CANCEL-SESSION") e

-- the first name that fits
pick : (b : Bool) (k j : Kind) (rest : Option Kind) (v : List ℕ) → same_letters v (name_of k) ≡ b → cond b (Some k) rest ≡ Some j → (same_letters v (name_of j) ≡ true) ⊎ (rest ≡ Some j)
pick true k j rest v t e = let same : k ≡ j = cc e in inl (subst (λ x. same_letters v (name_of x) ≡ true) same t)
pick false k j rest v t e = inr e

kind-sound : (v : List ℕ) (j : Kind) → kind_named v ≡ Some j → same_letters v (name_of j) ≡ true
unfolding kind_named
kind-sound v j e =
    ⊎_elim (λ h. h) (λ e1.
    ⊎_elim (λ h. h) (λ e2.
    ⊎_elim (λ h. h) (λ e3.
    ⊎_elim (λ h. h) (λ e4.
    ⊎_elim (λ h. h) (λ e5. absurd (let w : ◌≡◌ {A = ℕ} 0 1 = cc e5 in omega arith))
    (pick (same_letters v (codes "CANCEL-SESSION")) kind.Cancel j None v refl e4))
    (pick (same_letters v (codes "CLOSE-SESSION")) kind.Close j _ v refl e3))
    (pick (same_letters v (codes "FRAGMENT")) kind.Fragment j _ v refl e2))
    (pick (same_letters v (codes "PING")) kind.Ping j _ v refl e1))
    (pick (same_letters v (codes "CREATE-SESSION")) kind.Create j _ v refl e)

empty-ok : (fragment : Bool) (o : Option ℕ) (n : ℕ) → if_empty fragment o ≡ Some n → (o ≡ Some n) × ((n ≡ 0) ⊎ (fragment ≡ true))
empty-ok fragment None n e = absurd (let w : ◌≡◌ {A = ℕ} 0 1 = cc e in omega arith)
empty-ok fragment (Some m) n e =
    let p = cond-some (eqb m 0 || fragment) (Some m) n e in
    let same : m ≡ n = cc p.1 in
    (ap Some same, ⊎_elim (λ z. inl (sym same ∙ eqb-true m 0 z)) (λ f. inr f) (or_cases (eqb m 0) fragment p.0))

length-sound : (t : Table) (n : ℕ) → length_of t ≡ Ok n → Announced t n × ((n ≡ 0) ⊎ (is_fragment t.packet_type ≡ true))
unfolding length_of
length-sound t n e =
    let p = field-ok (λ v. if_empty (is_fragment t.packet_type) (decimal_of v)) t.content_length n e in
    let q = empty-ok (is_fragment t.packet_type) (decimal_of p.0.value) n p.2 in
    (record { line = p.0; stands = p.1; reads = q.0 }, q.1)

length-complete : (t : Table) (n : ℕ) → Announced t n → ((eqb n 0 || is_fragment t.packet_type) ≡ true) → length_of t ≡ Ok n
unfolding length_of
length-complete t n a h = field_is (λ v. if_empty (is_fragment t.packet_type) (decimal_of v)) t.content_length a.line n a.stands (ap (if_empty (is_fragment t.packet_type)) a.reads ∙ cond-true _ _ _ h)

kind-of : (t : Table) (k : Kind) → Typed t (name_of k) → kind_of t ≡ Ok k
unfolding kind_of
kind-of t k y = field_is kind_named t.packet_type y.line k y.stands (kind-reads k y.line.value y.reads)

kind-typed : (t : Table) (k : Kind) → kind_of t ≡ Ok k → Typed t (name_of k)
unfolding kind_of
kind-typed t k e = let p = field-ok kind_named t.packet_type k e in record { line = p.0; stands = p.1; reads = kind-sound p.0.value k p.2 }

-- a type that reads FRAGMENT is of that kind
fragment-kind : (t : Table) → is_fragment t.packet_type ≡ true → kind_of t ≡ Ok kind.Fragment
fragment-kind t e = by t.packet_type refl e where
  by : (o : Option Found) → t.packet_type ≡ o → is_fragment o ≡ true → kind_of t ≡ Ok kind.Fragment
  by None s h = absurd (let w : ◌≡◌ {A = ℕ} 0 1 = cc h in omega arith)
  by (Some line) s h = kind-of t kind.Fragment (record { line = line; stands = s; reads = h })

is-fragment : (t : Table) → Typed t (codes "FRAGMENT") → is_fragment t.packet_type ≡ true
is-fragment t y = ap is_fragment y.stands ∙ y.reads

id-sound : (t : Table) (id : SessionId) → id_of_field t ≡ Ok id → OfSession t id
unfolding id_of_field
id-sound t id e = let p = field-ok id_of t.session_id id e in record { line = p.0; stands = p.1; reads = p.2 }

id-complete : (t : Table) (id : SessionId) → OfSession t id → id_of_field t ≡ Ok id
unfolding id_of_field
id-complete t id s = field_is id_of t.session_id s.line id s.stands s.reads

offers-sound : (t : Table) (b : Bool) → protocols_of_field t ≡ Ok b → Offers t b
unfolding protocols_of_field
offers-sound t b e =
    let p = field-ok protocols_of t.supported_protocols b e in
    let q = list-sound p.0.value b p.2 in
    record { line = p.0; ids = q.0; stands = p.1; reads = q.1; told = q.2 }

offers-complete : (t : Table) (b : Bool) → Offers t b → protocols_of_field t ≡ Ok b
unfolding protocols_of_field
offers-complete t b o = field_is protocols_of t.supported_protocols o.line b o.stands (list-reads o.line.value o.ids b o.reads o.told)

encoding-sound : (o : Option Found) (x : Unit {0}) → encoding_of o ≡ Ok x → IfSome o (λ line. same_letters line.value (codes "identity") ≡ true)
encoding-sound None x e = tt
encoding-sound (Some line) x e = elim (same_letters line.value (codes "identity")) as (λ b. cond b (Ok tt) (Err (Field line.at)) ≡ Ok x → b ≡ true) [ true ↦ λ f. refl | false ↦ λ f. absurd (err-ok (Field line.at) x f) ] e

encoding-complete : (o : Option Found) → IfSome o (λ line. same_letters line.value (codes "identity") ≡ true) → encoding_of o ≡ Ok tt
encoding-complete None h = refl
encoding-complete (Some line) h = cond-true _ _ _ h

fragment-sound : (t : Table) (n : ℕ) (a : Action) → Announced t n → Typed t (codes "FRAGMENT") → fragment_of t ≡ Ok a → Needs t n a
unfolding fragment_of
fragment-sound t n a an ty e =
    let p = then_ok (id_of_field t) (with_session t) a e in
    let q = then_ok (given t.content_range) (with_range t p.0) a p.2 in
    let r = then_ok (judged_by range_of q.0) (λ range. and_then (encoding_of t.content_encoding) (λ _. Ok (Fragment p.0 range q.0.at))) a q.2 in
    let s = then_ok (encoding_of t.content_encoding) (λ _. Ok (Fragment p.0 r.0 q.0.at)) a r.2 in
    let same : Fragment p.0 r.0 q.0.at ≡ a = cc s.2 in
    let range = range-sound q.0.value r.0 (or_ok (range_of q.0.value) (Field q.0.at) r.0 r.1) in
    subst (Needs t n) same (an, ty, id-sound t p.0 p.1, record { line = q.0; stands = given-ok t.content_range q.0 q.1; reads = range; placed = refl }, encoding-sound t.content_encoding s.0 s.1)

fragment-complete : (t : Table) (id : SessionId) (range : Range) (at : ℕ) → OfSession t id → Ranged t range at → Plain t → fragment_of t ≡ Ok (Fragment id range at)
unfolding fragment_of
fragment-complete t id range at s r p =
    ap (λ x. and_then x (with_session t)) (id-complete t id s)
    ∙ ap (λ o. and_then (given o) (with_range t id)) r.stands
    ∙ ap (λ o. and_then (ok_or o (Field r.line.at)) (λ g. and_then (encoding_of t.content_encoding) (λ _. Ok (Fragment id g r.line.at)))) (range-complete r.line.value range r.reads)
    ∙ ap (λ x. and_then x (λ _. Ok (Fragment id range r.line.at))) (encoding-complete t.content_encoding p)
    ∙ ap (λ m. Ok (Fragment id range m)) r.placed

-- what is known once the kind is
action-sound : (k : Kind) (t : Table) (n : ℕ) (a : Action) → Announced t n → Typed t (name_of k) → ((k ≡ kind.Fragment → ⊥) → n ≡ 0) → action_of k t ≡ Ok a → Needs t n a
unfolding action_of
action-sound kind.Create t n a an ty z e =
    let p = then_ok (protocols_of_field t) (λ b. Ok (Create b)) a e in
    let same : Create p.0 ≡ a = cc p.2 in
    subst (Needs t n) same (an, z (λ h. let w : ◌≡◌ {A = ℕ} 0 1 = cc in omega arith), ty, offers-sound t p.0 p.1)
action-sound kind.Ping t n a an ty z e =
    let same : Ping ≡ a = cc e in
    subst (Needs t n) same (an, z (λ h. let w : ◌≡◌ {A = ℕ} 0 1 = cc in omega arith), ty)
action-sound kind.Fragment t n a an ty z e = fragment-sound t n a an ty e
action-sound kind.Close t n a an ty z e =
    let p = then_ok (id_of_field t) (λ id. Ok (Close id)) a e in
    let same : Close p.0 ≡ a = cc p.2 in
    subst (Needs t n) same (an, z (λ h. let w : ◌≡◌ {A = ℕ} 0 1 = cc in omega arith), ty, id-sound t p.0 p.1)
action-sound kind.Cancel t n a an ty z e =
    let p = then_ok (id_of_field t) (λ id. Ok (Cancel id)) a e in
    let same : Cancel p.0 ≡ a = cc p.2 in
    subst (Needs t n) same (an, z (λ h. let w : ◌≡◌ {A = ℕ} 0 1 = cc in omega arith), ty, id-sound t p.0 p.1)

pub judged-sound : (t : Table) (j : Judged) → judged_of t ≡ Ok j → Needs t j.length j.action
unfolding judged_of
judged-sound t j e =
    let p = then_ok (length_of t) (with_length t) j e in
    let q = then_ok (kind_of t) (with_kind t p.0) j p.2 in
    let r = then_ok (action_of q.0 t) (λ a. Ok (record { length = p.0; action = a })) j q.2 in
    let same : record { length = p.0; action = r.0 } ≡ j = cc r.2 in
    let l = length-sound t p.0 p.1 in
    let zero-unless : (q.0 ≡ kind.Fragment → ⊥) → p.0 ≡ 0 = λ other. ⊎_elim (λ z. z) (λ f. absurd (let is : ◌≡◌ {A = Result Kind Fault} (Ok q.0) (Ok kind.Fragment) = sym q.1 ∙ fragment-kind t f in other (ok_same q.0 kind.Fragment is))) l.1 in
    subst (λ (x : Judged). Needs t x.length x.action) same (action-sound q.0 t p.0 r.0 l.0 (kind-typed t q.0 q.1) zero-unless r.1)

-- the kind and the action of a request that announces n bytes
judged-by : (t : Table) (n : ℕ) (k : Kind) (a : Action) → length_of t ≡ Ok n → kind_of t ≡ Ok k → action_of k t ≡ Ok a → judged_of t ≡ Ok (record { length = n; action = a })
unfolding judged_of
judged-by t n k a x y z =
    ap (λ r. and_then r (with_length t)) x ∙ ap (λ r. and_then r (with_kind t n)) y ∙ ap (λ r. and_then r (λ b. Ok (record { length = n; action = b }))) z

none-announced : (t : Table) (n : ℕ) → Announced t n → n ≡ 0 → length_of t ≡ Ok n
none-announced t n an z = length-complete t n an (or_left (eqb n 0) _ (eq-eqb n 0 z))

pub judged-complete : (t : Table) (n : ℕ) (a : Action) → Needs t n a → judged_of t ≡ Ok (record { length = n; action = a })
unfolding action_of
judged-complete t n (Create b) h = judged-by t n kind.Create (Create b) (none-announced t n h.0 h.1) (kind-of t kind.Create h.2) (ap (λ r. and_then r (λ x. Ok (Create x))) (offers-complete t b h.3))
judged-complete t n Ping h = judged-by t n kind.Ping Ping (none-announced t n h.0 h.1) (kind-of t kind.Ping h.2) refl
judged-complete t n (Fragment id range at) h = judged-by t n kind.Fragment (Fragment id range at) (length-complete t n h.0 (or_right (eqb n 0) _ (is-fragment t h.1))) (kind-of t kind.Fragment h.1) (fragment-complete t id range at h.2 h.3 h.4)
judged-complete t n (Close id) h = judged-by t n kind.Close (Close id) (none-announced t n h.0 h.1) (kind-of t kind.Close h.2) (ap (λ r. and_then r (λ x. Ok (Close x))) (id-complete t id h.3))
judged-complete t n (Cancel id) h = judged-by t n kind.Cancel (Cancel id) (none-announced t n h.0 h.1) (kind-of t kind.Cancel h.2) (ap (λ r. and_then r (λ x. Ok (Cancel x))) (id-complete t id h.3))
