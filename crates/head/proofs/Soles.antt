-- The known fields are those that stand alone under their names.
use Rattle.std.proofs.Common.{◌≡◌, ℕ, List, [], ◌∷◌, ◌++◌, length, get_or, Some, None, fold, Option, sym, refl, ap, ◌∙◌, subst, inl, inr, ⊎_elim, append_assoc, arith, length-append}
use Rattle.std.proofs.lemmas.List.{append-nil, get_or_append_left, get_or_at, length_push}
use Rattle.std.proofs.lemmas.Bool.{cases_lt}
use Rattle.head.specs.declared.fields.Name.{Name}
use Rattle.head.specs.declared.fields.Name.TheVariants.{ContentLength, PacketType, SessionId, ContentRange, ContentEncoding, SupportedProtocols}
use Rattle.head.specs.Lines.{Entry}
use Rattle.head.specs.Heads.{Found, Table, name_of, slot_of, first_of, placed, kept_as, kept, empty}
use Rattle.head.specs.Grammar.{Absent, OnlyOne, Sole}
use Rattle.head.proofs.Slots.{slot-with, with-repeated, table_same}

none-some : {A : Type 0} (x : A) → ◌≡◌ {A = Option A} None (Some x) → ⊥
none-some x e = let w : ◌≡◌ {A = ℕ} 0 1 = cc in omega arith

absent-other : (n : Name) (pre : List Entry) (e : Entry) → (name_of e.name ≡ Some n → ⊥) → Absent n pre → Absent n (pre ++ e ∷ [])
absent-other n pre e other a i d l h = ⊎_elim
    (λ low. a i d low (ap (λ x. name_of x.name) (sym (get_or_append_left pre (e ∷ []) d i low)) ∙ h))
    (λ high. other (ap (λ x. name_of x.name) (sym (get_or_at pre e [] d i (omega (arith, length_push pre e)))) ∙ h))
    (cases_lt i (length pre))

only-other : (n : Name) (pre : List Entry) (e : Entry) (f : Found) → (name_of e.name ≡ Some n → ⊥) → OnlyOne n pre f → OnlyOne n (pre ++ e ∷ []) f
only-other n pre e f other o = record {
  index = o.index;
  inside = omega (arith, length_push pre e, o.inside);
  named = λ d. ap (λ x. name_of x.name) (get_or_append_left pre (e ∷ []) d o.index o.inside) ∙ o.named d;
  at-is = λ d. ap (λ x. x.at) (get_or_append_left pre (e ∷ []) d o.index o.inside) ∙ o.at-is d;
  value-is = λ d. ap (λ x. x.value) (get_or_append_left pre (e ∷ []) d o.index o.inside) ∙ o.value-is d;
  only = λ i d l h. ⊎_elim
      (λ low. o.only i d low (ap (λ x. name_of x.name) (sym (get_or_append_left pre (e ∷ []) d i low)) ∙ h))
      (λ high. absurd (other (ap (λ x. name_of x.name) (sym (get_or_at pre e [] d i (omega (arith, length_push pre e)))) ∙ h)))
      (cases_lt i (length pre));
}

sole-other : (n : Name) (pre : List Entry) (e : Entry) (o : Option Found) → (name_of e.name ≡ Some n → ⊥) → Sole n pre o → Sole n (pre ++ e ∷ []) o
sole-other n pre e None other h = absent-other n pre e other h
sole-other n pre e (Some f) other h = only-other n pre e f other h

only-new : (n : Name) (pre : List Entry) (e : Entry) → Absent n pre → name_of e.name ≡ Some n → OnlyOne n (pre ++ e ∷ []) (record { at = e.at; value = e.value })
only-new n pre e a is = record {
  index = length pre;
  inside = omega (arith, length_push pre e);
  named = λ d. ap (λ x. name_of x.name) (get_or_at pre e [] d (length pre) refl) ∙ is;
  at-is = λ d. ap (λ x. x.at) (get_or_at pre e [] d (length pre) refl);
  value-is = λ d. ap (λ x. x.value) (get_or_at pre e [] d (length pre) refl);
  only = λ i d l h. ⊎_elim
      (λ low. absurd (a i d low (ap (λ x. name_of x.name) (sym (get_or_append_left pre (e ∷ []) d i low)) ∙ h)))
      (λ high. omega (arith, length_push pre e))
      (cases_lt i (length pre));
}

first_some : (o : Option ℕ) (at : ℕ) → first_of o at ≡ None → ⊥
first_some None at e = none-some at (sym e)
first_some (Some p) at e = none-some p (sym e)

abbrev All-sole : List Entry → Table → Type 0
All-sole pre t = (n : Name) → Sole n pre (slot_of t n)

step-slot : (t : Table) (pre : List Entry) (e : Entry) (m : Name) (s : Option Found) → slot_of t m ≡ s → name_of e.name ≡ Some m → All-sole pre t → (placed s t m (record { at = e.at; value = e.value })).repeated ≡ None → All-sole (pre ++ e ∷ []) (placed s t m (record { at = e.at; value = e.value }))
step-slot t pre e m (Some g) slot is all once n = absurd (first_some t.repeated e.at once)
step-slot t pre e m None slot is all once n =
    let f : Found = record { at = e.at; value = e.value } in
    let none : Absent m pre = subst (Sole m pre) slot (all m) in
    elim (slot-with t f m n) [
      | inl h ↦ subst (Sole n (pre ++ e ∷ [])) (sym h.1) (subst (λ x. OnlyOne x (pre ++ e ∷ []) f) h.0 (only-new m pre e none is))
      | inr h ↦ subst (Sole n (pre ++ e ∷ [])) (sym h.1) (sole-other n pre e (slot_of t n) (λ is'. h.0 (let same : ◌≡◌ {A = Option Name} (Some m) (Some n) = sym is ∙ is' in cc same)) (all n))
    ]

step-name : (t : Table) (pre : List Entry) (e : Entry) (o : Option Name) → name_of e.name ≡ o → All-sole pre t → (kept_as t o (record { at = e.at; value = e.value })).repeated ≡ None → All-sole (pre ++ e ∷ []) (kept_as t o (record { at = e.at; value = e.value }))
step-name t pre e None is all once n = sole-other n pre e (slot_of t n) (λ is'. none-some n (sym is ∙ is')) (all n)
step-name t pre e (Some m) is all once n = step-slot t pre e m (slot_of t m) refl is all once n

placed-once : (t : Table) (m : Name) (f : Found) (s : Option Found) → (placed s t m f).repeated ≡ None → t.repeated ≡ None
placed-once t m f None once = sym (with-repeated t f m) ∙ once
placed-once t m f (Some g) once = absurd (first_some t.repeated f.at once)

kept-once : (t : Table) (o : Option Name) (f : Found) → (kept_as t o f).repeated ≡ None → t.repeated ≡ None
kept-once t None f once = once
kept-once t (Some m) f once = placed-once t m f (slot_of t m) once

fold-once : (es : List Entry) (t : Table) → (fold kept t es).repeated ≡ None → t.repeated ≡ None
fold-once [] t once = once
fold-once (e ∷ es) t once = kept-once t (name_of e.name) (record { at = e.at; value = e.value }) (fold-once es (kept t e) once)

fold-sole : (es pre : List Entry) (t : Table) → All-sole pre t → (fold kept t es).repeated ≡ None → All-sole (pre ++ es) (fold kept t es)
fold-sole [] pre t all once n = subst (λ l. Sole n l (slot_of t n)) (sym (append-nil pre)) (all n)
fold-sole (e ∷ es) pre t all once n =
    subst (λ l. Sole n l (slot_of (fold kept (kept t e) es) n)) (append_assoc pre (e ∷ []) es)
    (fold-sole es (pre ++ e ∷ []) (kept t e) (step-name t pre e (name_of e.name) refl all (fold-once es (kept t e) once)) once n)

slot-empty : (n : Name) → slot_of empty n ≡ None
slot-empty ContentLength = refl
slot-empty PacketType = refl
slot-empty SessionId = refl
slot-empty ContentRange = refl
slot-empty ContentEncoding = refl
slot-empty SupportedProtocols = refl

start : All-sole [] empty
start n = subst (Sole n []) (sym (slot-empty n)) (λ i d l h. omega (arith, l))

pub known-sole : (fs : List Entry) → (fold kept empty fs).repeated ≡ None → (n : Name) → Sole n fs (slot_of (fold kept empty fs) n)
known-sole fs once n = fold-sole fs [] empty start once n

-- a name that stands twice is not alone
twice : (m : Name) (pre es : List Entry) (e : Entry) (g : Found) (o : Option Found) → name_of e.name ≡ Some m → OnlyOne m pre g → Sole m (pre ++ (e ∷ es)) o → ⊥
twice m pre es e g None is one h = h (length pre) e (omega (arith, length-append pre (e ∷ es))) (ap (λ x. name_of x.name) (get_or_at pre e es e (length pre) refl) ∙ is)
twice m pre es e g (Some f) is one h =
    let i = one.index in
    let a : i ≡ h.index = h.only i e (omega (arith, length-append pre (e ∷ es), one.inside)) (ap (λ x. name_of x.name) (get_or_append_left pre (e ∷ es) e i one.inside) ∙ one.named e) in
    let b : length pre ≡ h.index = h.only (length pre) e (omega (arith, length-append pre (e ∷ es))) (ap (λ x. name_of x.name) (get_or_at pre e es e (length pre) refl) ∙ is) in
    omega (arith, a, b, one.inside)

lone-slot : (t : Table) (pre es : List Entry) (e : Entry) (m : Name) (s : Option Found) (o : Option Found) → slot_of t m ≡ s → name_of e.name ≡ Some m → Sole m pre s → t.repeated ≡ None → Sole m (pre ++ (e ∷ es)) o → (placed s t m (record { at = e.at; value = e.value })).repeated ≡ None
lone-slot t pre es e m None o slot is one once lone = with-repeated t (record { at = e.at; value = e.value }) m ∙ once
lone-slot t pre es e m (Some g) o slot is one once lone = absurd (twice m pre es e g o is one lone)

lone-name : (t : Table) (pre es : List Entry) (e : Entry) (k : Option Name) → name_of e.name ≡ k → All-sole pre t → t.repeated ≡ None → ((n : Name) → (o : Option Found) × Sole n (pre ++ (e ∷ es)) o) → (kept_as t k (record { at = e.at; value = e.value })).repeated ≡ None
lone-name t pre es e None is all once lone = once
lone-name t pre es e (Some m) is all once lone = lone-slot t pre es e m (slot_of t m) (lone m).0 refl is (all m) once (lone m).1

fold-lone : (es pre : List Entry) (t : Table) → All-sole pre t → t.repeated ≡ None → ((n : Name) → (o : Option Found) × Sole n (pre ++ es) o) → (fold kept t es).repeated ≡ None
fold-lone [] pre t all once lone = once
fold-lone (e ∷ es) pre t all once lone =
    let here = lone-name t pre es e (name_of e.name) refl all once lone in
    fold-lone es (pre ++ e ∷ []) (kept t e) (step-name t pre e (name_of e.name) refl all here) here (λ n. ((lone n).0, subst (λ l. Sole n l (lone n).0) (sym (append_assoc pre (e ∷ []) es)) (lone n).1))

sole-same : (n : Name) (fs : List Entry) (d : Entry) (o p : Option Found) → Sole n fs o → Sole n fs p → o ≡ p
sole-same n fs d None None a b = refl
sole-same n fs d None (Some g) a b = absurd (a b.index d b.inside (b.named d))
sole-same n fs d (Some f) None a b = absurd (b a.index d a.inside (a.named d))
sole-same n fs d (Some f) (Some g) a b =
    let i : a.index ≡ b.index = b.only a.index d a.inside (a.named d) in
    let at_same : f.at ≡ g.at = sym (a.at-is d) ∙ ap (λ k. (get_or fs k d).at) i ∙ b.at-is d in
    let value_same : f.value ≡ g.value = sym (a.value-is d) ∙ ap (λ k. (get_or fs k d).value) i ∙ b.value-is d in
    ap (λ x. Some (record { at = x; value = f.value })) at_same ∙ ap (λ x. Some (record { at = g.at; value = x })) value_same

-- a table of fields that stand alone is the one that is gathered
pub sole-known : (fs : List Entry) (t : Table) → ((n : Name) → Sole n fs (slot_of t n)) → t.repeated ≡ None → t ≡ fold kept empty fs
sole-known fs t sole once =
    let clean = fold-lone fs [] empty start refl (λ n. (slot_of t n, sole n)) in
    let d : Entry = record { at = 0; name = []; value = [] } in
    table_same t (fold kept empty fs) (λ n. sole-same n fs d (slot_of t n) (slot_of (fold kept empty fs) n) (sole n) (known-sole fs clean n)) (once ∙ sym clean)
