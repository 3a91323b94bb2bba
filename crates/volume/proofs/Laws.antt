-- A byte string has at most one reading as a volume.
use Rattle.std.proofs.Common.{◌≡◌, ℕ, ◌≤◌, List, [], ◌∷◌, ◌++◌, reverse, length, sym, refl, ap, ◌∙◌, subst, append_assoc, append-nil, arith, length-append}
use mathlib.Core.List.{reverse-append, reverse-reverse}
use Rattle.std.specs.List.{flat_map, AllByRecursion}
use Rattle.std.proofs.ByRecursion.{All-push}
use Rattle.volume.specs.Bundles.{Bundle, bytes_of, Proper, Unique}
use Rattle.volume.proofs.Joins.{length-bytes_of, peel}

-- bundles joined, the newest first in the list
unfoldable pub back : List Bundle → List ℕ
back [] = []
back (b ∷ bs) = back bs ++ bytes_of b

pub back-push : (bs : List Bundle) (b : Bundle) → back (bs ++ (b ∷ [])) ≡ bytes_of b ++ back bs
unfolding back
back-push [] b = sym (append-nil (bytes_of b))
back-push (c ∷ bs) b = ap (λ l. l ++ bytes_of c) (back-push bs b) ∙ append_assoc (bytes_of b) (back bs) (bytes_of c)

pub back-reverse : (bs : List Bundle) → back (reverse bs) ≡ flat_map bytes_of bs
unfolding back
back-reverse [] = refl
back-reverse (b ∷ bs) = ap back (reverse-append (b ∷ []) bs) ∙ back-push (reverse bs) b ∙ ap (λ l. bytes_of b ++ l) (back-reverse bs)

pub all-reverse : (bs : List Bundle) → AllByRecursion Proper bs → AllByRecursion Proper (reverse bs)
all-reverse [] h = tt
all-reverse (b ∷ bs) h = subst (AllByRecursion Proper) (sym (reverse-append (b ∷ []) bs)) (All-push Proper (reverse bs) b (all-reverse bs h.1) h.0)

bytes-some : (b : Bundle) → 16 ≤ length (bytes_of b)
bytes-some b = omega (arith, length-bytes_of b)

pub record Front (bs cs : List Bundle) (x : List ℕ) : Type 0 where
  pub front : List Bundle
  pub is : bs ≡ cs ++ front
  pub bytes : back front ≡ x
  pub each : AllByRecursion Proper front

-- bundles that end in the bundles cs are cs behind some others
pub front_of : (bs cs : List Bundle) (x : List ℕ) → AllByRecursion Proper bs → AllByRecursion Proper cs → back bs ≡ x ++ back cs → Front bs cs x
unfolding back
front_of bs [] x p q e = record { front = bs; is = refl; bytes = e ∙ append-nil x; each = p }
front_of [] (c ∷ cs) x p q e =
    absurd (omega (arith, bytes-some c, ap length e, length-append x (back cs ++ bytes_of c), length-append (back cs) (bytes_of c)))
front_of (b ∷ bs) (c ∷ cs) x p q e =
    let s = peel (back bs) (x ++ back cs) b c p.0 q.0 (e ∙ sym (append_assoc x (back cs) (bytes_of c))) in
    let r = front_of bs cs x p.1 q.1 s.0 in
    record { front = r.front; is = λ i. s.1 i ∷ r.is i; bytes = r.bytes; each = r.each }

pub back_none : (bs : List Bundle) → back bs ≡ [] → bs ≡ []
unfolding back
back_none [] e = refl
back_none (b ∷ bs) e = absurd (omega (arith, bytes-some b, ap length e, length-append (back bs) (bytes_of b)))

pub unique : Unique
unique s bs cs p q =
    let e : back (reverse bs) ≡ back (reverse cs) = back-reverse bs ∙ sym p.is ∙ q.is ∙ sym (back-reverse cs) in
    let f = front_of (reverse bs) (reverse cs) [] (all-reverse bs p.each) (all-reverse cs q.each) e in
    let same : reverse bs ≡ reverse cs = f.is ∙ ap (λ l. reverse cs ++ l) (back_none f.front f.bytes) ∙ append-nil (reverse cs) in
    sym (reverse-reverse bs) ∙ ap reverse same ∙ reverse-reverse cs
