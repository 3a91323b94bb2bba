-- One step of the walk back from the end, and what the walk has seen.
use Rattle.std.proofs.Common.{◌≡◌, ℕ, ◌+◌, ◌≤◌, Bool, true, false, cond, List, [], ◌∷◌, ◌++◌, reverse, length, take, drop, Some, None, sym, refl, ap, ◌∙◌, subst, append_assoc, append-nil, arith, length-append}
use mathlib.Core.List.{reverse-append, reverse-reverse}
use Rattle.std.specs.List.{flat_map, AllByRecursion}
use Rattle.std.specs.Str.{bytes_eq}
use Rattle.std.proofs.lemmas.Slice.Eq.{bytes_eq-Decides}
use Rattle.std.proofs.lemmas.List.{take-append-drop, take_at, drop_at, length-take-le}
use Rattle.volume.specs.Bundles.{Bundle, bytes_of, Proper, Volume, later, newest}
use Rattle.volume.specs.Reads.{Placed, Ends, Tail, Faulty, Stopped, Damaged, Without, laid}
use Rattle.volume.specs.declared.bundle.Damage.{Damage}
use Rattle.volume.specs.declared.bundle.Fault.{Fault}
use Rattle.volume.proofs.Joins.{length-bytes_of}
use Rattle.volume.proofs.Laws.{back, back-reverse, all-reverse, Front, front_of}
use Rattle.volume.proofs.Trailers.{ends-long, faulty-none}

-- the walk back over s has told the bundles bs, and the bytes x are left
pub record Walked (s x : List ℕ) (bs : List Bundle) : Type 0 where
  pub joins : s ≡ x ++ flat_map bytes_of bs
  pub each : AllByRecursion Proper bs

pub walked_none : (s : List ℕ) → Walked s s []
walked_none s = record { joins = sym (append-nil s); each = tt }

pub walked-whole : (s x : List ℕ) (bs : List Bundle) → Walked s x bs → x ≡ [] → Volume s bs
walked-whole s x bs w z = record { each = w.each; is = w.joins ∙ ap (λ l. l ++ flat_map bytes_of bs) z }

pub tail : (s x : List ℕ) (bs : List Bundle) → Walked s x bs → Tail s (length x) bs
tail s x bs w = record {
  within = omega (arith, ap length w.joins, length-append x (flat_map bytes_of bs));
  volume = record { each = w.each; is = ap (drop (length x)) w.joins ∙ drop_at x (flat_map bytes_of bs) (length x) refl };
}

-- one step of the walk: x ends in the bundle p, and y is left
module _ (x y : List ℕ) (p : Placed) (e : Ends x p) (is : y ≡ take p.at x) where
  front-is : y ≡ e.before
  front-is = is ∙ ap (take p.at) e.joins ∙ take_at e.before (bytes_of p.bundle) p.at e.starts

  pub falls : (length y ≡ p.at) × (length y + 16 ≤ length x)
  falls = (ap length front-is ∙ e.starts, omega (arith, ap length front-is, e.starts, ends-long x p e))

  pub walked_more : (s : List ℕ) (bs : List Bundle) → Walked s x bs → Walked s y (p.bundle ∷ bs)
  walked_more s bs w = record {
    joins =
        w.joins ∙ ap (λ l. l ++ flat_map bytes_of bs) (e.joins ∙ ap (λ l. l ++ bytes_of p.bundle) (sym front-is))
        ∙ append_assoc y (bytes_of p.bundle) (flat_map bytes_of bs);
    each = (e.proper, w.each);
  }

  pub tail_more : (s : List ℕ) (bs : List Bundle) → Walked s x bs → Tail s p.at (p.bundle ∷ bs)
  tail_more s bs w = subst (λ k. Tail s k (p.bundle ∷ bs)) falls.0 (tail s y (p.bundle ∷ bs) (walked_more s bs w))

  -- the list of the bundles told, the newest first
  pub laid_more : (bs : List Bundle) → reverse (laid (length y) (p.bundle ∷ bs)) ≡ reverse (laid (length x) bs) ++ (p ∷ [])
  laid_more bs =
      let next : length y + length (bytes_of p.bundle) ≡ length x = omega (arith, falls.0, ends-long x p e, length-bytes_of p.bundle) in
      reverse-append (record { at = length y; bundle = p.bundle } ∷ []) (laid (length y + length (bytes_of p.bundle)) bs)
      ∙ (λ i. reverse (laid (next i) bs) ++ (record { at = falls.0 i; bundle = p.bundle } ∷ []))

pub stopped : (s x : List ℕ) (bs : List Bundle) (d : Damage) → Walked s x bs → 1 ≤ d.end → d.end ≡ length x → Faulty x d.fault → Stopped s d bs
stopped s x bs d w some end h = record {
  sound = subst (λ k. Tail s k bs) (sym end) (tail s x bs w);
  some = some;
  fault = subst (λ l. Faulty l d.fault) (sym (ap (take d.end) w.joins ∙ take_at x (flat_map bytes_of bs) d.end (sym end))) h;
}

-- the bundles of a volume that stand before those of a tail
front-tail : (s : List ℕ) (bs : List Bundle) (at : ℕ) (rest : List Bundle) → Volume s bs → Tail s at rest → Front (reverse bs) (reverse rest) (take at s)
front-tail s bs at rest v t =
    front_of (reverse bs) (reverse rest) (take at s) (all-reverse bs v.each) (all-reverse rest t.volume.each)
    (back-reverse bs ∙ sym v.is ∙ sym (take-append-drop at s) ∙ ap (λ l. take at s ++ l) (t.volume.is ∙ sym (back-reverse rest)))

no-fault : (x : List ℕ) (f : Fault) (bs : List Bundle) → AllByRecursion Proper bs → back bs ≡ x → 1 ≤ length x → Faulty x f → ⊥
unfolding back
no-fault x f [] p e some h = omega (arith, ap length e)
no-fault x f (b ∷ bs) p e some h = faulty-none x f h (record { at = length (back bs); bundle = b }) (record { before = back bs; joins = sym e; starts = refl; proper = p.0 })

pub stopped_none : (s : List ℕ) (d : Damage) (rest : List Bundle) → Stopped s d rest → (bs : List Bundle) → Volume s bs → ⊥
stopped_none s d rest w bs v =
    let f = front-tail s bs d.end rest v w.sound in
    no-fault (take d.end s) d.fault f.front f.each f.bytes (omega (arith, w.some, length-take-le d.end s w.sound.within)) w.fault

pub damaged : (s : List ℕ) (d : Damage) (rest : List Bundle) → Stopped s d rest → Damaged s d
damaged s d rest w = record { rest = rest; stops = w; none = stopped_none s d rest w }

pub newest-none : (name : List ℕ) (bs : List Bundle) → Without name bs → newest name bs ≡ None
newest-none name [] h = refl
newest-none name (b ∷ bs) h = at (bytes_eq b.name name) refl (newest-none name bs h.1)
  where
    at : (t : Bool) → bytes_eq b.name name ≡ t → newest name bs ≡ None → cond t (later (newest name bs) b) (newest name bs) ≡ None
    at true e i = absurd (h.0 ((bytes_eq-Decides b.name name).0 e))
    at false e i = i

pub newest-here : (name : List ℕ) (b : Bundle) (bs : List Bundle) → b.name ≡ name → Without name bs → newest name (b ∷ bs) ≡ Some b
newest-here name b bs e h =
    ap (λ t. cond t (later (newest name bs) b) (newest name bs)) ((bytes_eq-Decides b.name name).1 e) ∙ ap (λ o. later o b) (newest-none name bs h)

pub newest-append : (name : List ℕ) (xs ys : List Bundle) (b : Bundle) → newest name ys ≡ Some b → newest name (xs ++ ys) ≡ Some b
newest-append name [] ys b e = e
newest-append name (x ∷ xs) ys b e =
    ap (λ o. cond (bytes_eq x.name name) (later o x) o) (newest-append name xs ys b e) ∙ either (bytes_eq x.name name)
  where
    either : (t : Bool) → cond t (later (Some b) x) (Some b) ≡ Some b
    either true = refl
    either false = refl

pub newest-tail : (s name : List ℕ) (bs : List Bundle) (at : ℕ) (b : Bundle) (rest : List Bundle) → Volume s bs → Tail s at (b ∷ rest) → b.name ≡ name → Without name rest → newest name bs ≡ Some b
newest-tail s name bs at b rest v t e h =
    let f = front-tail s bs at (b ∷ rest) v t in
    let split : bs ≡ reverse f.front ++ (b ∷ rest) = sym (reverse-reverse bs) ∙ ap reverse f.is ∙ reverse-append (reverse (b ∷ rest)) f.front ∙ ap (λ l. reverse f.front ++ l) (reverse-reverse (b ∷ rest)) in
    ap (newest name) split ∙ newest-append name (reverse f.front) (b ∷ rest) b (newest-here name b rest e h)
