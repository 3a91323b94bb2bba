-- One piece after another on a page. Assumes nothing.
use Rattle.std.proofs.Common.{◌≡◌, ℕ, zero, suc, ◌+◌, ◌-◌, ◌≤◌, min, List, [], ◌∷◌, ◌++◌, length, take, drop, sym, refl, ap, ◌∙◌, subst, append-nil, arith, length-append, length-drop, length-take}
use borrow.Rule.Slice.PartMut.{put_mid}
use Rattle.std.proofs.lemmas.List.{drop_all, take_all, take-append-drop}
use Rattle.page.specs.declared.Writer.{Writer}
use Rattle.page.specs.Page.{over, Puts, Wrote}

over_none : (q : List ℕ) → over q [] ≡ q
over_none [] = refl
over_none (b ∷ q) = refl

length_over : (q s : List ℕ) → length (over q s) ≡ length q
length_over [] s = refl
length_over (b ∷ q) [] = refl
length_over (b ∷ q) (x ∷ s) = ap suc (length_over q s)

-- as the bytes of s that have a place, and then what is left of the page
pub over-is : (q s : List ℕ) (n : ℕ) → n ≡ min (length s) (length q) → over q s ≡ take n s ++ drop n q
over-is [] [] zero e = refl
over-is [] [] (suc n) e = absurd (omega arith)
over-is [] (x ∷ s) zero e = refl
over-is [] (x ∷ s) (suc n) e = absurd (omega arith)
over-is (b ∷ q) [] zero e = refl
over-is (b ∷ q) [] (suc n) e = absurd (omega arith)
over-is (b ∷ q) (x ∷ s) zero e = absurd (omega arith)
over-is (b ∷ q) (x ∷ s) (suc n) e = ap (λ l. x ∷ l) (over-is q s n (omega arith))

pub over-fits : (q s : List ℕ) → length s ≤ length q → over q s ≡ s ++ drop (length s) q
over-fits q s h = over-is q s (length s) (omega arith) ∙ ap (λ l. l ++ drop (length s) q) (take_all (length s) s (omega arith))

-- s, and then t from the place past it, is both in one
over-then : (q s t : List ℕ) (m : ℕ) → m ≡ min (length s) (length q) → take m (over q s) ++ over (drop m (over q s)) t ≡ over q (s ++ t)
over-then [] s t zero e = refl
over-then [] s t (suc m) e = absurd (omega arith)
over-then (b ∷ q) [] t zero e = refl
over-then (b ∷ q) [] t (suc m) e = absurd (omega arith)
over-then (b ∷ q) (x ∷ s) t zero e = absurd (omega arith)
over-then (b ∷ q) (x ∷ s) t (suc m) e = ap (λ l. x ∷ l) (over-then q s t m (omega arith))

laid_then : (p : List ℕ) (at mid : ℕ) (s t : List ℕ) → mid ≡ at + min (length s) (length p - at) → take mid (take at p ++ over (drop at p) s) ++ over (drop mid (take at p ++ over (drop at p) s)) t ≡ take at p ++ over (drop at p) (s ++ t)
laid_then p zero mid s t e = over-then p s t mid (omega arith)
laid_then [] (suc at) zero s t e = refl
laid_then [] (suc at) (suc mid) s t e = refl
laid_then (b ∷ p) (suc at) zero s t e = absurd (omega arith)
laid_then (b ∷ p) (suc at) (suc mid) s t e = ap (λ l. b ∷ l) (laid_then p at mid s t (omega arith))

pub puts-length : {p s q : List ℕ} {at end : ℕ} → Puts p at s q end → length q ≡ length p
puts-length {p} {s} {at = at} f =
    ap length f.bytes ∙ length-append (take at p) (over (drop at p) s)
    ∙ omega (arith, length_over (drop at p) s, length-take at p, length-drop at p)

pub puts_then : {p q r s t : List ℕ} {at mid end : ℕ} → Puts p at s q mid → Puts q mid t r end → Puts p at (s ++ t) r end
puts_then {p = p} {s = s} {t = t} {at = at} {mid = mid} f g = record {
  bytes = g.bytes ∙ ap (λ l. take mid l ++ over (drop mid l) t) f.bytes ∙ laid_then p at mid s t f.ends;
  ends = omega (arith, f.ends, g.ends, puts-length f, length-append s t);
}

infixr 5 ◌then◌
pub ◌then◌ : {a b c : Writer} {s t : List ℕ} → Wrote a s b → Wrote b t c → Wrote a (s ++ t) c
◌then◌ f g = record { puts = puts_then f.puts g.puts; same_page = g.same_page ∙ f.same_page }

-- the same bytes in other words
pub wrote-as : {a b : Writer} {s t : List ℕ} → s ≡ t → Wrote a s b → Wrote a t b
wrote-as {a} {b} e f = subst (λ l. Wrote a l b) e f

pub puts_none : (p : List ℕ) (at : ℕ) → Puts p at [] p at
puts_none p at = record { bytes = sym (ap (λ l. take at p ++ l) (over_none (drop at p)) ∙ take-append-drop at p); ends = omega arith }

pub wrote_from : {a b c : Writer} {s : List ℕ} → b ≡ a → Wrote b s c → Wrote a s c
wrote_from {c = c} {s = s} e f = subst (λ a. Wrote a s c) e f

pub wrote_none : (a : Writer) → Wrote a [] a
wrote_none a = record { puts = puts_none a.page.now a.at; same_page = refl }

-- nothing has a place past the page
pub puts-past : (p s : List ℕ) (at : ℕ) → length p ≤ at → Puts p at s p at
puts-past p s at h = record {
  bytes = sym ((λ j. take_all at p h j ++ over (drop_all at p h j) s) ∙ append-nil p);
  ends = omega arith;
}

-- a write to a part of the page
pub puts-part : (p s ys : List ℕ) (at n k : ℕ) → n ≡ min (length s) (length p - at) → k ≡ n → ys ≡ take n s → Puts p at s (put_mid at k p ys) (at + n)
puts-part p s ys at n k e same w = record {
  bytes =
      let m : n ≡ min (length s) (length (drop at p)) = omega (arith, length-drop at p) in
      (λ j. take at p ++ (w j ++ drop (same j) (drop at p))) ∙ ap (λ l. take at p ++ l) (sym (over-is (drop at p) s n m));
  ends = omega arith;
}

-- from the start of a page with room for it
pub puts_whole : {p q s : List ℕ} {end : ℕ} → Puts p 0 s q end → length s ≤ length p → q ≡ s ++ drop (length s) p
puts_whole {p} {s = s} f h = f.bytes ∙ over-fits p s h

pub puts-long : {p q s : List ℕ} {end : ℕ} → Puts p 0 s q end → length s ≤ length p → end ≡ length s
puts-long f h = omega (arith, f.ends)
