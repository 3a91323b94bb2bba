-- Ids one after another: how much fuel there is does not matter.
use Rattle.std.proofs.Common.{◌≡◌, ℕ, zero, suc, ◌<◌, ◌≤◌, Bool, cond, ◌||◌, eqb, List, [], ◌∷◌, length, take, drop, Some, None, Option, sym, refl, ap, ◌∙◌, arith, length-drop, length-take}
use Rattle.std.proofs.lemmas.Bool.{ne_eqb, cond-false, cond-true}
use Rattle.std.specs.List.{prefix_len}
use Rattle.text.specs.Bytes.{divider}
use Rattle.ids.specs.Ids.{id_of}
use Rattle.ids.specs.declared.SessionId.{SessionId}
use Rattle.ids.proofs.Texts.{not-long}
use Rattle.packet.specs.Protocols.{ours, after_with, with_id, ids_from, after_from}

pub ids-none : (f : ℕ) (b : Bool) (s : List ℕ) → id_of (take 38 s) ≡ None → ids_from f b s ≡ None
ids-none zero b s e = refl
ids-none (suc f) b s e = ap (λ o. with_id (ids_from f) o b (drop 38 s)) e

pub ids_short : (f : ℕ) (b : Bool) (s : List ℕ) → length s < 38 → ids_from f b s ≡ None
ids_short f b s h = ids-none f b s (not-long (take 38 s) (λ e. omega (arith, length-take 38 s)))

-- after an id only what is left matters
after-alike : (f g : List ℕ → Option Bool) (b : Bool) (s : List ℕ) → ((t : List ℕ) → length t ≤ length s → f t ≡ g t) → after_with f b s ≡ after_with g b s
after-alike f g b [] same = refl
after-alike f g b (x ∷ s) same = ap (cond (eqb (prefix_len divider (x ∷ s)) 0) None) (same (drop (prefix_len divider (x ∷ s)) (x ∷ s)) (simp length-drop (omega arith)))

pub ids-fuel : (f g : ℕ) (b : Bool) (s : List ℕ) → length s ≤ f → length s ≤ g → ids_from f b s ≡ ids_from g b s
ids-fuel zero g b s h k = sym (ids_short g b s (omega arith))
ids-fuel (suc f) zero b s h k = ids_short (suc f) b s (omega arith)
ids-fuel (suc f) (suc g) b s h k = by-id (id_of (take 38 s)) (λ c t. ids-fuel f g c t) where
  by-id : (o : Option SessionId) → ((c : Bool) (t : List ℕ) → length t ≤ f → length t ≤ g → ids_from f c t ≡ ids_from g c t) → with_id (ids_from f) o b (drop 38 s) ≡ with_id (ids_from g) o b (drop 38 s)
  by-id None ih = refl
  by-id (Some id) ih = after-alike (ids_from f (b || ours id)) (ids_from g (b || ours id)) (b || ours id) (drop 38 s) (λ t l. ih (b || ours id) t (omega (arith, length-drop 38 s, l)) (omega (arith, length-drop 38 s, l)))

pub after-fuel : (f g : ℕ) (b : Bool) (s : List ℕ) → length s ≤ f → length s ≤ g → after_from f b s ≡ after_from g b s
after-fuel f g b s h k = after-alike (ids_from f b) (ids_from g b) b s (λ t l. ids-fuel f g b t (omega (arith, l)) (omega (arith, l)))

pub ids_more : (b : Bool) (s : List ℕ) (id : SessionId) → 38 ≤ length s → id_of (take 38 s) ≡ Some id → ids_from (length s) b s ≡ after_from (length (drop 38 s)) (b || ours id) (drop 38 s)
ids_more b [] id h e = absurd (omega arith)
ids_more b (x ∷ s) id h e = ap (λ o. with_id (ids_from (length s)) o b (drop 38 (x ∷ s))) e ∙ after-fuel (length s) (length (drop 38 (x ∷ s))) (b || ours id) (drop 38 (x ∷ s)) (simp length-drop (omega arith)) (omega arith)

pub after_more : (b : Bool) (s : List ℕ) (n : ℕ) → n ≡ prefix_len divider s → (n ≡ 0 → ⊥) → after_from (length s) b s ≡ ids_from (length (drop n s)) b (drop n s)
after_more b [] n e some = absurd (some e)
after_more b (x ∷ s) n e some =
    let t = x ∷ s in
    cond-false (eqb (prefix_len divider t) 0) _ _ (ne_eqb _ 0 (λ z. some (e ∙ z))) ∙ ap (λ m. ids_from (length t) b (drop m t)) (sym e) ∙ ids-fuel (length t) (length (drop n t)) b (drop n t) (simp length-drop (omega arith)) (omega arith)

pub after_none : (b : Bool) (s : List ℕ) (n : ℕ) → 0 < length s → n ≡ prefix_len divider s → n ≡ 0 → after_from (length s) b s ≡ None
after_none b [] n h e z = absurd (omega arith)
after_none b (x ∷ s) n h e z = cond-true (eqb (prefix_len divider (x ∷ s)) 0) _ _ (ap (λ m. eqb m 0) (sym e ∙ z))
