-- A fragment that is taken: the session and its slot are what its entry tells.
use Rattle.std.proofs.Common.{◌≡◌, ℕ, ◌+◌, ◌-◌, ◌<◌, ◌≤◌, max, Bool, true, false, cond, not, ◌||◌, eqb, ltb, leb, ◌⊎◌, List, [], ◌∷◌, ◌++◌, length, Some, None, Option, sym, refl, ap, ◌∙◌, inl, inr, ⊎_elim, arith}
use Rattle.std.specs.Option.{option_or}
use Rattle.std.specs.List.{slice_get}
use Rattle.std.proofs.lemmas.List.{length-append, length-drop}
use Rattle.std.proofs.lemmas.Bool.{or_parts, ltb-false, leb-false, eqb-true, not-false}
use Rattle.std.proofs.lemmas.Option.{none-some}
use Rattle.packet.specs.declared.ranges.Range.{Range}
use Rattle.session.specs.Sessions as session
use Rattle.session.specs.Sessions.{Phase, Live}
use Rattle.session.specs.Rules.{other_total, wrong_range, too_large, phase_at, grown}
use Rattle.session.specs.Plans.{fresh}
use Rattle.session.specs.declared.records.Settings.{Settings}
use Rattle.history.specs.Ledger.{Part, carries, first_byte, places, Standing, receiving, away, ready, Entry, once_whole, carried}
use Rattle.history.specs.Law.{standing_of, Keeps}
use Rattle.history.proofs.Parts.{first-push, laid, places_is}
use Rattle.history.proofs.Rows.{some_inj}

range-facts : (total : Option ℕ) (r : Range) (n : ℕ) → wrong_range total r n ≡ false → (r.first ≤ r.last) × (r.last < r.total) × (n ≡ r.last - r.first + 1) × (other_total total r.total ≡ false)
range-facts total r n h =
    let a = or_parts (ltb r.last r.first) (leb r.total r.last || (not (eqb n (r.last - r.first + 1)) || other_total total r.total)) h in
    let b = or_parts (leb r.total r.last) (not (eqb n (r.last - r.first + 1)) || other_total total r.total) a.1 in
    let c = or_parts (not (eqb n (r.last - r.first + 1))) (other_total total r.total) b.1 in
    (ltb-false r.last r.first a.0, leb-false r.total r.last b.0, eqb-true n (r.last - r.first + 1) (not-false (eqb n (r.last - r.first + 1)) c.0), c.1)

same_total : (o : Option ℕ) (t u : ℕ) → other_total o t ≡ false → o ≡ Some u → u ≡ t
same_total None t u h e = absurd (none-some u e)
same_total (Some v) t u h e = sym (some_inj v u e) ∙ eqb-true v t (not-false (eqb v t) h)

below_total : (o : Option ℕ) (t c : ℕ) → other_total o t ≡ false → (o ≡ None → c ≡ 0) → ((u : ℕ) → o ≡ Some u → c ≤ u) → c ≤ t
below_total None t c h u b = omega (arith, u refl)
below_total (Some v) t c h u b = omega (arith, b v refl, eqb-true v t (not-false (eqb v t) h))

asked : (a : Bool) → standing_of (cond a session.away (session.ready [])) ≡ cond a away ready
asked true = refl
asked false = refl

moves : (sets : Settings) (b : Bool) → standing_of (cond b (cond sets.approver session.away (session.ready [])) session.receiving) ≡ once_whole sets receiving b
moves sets true = asked sets.approver
moves sets false = refl

state-moves : (sets : Settings) (p : Phase) (c t : ℕ) → standing_of (phase_at sets p c t) ≡ once_whole sets (standing_of p) (eqb c t)
state-moves sets session.receiving c t = moves sets (eqb c t)
state-moves sets session.away c t = refl
state-moves sets (session.ready a) c t = refl

whole-moves : (sets : Settings) (s : Standing) (b : Bool) → (once_whole sets s b ≡ receiving → ⊥) → (b ≡ true) ⊎ (s ≡ receiving → ⊥)
whole-moves sets receiving true h = inl refl
whole-moves sets receiving false h = absurd (h refl)
whole-moves sets away b h = inr h
whole-moves sets ready b h = inr h

told-moves : (sets : Settings) (s : Standing) (b : Bool) → sets.approver ≡ true → once_whole sets s b ≡ ready → s ≡ ready
told-moves sets receiving true a e = let z : away ≡ ready = sym (ap (λ c. cond c away ready) a) ∙ e in let y : ◌≡◌ {A = ℕ} 0 1 = cc in absurd (omega arith)
told-moves sets receiving false a e = e
told-moves sets away b a e = e
told-moves sets ready b a e = e

module _ (sets : Settings) (clock tells : ℕ) (same : clock ≡ tells) (e : Entry) (x : Live) (slot : List ℕ) (r : Range) (body : List ℕ) (n : ℕ) (k : Keeps sets e x slot)
    (range : wrong_range x.total r n ≡ false) (large : too_large sets r n ≡ false) (gap : ltb x.received r.first ≡ false) (came : length body ≤ n) where
  abbrev part : Part
  part = record { from = r.first; bytes = body }

  abbrev count : ℕ
  count = max x.received (r.first + length body)

  known : (r.first ≤ r.last) × (r.last < r.total) × (n ≡ r.last - r.first + 1) × (other_total x.total r.total ≡ false)
  known = range-facts x.total r n range

  starts : r.first ≤ x.received
  starts = ltb-false x.received r.first gap

  limit : r.total ≤ sets.maximum
  limit = ltb-false sets.maximum r.total (or_parts (ltb 32768 n) (ltb sets.maximum r.total) large).1

  le_total : count ≤ r.total
  le_total =
      let a = below_total x.total r.total x.received known.3 k.unset (λ u f. (k.bound u f).0) in
      let b = known.0 in
      let c = known.1 in
      let d = known.2 in
      omega arith

  bytes_after : (p : ℕ) → slice_get (slot ++ fresh x r body) p ≡ first_byte (e.parts ++ part ∷ []) p
  bytes_after p = laid slot body r.first x.received p k.size starts ∙ ap (λ z. option_or z (carries part p)) (k.bytes p) ∙ sym (first-push e.parts part p)

  size-after : count ≡ length (slot ++ fresh x r body)
  size-after =
      let a = length-append slot (fresh x r body) in
      let b = length-drop (x.received - r.first) body in
      let c = k.size in
      let d = starts in
      omega arith

  count-after : count ≡ places (e.parts ++ part ∷ [])
  count-after = size-after ∙ sym (places_is (e.parts ++ part ∷ []) (slot ++ fresh x r body) bytes_after)

  bound-after : (t : ℕ) → Some r.total ≡ Some t → (count ≤ t) × (t ≤ sets.maximum)
  bound-after t f = let z = some_inj r.total t f in let a = le_total in let b = limit in (omega arith, omega arith)

  -- a session that received no more had all its bytes
  had-all : (e.standing ≡ receiving → ⊥) → Some r.total ≡ Some count
  had-all ne = let z = same_total x.total r.total x.received known.3 (k.whole ne) in let a = le_total in ap Some (omega arith)

  pub taken-keeps : (b : Bool) → Keeps sets (carried sets tells b e part r.total) (grown sets clock x r (length body) b) (slot ++ fresh x r body)
  taken-keeps true = record {
    path = k.path;
    total = refl;
    state = state-moves sets x.phase count r.total ∙ ap (λ s. once_whole sets s (eqb count r.total)) k.state ∙ ap (λ c. once_whole sets e.standing (eqb c r.total)) count-after;
    stamp = same;
    bytes = bytes_after;
    size = size-after;
    count = count-after;
    bound = bound-after;
    unset = λ f. absurd (none-some r.total (sym f));
    whole = λ ne. ⊎_elim
        (λ f. let z = eqb-true (places (e.parts ++ part ∷ [])) r.total f in ap Some (sym (count-after ∙ z)))
        had-all
        (whole-moves sets e.standing (eqb (places (e.parts ++ part ∷ [])) r.total) ne);
    told = λ a f. k.told a (told-moves sets e.standing (eqb (places (e.parts ++ part ∷ [])) r.total) a f);
  }
  taken-keeps false = record {
    path = k.path;
    total = refl;
    state = k.state;
    stamp = k.stamp;
    bytes = bytes_after;
    size = size-after;
    count = count-after;
    bound = bound-after;
    unset = λ f. absurd (none-some r.total (sym f));
    whole = had-all;
    told = k.told;
  }
