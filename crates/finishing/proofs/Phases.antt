-- What a whole fragment and a verdict make of a phase.
use Rattle.std.proofs.Common.{◌≡◌, ℕ, ◌≤◌, Bool, true, false, cond, eqb, ◌⊎◌, [], Some, None, Option, sym, refl, ap, ◌∙◌, subst, inl, inr, ⊎_elim, arith}
use Rattle.std.proofs.lemmas.Bool.{cond-true, cond-false, cases_Bool, eqb-true, eq-eqb, not-false, true≢false, false≢true}
use Rattle.session.specs.Sessions.{Phase, receiving, away, ready}
use Rattle.session.specs.Rules.{is_receiving, is_away, phase_at, other_total, close_fault, ready_fault}
use Rattle.session.specs.declared.records.Settings.{Settings}
use Rattle.finishing.specs.Finishing.{Within}

-- the phase of a session that has all bytes and was receiving
abbrev whole : Settings → Phase
whole sets = cond sets.approver away (ready [])

whole-left : (sets : Settings) → is_receiving (whole sets) ≡ false
whole-left sets = at sets.approver
  where
    at : (b : Bool) → is_receiving (cond b away (ready [])) ≡ false
    at true = refl
    at false = refl

-- with all bytes a session is not receiving
pub left : (sets : Settings) (p : Phase) (c t : ℕ) → c ≡ t → is_receiving (phase_at sets p c t) ≡ false
left sets receiving c t e = ap is_receiving (cond-true (eqb c t) (whole sets) receiving (eq-eqb c t e)) ∙ whole-left sets
left sets away c t e = refl
left sets (ready a) c t e = refl

-- it leaves off receiving only with all bytes
pub left-since : (sets : Settings) (p : Phase) (c t : ℕ) → is_receiving (phase_at sets p c t) ≡ false → (is_receiving p ≡ false) ⊎ (c ≡ t)
left-since sets receiving c t e =
    ⊎_elim (λ q. inr (eqb-true c t q)) (λ q. absurd (true≢false (sym (ap is_receiving (cond-false (eqb c t) (whole sets) receiving q)) ∙ e))) (cases_Bool (eqb c t))
left-since sets away c t e = inl refl
left-since sets (ready a) c t e = inl refl

pub not-sent : (sets : Settings) (p : Phase) (c t : ℕ) → sets.approver ≡ false → is_away p ≡ false → is_away (phase_at sets p c t) ≡ false
not-sent sets receiving c t n e =
    ⊎_elim
    (λ q. ap is_away (cond-true (eqb c t) (whole sets) receiving q) ∙ ap is_away (cond-false sets.approver away (ready []) n))
    (λ q. ap is_away (cond-false (eqb c t) (whole sets) receiving q))
    (cases_Bool (eqb c t))
not-sent sets away c t n e = absurd (true≢false e)
not-sent sets (ready a) c t n e = refl

pub sent : (sets : Settings) (c t : ℕ) → sets.approver ≡ true → c ≡ t → is_away (phase_at sets receiving c t) ≡ true
sent sets c t n e =
    ap is_away (cond-true (eqb c t) (whole sets) receiving (eq-eqb c t e)) ∙ ap is_away (cond-true sets.approver away (ready []) n)

pub stays : (sets : Settings) (p : Phase) (c t : ℕ) → is_receiving p ≡ false → phase_at sets p c t ≡ p
stays sets receiving c t e = absurd (true≢false e)
stays sets away c t e = refl
stays sets (ready a) c t e = refl

pub away-left : (p : Phase) → is_away p ≡ true → is_receiving p ≡ false
away-left receiving e = absurd (false≢true e)
away-left away e = refl
away-left (ready a) e = absurd (false≢true e)

-- one that neither receives nor is at the approver can be closed
pub ready-close : (sets : Settings) (p : Phase) (stands can : Bool) → is_receiving p ≡ false → is_away p ≡ false → close_fault sets p stands can ≡ ready_fault sets stands can
ready-close sets receiving stands can e a = absurd (true≢false e)
ready-close sets away stands can e a = absurd (true≢false a)
ready-close sets (ready address) stands can e a = refl

-- a session that has no other total than t has at most t bytes
pub at_most : (total : Option ℕ) (n t : ℕ) → Within total n → other_total total t ≡ false → n ≤ t
at_most None n t h e = omega arith
at_most (Some u) n t h e = let k : u ≡ t = eqb-true u t (not-false (eqb u t) e) in omega arith

pub just : (total : Option ℕ) (n t : ℕ) → total ≡ Some n → other_total total t ≡ false → n ≡ t
just total n t h e = eqb-true n t (not-false (eqb n t) (subst (λ o. other_total o t ≡ false) h e))
