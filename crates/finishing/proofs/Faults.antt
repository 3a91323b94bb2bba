-- When a fragment is taken.
use Rattle.std.proofs.Common.{◌≡◌, ℕ, ◌+◌, ◌-◌, ◌<◌, ◌≤◌, Bool, true, false, cond, not, ◌||◌, eqb, ltb, leb, Some, None, Option, ◌∙◌}
use Rattle.std.proofs.lemmas.Bool.{cond-true, cond-false, or_parts, or_from, ltb-false, leb-false, eqb-true, not-false, le-ltb}
use Rattle.outcome.specs.declared.Outcome.TheVariants.{AtApprover, WrongRange, TooLarge, Gap, StoreFull}
use Rattle.packet.specs.declared.ranges.Range.{Range}
use Rattle.session.specs.Sessions.{Live}
use Rattle.session.specs.Rules.{is_away, wrong_range, other_total, too_large, fragment_fault}
use Rattle.session.specs.declared.records.Settings.{Settings}

-- what a range that is not wrong says
pub record Right (total : Option ℕ) (r : Range) (n : ℕ) : Type 0 where
  pub forward : r.first ≤ r.last
  pub inside : r.last < r.total
  pub size : n ≡ r.last - r.first + 1
  pub same : other_total total r.total ≡ false

pub right : (total : Option ℕ) (r : Range) (n : ℕ) → wrong_range total r n ≡ false → Right total r n
right total r n e =
    let a = or_parts (ltb r.last r.first) (leb r.total r.last || (not (eqb n (r.last - r.first + 1)) || other_total total r.total)) e in
    let b = or_parts (leb r.total r.last) (not (eqb n (r.last - r.first + 1)) || other_total total r.total) a.1 in
    let c = or_parts (not (eqb n (r.last - r.first + 1))) (other_total total r.total) b.1 in
    record {
      forward = ltb-false r.last r.first a.0;
      inside = leb-false r.total r.last b.0;
      size = eqb-true n (r.last - r.first + 1) (not-false (eqb n (r.last - r.first + 1)) c.0);
      same = c.1;
    }

five : {X : Type 0} (a b c d e : Bool) (p q r s t u : X) → a ≡ false → b ≡ false → c ≡ false → d ≡ false → e ≡ false
    → cond a p (cond b q (cond c r (cond d s (cond e t u)))) ≡ u
five a b c d e p q r s t u ha hb hc hd he =
    cond-false a p (cond b q (cond c r (cond d s (cond e t u)))) ha ∙ cond-false b q (cond c r (cond d s (cond e t u))) hb
    ∙ cond-false c r (cond d s (cond e t u)) hc ∙ cond-false d s (cond e t u) hd ∙ cond-false e t u he

pub no-fault : (sets : Settings) (x : Live) (r : Range) (at n room : ℕ) → is_away x.phase ≡ false → wrong_range x.total r n ≡ false
    → n ≤ 32768 → r.total ≤ sets.maximum → r.first ≤ x.received → r.last + 1 ≤ x.received + room → fragment_fault sets x r at n room ≡ None
no-fault sets x r at n room a w s m g f =
    five (is_away x.phase) (wrong_range x.total r n) (too_large sets r n) (ltb x.received r.first) (ltb (x.received + room) (r.last + 1))
    (Some AtApprover) (Some (WrongRange at)) (Some TooLarge) (Some Gap) (Some StoreFull) None
    a w (or_from (ltb 32768 n) (ltb sets.maximum r.total) (le-ltb 32768 n s) (le-ltb sets.maximum r.total m))
    (le-ltb x.received r.first g) (le-ltb (x.received + room) (r.last + 1) f)

pub away-fault : (sets : Settings) (x : Live) (r : Range) (at n room : ℕ) → is_away x.phase ≡ true → fragment_fault sets x r at n room ≡ Some AtApprover
away-fault sets x r at n room a =
    cond-true (is_away x.phase) (Some AtApprover)
    (cond (wrong_range x.total r n) (Some (WrongRange at)) (cond (too_large sets r n) (Some TooLarge) (cond (ltb x.received r.first) (Some Gap) (cond (ltb (x.received + room) (r.last + 1)) (Some StoreFull) None))))
    a
