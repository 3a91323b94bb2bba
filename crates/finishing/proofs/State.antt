-- What holds of the session all along a finishing list.
use Rattle.std.proofs.Common.{◌≡◌, ℕ, ◌+◌, ◌-◌, ◌≤◌, Bool, true, false, List, length, Some, Option, sym, refl, ap, ◌∙◌, ⊎_elim, arith}
use Rattle.std.proofs.lemmas.Bool.{cases_Bool, true≢false, false≢true}
use Rattle.session.specs.Sessions.{Live, World}
use Rattle.session.specs.Rules.{is_receiving, is_away}
use Rattle.session.specs.declared.records.Settings.{Settings}
use Rattle.finishing.specs.Finishing.{Within, Good}
use Rattle.finishing.proofs.Lone.{Lone}

pub record Holds (sets : Settings) (i s : ℕ) (name : List ℕ) (t : ℕ) (w : World) (ended agreed : Bool) (x : Live) : Type 0 where
  pub lone : Lone w i x
  pub serial : x.serial ≡ s
  pub path : x.path ≡ name
  pub kept : length (w.store.held i) ≡ x.received
  pub bounded : Within x.total x.received
  pub full : is_receiving x.phase ≡ false → x.total ≡ Some x.received
  pub room : t ≤ x.received + w.store.room i
  pub sized : ended ≡ true → x.total ≡ Some t
  pub ends : ended ≡ true → sets.approver ≡ false → is_receiving x.phase ≡ false
  pub unasked : sets.approver ≡ false → is_away x.phase ≡ false
  pub settled : agreed ≡ true → (is_receiving x.phase ≡ false) × (is_away x.phase ≡ false)

pub same_some : {X : Type 0} (o : Option X) (a b : X) → o ≡ Some a → o ≡ Some b → a ≡ b
same_some o a b p q = cc

-- at the start
pub at-start : (sets : Settings) (w : World) (i : ℕ) (x : Live) (t : ℕ) → Good w i x → t - x.received ≤ w.store.room i → Holds sets i x.serial x.path t w false false x
at-start sets w i x t g h = record {
  lone = record { within = g.within; here = g.here; only = g.only };
  serial = refl;
  path = refl;
  kept = g.kept;
  bounded = g.bounded;
  full = λ e. absurd (true≢false (sym (ap is_receiving g.receives) ∙ e));
  room = omega arith;
  sized = λ e. absurd (false≢true e);
  ends = λ e. absurd (false≢true e);
  unasked = λ e. ap is_away g.receives;
  settled = λ e. absurd (false≢true e);
}

-- at the end
module _ (sets : Settings) (i s : ℕ) (name : List ℕ) (t : ℕ) (z : World) (agreed : Bool) (y : Live) (h : Holds sets i s name t z true agreed y) (k : sets.approver ≡ true → agreed ≡ true) where
  pub is-ready : (is_receiving y.phase ≡ false) × (is_away y.phase ≡ false)
  is-ready = ⊎_elim (λ e. h.settled (k e)) (λ e. (h.ends refl e, h.unasked e)) (cases_Bool sets.approver)

  pub is_whole : y.received ≡ t
  is_whole = same_some y.total y.received t (h.full is-ready.0) (h.sized refl)
