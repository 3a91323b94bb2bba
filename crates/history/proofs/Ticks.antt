-- One tick: a world that is told stays told.
use Rattle.std.proofs.Common.{◌≡◌, ℕ, zero, suc, ◌-◌, max, Bool, true, false, cond, leb, List, [], ◌∷◌, map, length, Some, None, Option, sym, refl, ap, ◌∙◌}
use Rattle.std.proofs.lemmas.List.{length-map}
use Rattle.std.proofs.lemmas.Option.{none-some}
use Rattle.session.specs.Sessions.{Live, World, row}
use Rattle.session.specs.Rules.{is_expired}
use Rattle.session.specs.Steps.{swept, Ticked}
use Rattle.session.specs.declared.records.Settings.{Settings}
use Rattle.history.specs.Ledger.{Entry, Ledger, struck, after_tick}
use Rattle.history.specs.Law.{Keeps, Matched, Tells}
use Rattle.history.proofs.Rows.{some_inj}
use Rattle.history.proofs.Messages.{at_slot, kept-names}

row-swept : (c : ℕ) (rs : List (Option Live)) (i : ℕ) → row (map (swept c) rs) i ≡ swept c (row rs i)
row-swept c [] i = refl
row-swept c (r ∷ rs) zero = refl
row-swept c (r ∷ rs) (suc i) = row-swept c rs i

cond-kept : {X : Type 0} (b : Bool) (o : Option X) (x : X) → cond b None o ≡ Some x → (o ≡ Some x) × (b ≡ false)
cond-kept true o x h = absurd (none-some x h)
cond-kept false o x h = (h, refl)

struck-kept : (c : ℕ) (o : Option Entry) (e : Entry) → struck c o ≡ Some e → (o ≡ Some e) × (leb 1209600 (c - e.stamp) ≡ false)
struck-kept c None e h = absurd (none-some e h)
struck-kept c (Some d) e h =
    let k = cond-kept (leb 1209600 (c - d.stamp)) (Some d) e h in
    (k.0, ap (λ z. leb 1209600 (c - z.stamp)) (sym (some_inj d e k.0)) ∙ k.1)

keeps_entry : (c : ℕ) (o : Option Entry) (e : Entry) → o ≡ Some e → leb 1209600 (c - e.stamp) ≡ false → struck c o ≡ Some e
keeps_entry c o e h f = ap (struck c) h ∙ ap (λ b. cond b None (Some e)) f

keeps-row : (c : ℕ) (r : Option Live) (x : Live) → r ≡ Some x → leb 1209600 (c - x.stamp) ≡ false → swept c r ≡ Some x
keeps-row c r x h f = ap (swept c) h ∙ ap (λ b. cond b None (Some x)) f

module _ (sets : Settings) (old : ℕ → Option Entry) (n c d : ℕ) (same : c ≡ d) (rs vs : List (Option Live)) (held kept : ℕ → List ℕ) (k : Matched sets old n rs held)
    (rows : vs ≡ map (swept c) rs) (others : (i : ℕ) → is_expired c (row rs i) ≡ false → kept i ≡ held i) where
  row_is : (i : ℕ) → row vs i ≡ swept c (row rs i)
  row_is i = ap (λ l. row l i) rows ∙ row-swept c rs i

  stays : (i : ℕ) (x : Live) → row vs i ≡ Some x → (row rs i ≡ Some x) × (is_expired c (row rs i) ≡ false)
  stays i x h = cond-kept (is_expired c (row rs i)) (row rs i) x (sym (row_is i) ∙ h)

  each_row : (i : ℕ) (x : Live) → row vs i ≡ Some x → (e : Entry) × (struck d (old x.serial) ≡ Some e) × Keeps sets e x (kept i)
  each_row i x h =
      let s = stays i x h in
      let g = k.each i x s.0 in
      let a : leb 1209600 (c - x.stamp) ≡ false = ap (is_expired c) (sym s.0) ∙ s.1 in
      let b : leb 1209600 (d - g.0.stamp) ≡ false = ap (λ z. leb 1209600 (z - g.0.stamp)) (sym same) ∙ ap (λ z. leb 1209600 (c - z)) (sym g.2.stamp) ∙ a in
      (g.0, keeps_entry d (old x.serial) g.0 g.1 b, at_slot sets g.0 x (kept i) (held i) (others i s.1) g.2)

  all-rows : (q : ℕ) (e : Entry) → struck d (old q) ≡ Some e → (i : ℕ) × (x : Live) × (row vs i ≡ Some x) × (x.serial ≡ q)
  all-rows q e h =
      let s = struck-kept d (old q) e h in
      let g = k.all q e s.0 in
      let f = k.each g.0 g.1 g.2 in
      let z : f.0 ≡ e = some_inj f.0 e (sym f.1 ∙ ap old g.3 ∙ s.0) in
      let st : g.1.stamp ≡ e.stamp = f.2.stamp ∙ ap (λ y. y.stamp) z in
      let a : leb 1209600 (c - g.1.stamp) ≡ false = ap (λ y. leb 1209600 (c - y)) st ∙ ap (λ y. leb 1209600 (y - e.stamp)) same ∙ s.1 in
      (g.0, g.1, row_is g.0 ∙ keeps-row c (row rs g.0) g.1 g.2 a, g.3)

  swept-matched : Matched sets (λ q. struck d (old q)) n vs kept
  swept-matched = record {
    size = ap length rows ∙ length-map rs (swept c) ∙ k.size;
    each = each_row;
    all = all-rows;
    apart = λ i j x y f g e. k.apart i j x y (stays i x f).0 (stays j y g).0 e;
    young = λ i x h. k.young i x (stays i x h).0;
  }

pub tick-tells : (sets : Settings) (start : List ℕ → Option (List ℕ)) (l : Ledger) (w v : World) (reading ended : ℕ) → Tells sets start l w → Ticked w reading ended v → Tells sets start (after_tick l reading) v
tick-tells sets start l w v reading ended t d =
    let e : max w.clock reading ≡ max l.clock reading = ap (λ c. max c reading) t.clock in
    record {
      next = d.next ∙ t.next;
      clock = d.clock ∙ e;
      sessions = swept-matched sets l.sessions l.next (max w.clock reading) (max l.clock reading) e w.rows v.rows w.store.held v.store.held t.sessions d.rows d.others;
      catalog = kept-names sets start l w v t d.names;
    }
