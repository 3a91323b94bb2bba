-- One row and one entry change; all others stay.
use Rattle.std.proofs.Common.{◌≡◌, ℕ, ◌<◌, ◌≤◌, eqb, List, length, set, Some, None, Option, sym, refl, ap, ◌∙◌, subst, ⊎_elim, arith}
use Rattle.std.specs.Map.{update}
use Rattle.std.proofs.lemmas.List.{length-set, get_or-set_same, get_or-set_other}
use Rattle.std.proofs.lemmas.Map.{update_here, update_apart}
use Rattle.std.proofs.lemmas.Bool.{cases_eq}
use Rattle.std.proofs.lemmas.Option.{none-some}
use Rattle.session.specs.Sessions.{Live, row}
use Rattle.session.specs.declared.records.Settings.{Settings}
use Rattle.history.specs.Ledger.{Entry}
use Rattle.history.specs.Law.{Keeps, Matched}
use Rattle.history.proofs.Rows.{some_inj, row_inside}

-- a row and the entry of its serial: both are there and agree, or neither is
abbrev pub Fits : Settings → ℕ → Option Live → Option Entry → List ℕ → Type 0
Fits sets s None None slot = Unit {0}
Fits sets s None (Some e) slot = ⊥
Fits sets s (Some x) None slot = ⊥
Fits sets s (Some x) (Some e) slot = (x.serial ≡ s) × Keeps sets e x slot

fits-row : (sets : Settings) (s : ℕ) (r : Option Live) (t : Option Entry) (slot : List ℕ) (x : Live) → Fits sets s r t slot → r ≡ Some x → (e : Entry) × (t ≡ Some e) × (x.serial ≡ s) × Keeps sets e x slot
fits-row sets s None None slot x f h = absurd (none-some x h)
fits-row sets s None (Some e) slot x f h = absurd f
fits-row sets s (Some y) None slot x f h = absurd f
fits-row sets s (Some y) (Some e) slot x f h =
    let c : y ≡ x = some_inj y x h in
    let P : Live → Type 0 = λ z. Keeps sets e z slot in
    (e, refl, ap (λ z. z.serial) (sym c) ∙ f.0, subst P c f.1)

fits-entry : (sets : Settings) (s : ℕ) (r : Option Live) (t : Option Entry) (slot : List ℕ) (e : Entry) → Fits sets s r t slot → t ≡ Some e → (x : Live) × (r ≡ Some x) × (x.serial ≡ s)
fits-entry sets s None None slot e f h = absurd (none-some e h)
fits-entry sets s None (Some d) slot e f h = absurd f
fits-entry sets s (Some y) None slot e f h = absurd f
fits-entry sets s (Some y) (Some d) slot e f h = (y, refl, f.0)

module _ (sets : Settings) (old new : ℕ → Option Entry) (n m : ℕ) (rs vs : List (Option Live)) (held kept : ℕ → List ℕ) (i s : ℕ) (r : Option Live) (t : Option Entry)
    (k : Matched sets old n rs held) (inside : i < 16)
    (mine : (j : ℕ) (y : Live) → row rs j ≡ Some y → y.serial ≡ s → j ≡ i)
    (only : (y : Live) → row rs i ≡ Some y → y.serial ≡ s)
    (rows : vs ≡ set rs i r)
    (others : (j : ℕ) → (j ≡ i → ⊥) → kept j ≡ held j)
    (entries : (q : ℕ) → new q ≡ update eqb old s t q)
    (grows : n ≤ m) (below : s < m)
    (fits : Fits sets s r t (kept i)) where
  here : row vs i ≡ r
  here = ap (λ l. row l i) rows ∙ get_or-set_same rs i r None (omega (arith, k.size))

  off : (j : ℕ) → (j ≡ i → ⊥) → row vs j ≡ row rs j
  off j ne = ap (λ l. row l j) rows ∙ get_or-set_other rs i j r None ne

  at-s : new s ≡ t
  at-s = entries s ∙ update_here old s t

  at_other : (q : ℕ) → (q ≡ s → ⊥) → new q ≡ old q
  at_other q ne = entries q ∙ update_apart old s t q ne

  mended : (j : ℕ) (x : Live) → j ≡ i → row vs j ≡ Some x → (e : Entry) × (t ≡ Some e) × (x.serial ≡ s) × Keeps sets e x (kept i)
  mended j x e h = fits-row sets s r t (kept i) x fits (sym here ∙ sym (ap (λ q. row vs q) e) ∙ h)

  was : (j : ℕ) (x : Live) → (j ≡ i → ⊥) → row vs j ≡ Some x → row rs j ≡ Some x
  was j x ne h = sym (off j ne) ∙ h

  each_row : (j : ℕ) (x : Live) → row vs j ≡ Some x → (e : Entry) × (new x.serial ≡ Some e) × Keeps sets e x (kept j)
  each_row j x h = ⊎_elim
      (λ e. let f = mended j x e h in let P : ℕ → Type 0 = λ q. Keeps sets f.0 x (kept q) in (f.0, ap new f.2 ∙ at-s ∙ f.1, subst P (sym e) f.3))
      (λ ne.
      let g = k.each j x (was j x ne h) in
      let P : List ℕ → Type 0 = λ z. Keeps sets g.0 x z in
      (g.0, at_other x.serial (λ z. ne (mine j x (was j x ne h) z)) ∙ g.1, subst P (sym (others j ne)) g.2))
      (cases_eq j i)

  all-rows : (q : ℕ) (e : Entry) → new q ≡ Some e → (j : ℕ) × (x : Live) × (row vs j ≡ Some x) × (x.serial ≡ q)
  all-rows q e h = ⊎_elim
      (λ z. let f = fits-entry sets s r t (kept i) e fits (sym at-s ∙ ap new (sym z) ∙ h) in (i, f.0, here ∙ f.1, f.2 ∙ sym z))
      (λ ne.
      let g = k.all q e (sym (at_other q ne) ∙ h) in
      let apart : g.0 ≡ i → ⊥ = λ z. ne (sym g.3 ∙ only g.1 (ap (λ c. row rs c) (sym z) ∙ g.2)) in
      (g.0, g.1, off g.0 apart ∙ g.2, g.3))
      (cases_eq q s)

  apart-rows : (a b : ℕ) (x y : Live) → row vs a ≡ Some x → row vs b ≡ Some y → x.serial ≡ y.serial → a ≡ b
  apart-rows a b x y f g e = ⊎_elim
      (λ ea. ⊎_elim (λ eb. ea ∙ sym eb) (λ nb. absurd (nb (mine b y (was b y nb g) (sym e ∙ (mended a x ea f).2)))) (cases_eq b i))
      (λ na. ⊎_elim
      (λ eb. absurd (na (mine a x (was a x na f) (e ∙ (mended b y eb g).2))))
      (λ nb. k.apart a b x y (was a x na f) (was b y nb g) e)
      (cases_eq b i))
      (cases_eq a i)

  young-rows : (j : ℕ) (x : Live) → row vs j ≡ Some x → x.serial < m
  young-rows j x h = ⊎_elim
      (λ e. let f = (mended j x e h).2 in omega arith)
      (λ ne. let f = k.young j x (was j x ne h) in omega arith)
      (cases_eq j i)

  pub one-row : Matched sets new m vs kept
  one-row = record {
    size = ap length rows ∙ length-set rs i r ∙ k.size;
    each = each_row;
    all = all-rows;
    apart = apart-rows;
    young = young-rows;
  }

-- the row of a live session changes
pub live-row : (sets : Settings) (old new : ℕ → Option Entry) (n : ℕ) (rs vs : List (Option Live)) (held kept : ℕ → List ℕ) (i s : ℕ) (x : Live) (r : Option Live) (t : Option Entry) → Matched sets old n rs held → row rs i ≡ Some x → x.serial ≡ s → vs ≡ set rs i r → ((j : ℕ) → (j ≡ i → ⊥) → kept j ≡ held j) → ((q : ℕ) → new q ≡ update eqb old s t q) → Fits sets s r t (kept i) → Matched sets new n vs kept
live-row sets old new n rs vs held kept i s x r t k there e rows others entries fits =
    let lt = row_inside rs i x there in
    let y = k.young i x there in
    one-row sets old new n n rs vs held kept i s r t k (omega (arith, k.size))
    (λ j z h f. k.apart j i z x h there (f ∙ sym e))
    (λ z h. ap (λ a. a.serial) (some_inj z x (sym h ∙ there)) ∙ e)
    rows others entries (omega arith) (omega arith) fits
