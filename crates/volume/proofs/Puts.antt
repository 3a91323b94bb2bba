-- One stretch written behind another, and a bundle behind a volume.
use Rattle.std.proofs.Common.{◌≡◌, ℕ, ◌+◌, ◌-◌, ◌^◌, ◌<◌, ◌≤◌, Bool, true, false, cond, eqb, ltb, leb, List, [], ◌∷◌, ◌++◌, length, take, drop, Some, None, Option, sym, refl, ap, ◌∙◌, subst₂, append_assoc, zero-add, arith, length-append, length-drop}
use lib.Seq.{paste}
use Rattle.std.proofs.ByRecursion.{All-push}
use Rattle.std.proofs.lemmas.List.{take_at, drop_at, drop-drop, take-append-drop, length-take-le, flat_map_more}
use Rattle.volume.specs.Bundles.{Bundle, bytes_of, trailer, Proper, Volume, newest}
use Rattle.std.proofs.lemmas.Bool.Decides.{nat_tests}
use Rattle.volume.specs.Writes.{Put, Appended, Packed, RoundTrip, volume_in, refusal}
use Rattle.volume.specs.declared.bundle.Refusal.{Refusal}
use Rattle.volume.specs.declared.bundle.Refusal.TheVariants.{EmptyEntity, EmptyName, LongName, Outside, NoRoom}
use Rattle.volume.proofs.Joins.{length-bytes_of}
use Rattle.volume.proofs.Laws.{unique}

pub put-pasted : (p s : List ℕ) (at n : ℕ) → n ≤ length s → Put p at (take n s) (paste p at s n) (at + n)
put-pasted p s at n h = record {
  ends = ap (λ k. at + k) (sym (length-take-le n s h));
  bytes = append_assoc (take at p) (take n s) _;
}

pub put_then : (p q r s t : List ℕ) (at mid end : ℕ) → Put p at s q mid → Put q mid t r end → at ≤ length p → Put p at (s ++ t) r end
put_then p q r s t at mid end f g h =
    let long : length (take at p ++ s) ≡ mid = length-append (take at p) s ∙ omega (arith, length-take-le at p h, f.ends) in
    let whole : q ≡ (take at p ++ s) ++ drop mid p = f.bytes ∙ sym (append_assoc (take at p) s (drop mid p)) in
    let front : take mid q ≡ take at p ++ s = ap (take mid) whole ∙ take_at (take at p ++ s) (drop mid p) mid long in
    let rest : drop mid q ≡ drop mid p = ap (drop mid) whole ∙ drop_at (take at p ++ s) (drop mid p) mid long in
    let past : drop end q ≡ drop end p = ap (λ k. drop k q) g.ends ∙ sym (drop-drop (length t) mid q) ∙ ap (drop (length t)) rest ∙ drop-drop (length t) mid p ∙ ap (λ k. drop k p) (sym g.ends) in
    record {
      ends = omega (arith, f.ends, g.ends, length-append s t);
      bytes =
          g.bytes ∙ (λ i. front i ++ (t ++ past i)) ∙ append_assoc (take at p) s (t ++ drop end p)
          ∙ ap (λ l. take at p ++ l) (sym (append_assoc s t (drop end p)));
    }

module _ (region : List ℕ) (base used : ℕ) (b : Bundle) (after : List ℕ) (end : ℕ) (w : Put region (base + used) (bytes_of b) after (base + end)) (room : base + end ≤ length region) where
  grown : end ≡ used + length (bytes_of b)
  grown = omega (arith, w.ends)

  -- the volume's bytes, and the bundle's behind them
  volume-more : volume_in after base end ≡ volume_in region base used ++ bytes_of b
  volume-more =
      let old = volume_in region base used in
      let lb : length (take base region) ≡ base = length-take-le base region (omega arith) in
      let lo : length old ≡ used = length-take-le used (drop base region) (omega (arith, length-drop base region, grown)) in
      let front : take (base + used) region ≡ take base region ++ old =
      ap (take (base + used)) (sym (take-append-drop base region) ∙ ap (λ l. take base region ++ l) (sym (take-append-drop used (drop base region))) ∙ sym (append_assoc (take base region) old _))
      ∙ take_at (take base region ++ old) _ (base + used) (length-append (take base region) old ∙ omega (arith, lb, lo)) in
      let whole : after ≡ take base region ++ ((old ++ bytes_of b) ++ drop (base + end) region) =
      w.bytes ∙ ap (λ l. l ++ (bytes_of b ++ drop (base + end) region)) front ∙ append_assoc (take base region) old _
      ∙ ap (λ l. take base region ++ l) (sym (append_assoc old (bytes_of b) _)) in
      ap (λ l. take end (drop base l)) whole ∙ ap (take end) (drop_at (take base region) _ base lb)
      ∙ take_at (old ++ bytes_of b) _ end (length-append old (bytes_of b) ∙ omega (arith, lo, grown))

  pub appended : Proper b → Appended region base used b after end
  appended p = record {
    proper = p;
    grows = grown;
    fits = room;
    put = w;
    volume = λ bs v. record {
      each = All-push Proper bs b v.each p;
      is = volume-more ∙ ap (λ l. l ++ bytes_of b) v.is ∙ flat_map_more bytes_of [] bs b;
    };
  }

-- what a verdict of no refusal says
pub record Allowed (before : Bool) (size at entity name : ℕ) : Type 0 where
  pub some : 1 ≤ entity
  pub named : 1 ≤ name
  pub short : name ≤ 128
  pub lies : before ≡ true
  pub room : at + (entity + name + 16) ≤ size

passed : (t : Bool) (x : Refusal) (o : Option Refusal) → cond t (Some x) o ≡ None → (t ≡ false) × (o ≡ None)
passed true x o e = absurd (let z : ◌≡◌ {A = ℕ} 0 1 = cc in omega arith)
passed false x o e = (refl, e)

passed-not : (t : Bool) (x : Refusal) (o : Option Refusal) → cond t o (Some x) ≡ None → (t ≡ true) × (o ≡ None)
passed-not false x o e = absurd (let z : ◌≡◌ {A = ℕ} 0 1 = cc in omega arith)
passed-not true x o e = (refl, e)

pub allowed : (before : Bool) (size at entity name : ℕ) → refusal before size at entity name ≡ None → Allowed before size at entity name
allowed before size at entity name e =
    let p = passed (eqb entity 0) EmptyEntity _ e in
    let q = passed (eqb name 0) EmptyName _ p.1 in
    let r = passed (ltb 128 name) LongName _ q.1 in
    let s = passed-not before Outside _ r.1 in
    let t = passed-not (leb (at + (entity + name + 16)) size) NoRoom _ s.1 in
    record {
      some = grind (arith, nat_tests, p.0);
      named = grind (arith, nat_tests, q.0);
      short = grind (arith, nat_tests, r.0);
      lies = s.0;
      room = grind (arith, nat_tests, t.0);
    }

pub put-at : {p s q : List ℕ} {at at' end end' : ℕ} → at ≡ at' → end ≡ end' → Put p at s q end → Put p at' s q end'
put-at {p} {s} {q} e f w = subst₂ (λ a b. Put p a s q b) e f w

-- entity, name and trailer written one behind the other
pub written : (region mid after entity name : List ℕ) (base used at end : ℕ) (before : Bool) → length region < 2 ^ 64 → Allowed before (length region) (base + used) (length entity) (length name) → Put region (base + used) entity mid at → Put mid at (name ++ trailer (length entity + length name) (length name)) after (base + end) → Appended region base used (record { entity = entity; name = name }) after end
written region mid after entity name base used at end before small a f g =
    let b : Bundle = record { entity = entity; name = name } in
    let w = put_then region mid after entity (name ++ trailer (length entity + length name) (length name)) (base + used) at (base + end) f g (omega (arith, a.room)) in
    appended region base used b after end w (omega (arith, w.ends, length-bytes_of b, a.room))
    (record { some = a.some; named = a.named; short = a.short; fits = omega (arith, a.room) })

put-past : (p s q : List ℕ) (at end : ℕ) → Put p at s q end → end ≤ length p → (drop end q ≡ drop end p) × (length q ≡ length p)
put-past p s q at end w h =
    let la : length (take at p) ≡ at = length-take-le at p (omega (arith, w.ends)) in
    let long : length (take at p ++ s) ≡ end = length-append (take at p) s ∙ omega (arith, la, w.ends) in
    let whole : q ≡ (take at p ++ s) ++ drop end p = w.bytes ∙ sym (append_assoc (take at p) s (drop end p)) in (
      ap (drop end) whole ∙ drop_at (take at p ++ s) (drop end p) end long,
      ap length whole ∙ length-append (take at p ++ s) (drop end p) ∙ omega (arith, long, length-drop end p),
    )

pub packed_none : (region : List ℕ) → Packed region [] region 0
packed_none region = record { fits = omega arith; volume = record { each = tt; is = refl }; rest = refl; same = refl }

pub packed_more : (region : List ℕ) (bs : List Bundle) (mid : List ℕ) (used : ℕ) (b : Bundle) (after : List ℕ) (end : ℕ) → Packed region bs mid used → Appended mid 0 used b after end → Packed region (bs ++ (b ∷ [])) after end
packed_more region bs mid used b after end k a =
    let past = put-past mid (bytes_of b) after (0 + used) end (put-at refl (zero-add end) a.put) (omega (arith, a.fits)) in
    let more : used + (end - used) ≡ end = omega (arith, a.grows) in
    let from : (l : List ℕ) → drop (end - used) (drop used l) ≡ drop end l = λ l. drop-drop (end - used) used l ∙ ap (λ n. drop n l) more in
    record {
      fits = omega (arith, a.fits, k.same);
      volume = a.volume bs k.volume;
      rest = past.0 ∙ sym (from mid) ∙ ap (drop (end - used)) k.rest ∙ from region;
      same = past.1 ∙ k.same;
    }

pub round_trip : (region : List ℕ) (bs : List Bundle) (after : List ℕ) (used : ℕ) → Packed region bs after used → RoundTrip (take used after) bs
round_trip region bs after used k =
    let only : (cs : List Bundle) → Volume (take used after) cs → cs ≡ bs = λ cs v. unique (take used after) cs bs v k.volume in
    record { list = only; newest-of = λ name cs v. ap (newest name) (only cs v) }
