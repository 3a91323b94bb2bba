-- What a volume store's changes do to its meaning.
use Rattle.std.specs.Prelude.{◌≡◌, ℕ, ◌+◌, ◌-◌, ◌*◌, ◌^◌, ◌<◌, ◌≤◌, Bool, true, false, cond, ◌&&◌, ltb, leb, List, [], ◌∷◌, ◌++◌, length, take, drop, set, Some, None, vec_items, vec_len, Option, ◌==◌, ◌≢◌, nat_le, nat_lt, slice_index, slice_set, refl}
use Rattle.std.proofs.Common.{sym, ap, subst, ◌∙◌, ⊎_elim, arith, add-zero, get_or-set_same, get_or-set_other}
use Rattle.std.specs.Str.{bytes_eq}
use Rattle.std.proofs.lemmas.Slice.Eq.{bytes_eq-Decides}
use Rattle.std.proofs.lemmas.Bool.{cond-true, cond-false, lt-ltb, le-ltb, ltb-true, le-leb, leb-true, ne_eqb, and_left, and_right, and_parts, cases_lt, cases_eq, cases_Bool}
use Rattle.std.proofs.lemmas.List.{append-nil, take-append-drop, length-take-le, length-drop, set-get_or}
use Rattle.store.specs.Meaning.{Added, Cleared, Published, nameable}
use Rattle.volume.specs.Bundles.{Bundle, Volume, newest, later, bytes_of}
use Rattle.volume.specs.Writes.{Appended, refusal}
use Rattle.volume.specs.declared.bundle.Refusal.{Refusal}
use Rattle.volume.specs.declared.bundle.Refusal.TheVariants.{EmptyEntity, EmptyName, LongName, Outside, NoRoom}
use Rattle.volume.proofs.Laws.{unique}
use Rattle.volume_store.specs.declared.state.VolumeStore.{VolumeStore}
use Rattle.volume_store.specs.Readings.{Holds, reading}
use Rattle.volume_store.specs.State.{length_of, volume_bytes, Within}
use Rattle.volume_store.specs.Store.{items, volume_of, bundles, slot_bytes, entity_of, fits_under, Can, meaning_of, Adding, Clearing, Publishing}
use Rattle.volume_store.specs.Windows.{wrote, before-it, behind-it, grown-by-it, area}

pub length-items : (s : VolumeStore) → length (items s) ≡ vec_len s.region
length-items s = sym s.region.ok.0

pub slot-end : (s : VolumeStore) (k : ℕ) → k < 16 → k * s.capacity + s.capacity ≤ 16 * s.capacity
slot-end s k h = area k 16 s.capacity h

pub slot-fits : (s : VolumeStore) (k : ℕ) → k < 16 → k * s.capacity + s.capacity ≤ length (items s)
slot-fits s k h = omega (arith, slot-end s k h, length-items s, s.fits)

pub length-slot : (s : VolumeStore) (k : ℕ) → k < 16 → length (slot_bytes s k) ≡ length_of s.lengths k
length-slot s k h = length-take-le (length_of s.lengths k) (drop (k * s.capacity) (items s)) (omega (arith, length-drop (k * s.capacity) (items s), slot-fits s k h, s.within k))

pub held_in : (s : VolumeStore) (k : ℕ) → k < 16 → (meaning_of s).held k ≡ slot_bytes s k
held_in s k h = cond-true (nat_lt k 16) (slot_bytes s k) [] (lt-ltb k 16 h)

pub held_out : (s : VolumeStore) (k : ℕ) → 16 ≤ k → (meaning_of s).held k ≡ []
held_out s k h = cond-false (nat_lt k 16) (slot_bytes s k) [] (le-ltb k 16 h)

pub room_in : (s : VolumeStore) (k : ℕ) → k < 16 → (meaning_of s).room k ≡ s.capacity - length_of s.lengths k
room_in s k h = cond-true (nat_lt k 16) (s.capacity - length_of s.lengths k) 0 (lt-ltb k 16 h)

pub room_out : (s : VolumeStore) (k : ℕ) → 16 ≤ k → (meaning_of s).room k ≡ 0
room_out s k h = cond-false (nat_lt k 16) (s.capacity - length_of s.lengths k) 0 (le-ltb k 16 h)

pub law-fits : (s : VolumeStore) (k : ℕ) → length ((meaning_of s).held k) + (meaning_of s).room k < 2 ^ 64
law-fits s k =
    ⊎_elim
    (λ h. let a : length ((meaning_of s).held k) ≡ length_of s.lengths k = ap length (held_in s k h) ∙ length-slot s k h in
    let b = room_in s k h in
    let w : length_of s.lengths k ≤ s.capacity = s.within k in
    omega (arith, s.fits, s.region.small))
    (λ h. let a : length ((meaning_of s).held k) ≡ 0 = ap length (held_out s k h) in
    let b : (meaning_of s).room k ≡ 0 = room_out s k h in
    omega arith)
    (cases_lt k 16)

abbrev pub rest_of : VolumeStore → ℕ → List ℕ → Bool
rest_of s k n = nat_le (16 * s.capacity + s.used + (length_of s.lengths k + length n + 16)) (vec_len s.region)

pub law-unfilled : (s : VolumeStore) (k : ℕ) (n : List ℕ) → (meaning_of s).held k ≡ [] → fits_under s k n ≡ false
law-unfilled s k n e =
    let full : Bool = nat_lt k 16 && ltb 0 (length_of s.lengths k) in
    and_right (nameable n) (full && rest_of s k n)
    (and_left full (rest_of s k n)
    (⊎_elim
    (λ h. let z : length_of s.lengths k ≡ 0 = sym (length-slot s k h) ∙ ap length (sym (held_in s k h) ∙ e) in
    and_right (nat_lt k 16) (nat_lt 0 (length_of s.lengths k)) (le-ltb 0 (length_of s.lengths k) (omega arith)))
    (λ h. and_left (nat_lt k 16) (nat_lt 0 (length_of s.lengths k)) (le-ltb k 16 h))
    (cases_lt k 16)))

pub law-unnamed : (s : VolumeStore) (k : ℕ) (n : List ℕ) → nameable n ≡ false → fits_under s k n ≡ false
law-unnamed s k n e = and_left (nameable n) ((nat_lt k 16 && nat_lt 0 (length_of s.lengths k)) && rest_of s k n) e

pub can-parts : (s : VolumeStore) (k : ℕ) (n : List ℕ) → fits_under s k n ≡ true → Can s k n
can-parts s k n e =
    let full : Bool = nat_lt k 16 && ltb 0 (length_of s.lengths k) in
    let a = and_parts (nameable n) (full && rest_of s k n) e in
    let b = and_parts full (rest_of s k n) a.1 in
    let c = and_parts (nat_lt k 16) (nat_lt 0 (length_of s.lengths k)) b.0 in
    record {
      named = a.0;
      slot = ltb-true k 16 c.0;
      some = ltb-true 0 (length_of s.lengths k) c.1;
      room = leb-true (16 * s.capacity + s.used + (length_of s.lengths k + length n + 16)) (vec_len s.region) b.1;
    }

-- the bundles are those of any reading
pub reading-is : (s : List ℕ) (h : ∥ Holds s ∥₁) (bs : List Bundle) → Volume s bs → (reading s h).0 ≡ bs
reading-is s h bs v = unique s (reading s h).0 bs (reading s h).1 v

pub bundles-same : (s t : VolumeStore) → volume_of t ≡ volume_of s → bundles t ≡ bundles s
bundles-same s t e =
    reading-is (volume_of t) t.volume (bundles s) (subst (λ (x : List ℕ). Volume x (bundles s)) (sym e) (reading (volume_of s) s.volume).1)

pub held_same : (s t : VolumeStore) (k : ℕ) → (k < 16 → slot_bytes t k ≡ slot_bytes s k) → (meaning_of t).held k ≡ (meaning_of s).held k
held_same s t k same =
    ⊎_elim (λ h. held_in t k h ∙ (same h ∙ sym (held_in s k h))) (λ h. held_out t k h ∙ sym (held_out s k h)) (cases_lt k 16)

-- a slot's bytes where the region and the slot's length are known
pub slot_is : (s t : VolumeStore) (l : List ℕ) (j n : ℕ) → t.capacity ≡ s.capacity → items t ≡ l → length_of t.lengths j ≡ n → slot_bytes t j ≡ take n (drop (j * s.capacity) l)
slot_is s t l j n c r e =
    ap (λ (m : ℕ). take m (drop (j * t.capacity) (items t))) e
    ∙ (ap (λ (m : ℕ). take n (drop (j * m) (items t))) c ∙ ap (λ (x : List ℕ). take n (drop (j * s.capacity) x)) r)

module _ (s t : VolumeStore) (k : ℕ) (xs : List ℕ) (a : Adding s k xs t) (h : k < 16) where
  abbrev at : ℕ
  at = k * s.capacity + length_of s.lengths k

  len-now : length_of t.lengths k ≡ length_of s.lengths k + length xs
  len-now = ap (λ (l : List ℕ). slice_index l k) a.lengths ∙ get_or-set_same s.lengths k (length_of s.lengths k + length xs) 0 (omega (arith, s.held))

  len-other : (j : ℕ) → (j ≢ k) → length_of t.lengths j ≡ length_of s.lengths j
  len-other j ne = ap (λ (l : List ℕ). slice_index l j) a.lengths ∙ get_or-set_other s.lengths k j (length_of s.lengths k + length xs) 0 ne

  small : length_of s.lengths k + length xs ≤ s.capacity
  small = omega (arith, len-now, t.within k, a.capacity)

  fit : at + length xs ≤ length (items s)
  fit = omega (arith, small, slot-fits s k h)

  kept : (j : ℕ) → j < 16 → (j ≢ k) → slot_bytes t j ≡ slot_bytes s j
  kept j hj ne =
      slot_is s t (wrote (items s) xs at fit) j (length_of s.lengths j) a.capacity a.region (len-other j ne)
      ∙ ⊎_elim
      (λ lt. before-it (items s) xs at fit (j * s.capacity) (length_of s.lengths j) (omega (arith, area j k s.capacity lt, s.within j)))
      (λ ge. ap (take (length_of s.lengths j)) (behind-it (items s) xs at fit (j * s.capacity) (omega (arith, area k j s.capacity (omega arith), small))))
      (cases_lt j k)

  same-volume : volume_of t ≡ volume_of s
  same-volume =
      ap (λ (u : ℕ). volume_bytes (items t) t.capacity u) a.used
      ∙ (ap (λ (c : ℕ). volume_bytes (items t) c s.used) a.capacity
      ∙ (ap (λ (l : List ℕ). volume_bytes l s.capacity s.used) a.region
      ∙ ap (take s.used) (behind-it (items s) xs at fit (16 * s.capacity) (omega (arith, small, slot-end s k h)))))

  pub added : Added (meaning_of s) k xs (meaning_of t)
  added = record {
    grown = held_in t k h ∙ (slot_is s t (wrote (items s) xs at fit) k (length_of s.lengths k + length xs) a.capacity a.region len-now
        ∙ (grown-by-it (items s) xs at fit (k * s.capacity) (length_of s.lengths k) refl ∙ ap (λ (x : List ℕ). x ++ xs) (sym (held_in s k h))));
    falls = omega (arith, room_in t k h, room_in s k h, len-now, small, a.capacity);
    others = λ j ne. held_same s t j (λ hj. kept j hj ne);
    rooms = λ j ne. ⊎_elim
        (λ hj. omega (arith, room_in t j hj, room_in s j hj, len-other j ne, a.capacity))
        (λ hj. omega (arith, room_out t j hj, room_out s j hj))
        (cases_lt j 16);
    names = λ n. ap (λ (bs : List Bundle). entity_of (newest n bs)) (bundles-same s t same-volume);
  }

pub added_none : (s : VolumeStore) (k : ℕ) → Added (meaning_of s) k [] (meaning_of s)
added_none s k = record {
  grown = sym (append-nil ((meaning_of s).held k));
  falls = add-zero ((meaning_of s).room k);
  others = λ j ne. refl;
  rooms = λ j ne. omega arith;
  names = λ n. refl;
}

pub adding-none : (s : VolumeStore) (k : ℕ) → Adding s k [] s
adding-none s k =
    let at : ℕ = k * s.capacity + length_of s.lengths k in
    record {
      region = sym (ap (λ (x : ℕ). take at (items s) ++ drop x (items s)) (add-zero at) ∙ take-append-drop at (items s));
      lengths = sym (ap (set s.lengths k) (add-zero (length_of s.lengths k)) ∙ set-get_or s.lengths k 0);
      capacity = refl;
      used = refl;
    }

module _ (s t : VolumeStore) (k : ℕ) (a : Clearing s k t) (h : k < 16) where
  cleared-len : length_of t.lengths k ≡ 0
  cleared-len = ap (λ (l : List ℕ). slice_index l k) a.lengths ∙ get_or-set_same s.lengths k 0 0 (omega (arith, s.held))

  cleared-other : (j : ℕ) → (j ≢ k) → length_of t.lengths j ≡ length_of s.lengths j
  cleared-other j ne = ap (λ (l : List ℕ). slice_index l j) a.lengths ∙ get_or-set_other s.lengths k j 0 0 ne

  cleared-volume : volume_of t ≡ volume_of s
  cleared-volume =
      ap (λ (u : ℕ). volume_bytes (items t) t.capacity u) a.used
      ∙ (ap (λ (c : ℕ). volume_bytes (items t) c s.used) a.capacity ∙ ap (λ (l : List ℕ). volume_bytes l s.capacity s.used) (ap vec_items a.region))

  pub cleared : Cleared (meaning_of s) k (meaning_of t)
  cleared = record {
    emptied = held_in t k h ∙ ap (λ (n : ℕ). take n (drop (k * t.capacity) (items t))) cleared-len;
    rises =
        let l : length ((meaning_of s).held k) ≡ length_of s.lengths k = ap length (held_in s k h) ∙ length-slot s k h in
        omega (arith, room_in t k h, room_in s k h, cleared-len, s.within k, a.capacity);
    others = λ j ne. held_same s t j (λ hj. slot_is s t (items s) j (length_of s.lengths j) a.capacity (ap vec_items a.region) (cleared-other j ne));
    rooms = λ j ne. ⊎_elim
        (λ hj. omega (arith, room_in t j hj, room_in s j hj, cleared-other j ne, a.capacity))
        (λ hj. omega (arith, room_out t j hj, room_out s j hj))
        (cases_lt j 16);
    names = λ n. ap (λ (bs : List Bundle). entity_of (newest n bs)) (bundles-same s t cleared-volume);
  }

pub cleared-none : (s : VolumeStore) (k : ℕ) → 16 ≤ k → Cleared (meaning_of s) k (meaning_of s)
cleared-none s k h = record {
  emptied = held_out s k h;
  rises = let l : length ((meaning_of s).held k) ≡ 0 = ap length (held_out s k h) in omega arith;
  others = λ j ne. refl;
  rooms = λ j ne. omega arith;
  names = λ n. refl;
}

both : {A : Type 0} (b : Bool) (x : A) → cond b x x ≡ x
both true x = refl
both false x = refl

-- the newest of a name after one bundle more
pub newest-push : (n : List ℕ) (bs : List Bundle) (b : Bundle) → newest n (bs ++ (b ∷ [])) ≡ cond (bytes_eq b.name n) (Some b) (newest n bs)
newest-push n [] b = refl
newest-push n (x ∷ bs) b =
    ⊎_elim
    (λ t. let e : newest n (bs ++ (b ∷ [])) ≡ Some b = newest-push n bs b ∙ cond-true (bytes_eq b.name n) (Some b) (newest n bs) t in
    ap (λ (o : Option Bundle). cond (bytes_eq x.name n) (later o x) o) e
    ∙ (both (bytes_eq x.name n) (Some b) ∙ sym (cond-true (bytes_eq b.name n) (Some b) (newest n (x ∷ bs)) t)))
    (λ f. let e : newest n (bs ++ (b ∷ [])) ≡ newest n bs = newest-push n bs b ∙ cond-false (bytes_eq b.name n) (Some b) (newest n bs) f in
    ap (λ (o : Option Bundle). cond (bytes_eq x.name n) (later o x) o) e ∙ sym (cond-false (bytes_eq b.name n) (Some b) (newest n (x ∷ bs)) f))
    (cases_Bool (bytes_eq b.name n))

module _ (s t : VolumeStore) (k : ℕ) (n : List ℕ) (a : Publishing s k n t) (c : Can s k n) where
  abbrev bundle : Bundle
  bundle = record { entity = slot_bytes s k; name = n }

  spent : length_of t.lengths k ≡ 0
  spent = ap (λ (l : List ℕ). slice_index l k) a.lengths ∙ get_or-set_same s.lengths k 0 0 (omega (arith, s.held, c.slot))

  unspent : (j : ℕ) → (j ≢ k) → length_of t.lengths j ≡ length_of s.lengths j
  unspent j ne = ap (λ (l : List ℕ). slice_index l j) a.lengths ∙ get_or-set_other s.lengths k j 0 0 ne

  abbrev end : ℕ
  end = 16 * s.capacity + s.used

  room : end + length (bytes_of bundle) ≤ length (items s)
  room = omega (arith, a.region.fits, a.region.grows)

  written : items t ≡ wrote (items s) (bytes_of bundle) end room
  written =
      a.region.put.bytes
      ∙ ap (λ (x : ℕ). take end (items s) ++ (bytes_of bundle ++ drop x (items s))) a.region.put.ends

  pub published : Published (meaning_of s) k n (meaning_of t)
  published = record {
    stored =
        ap (λ (bs : List Bundle). entity_of (newest n bs)) a.read
        ∙ (ap entity_of (newest-push n (bundles s) bundle ∙ cond-true (bytes_eq n n) (Some bundle) (newest n (bundles s)) ((bytes_eq-Decides n n).1 refl))
        ∙ ap Some (sym (held_in s k c.slot)));
    emptied = held_in t k c.slot ∙ ap (λ (m : ℕ). take m (drop (k * t.capacity) (items t))) spent;
    others = λ j ne. held_same s t j (λ hj.
        slot_is s t (wrote (items s) (bytes_of bundle) end room) j (length_of s.lengths j) a.capacity written (unspent j ne)
        ∙ before-it (items s) (bytes_of bundle) end room (j * s.capacity) (length_of s.lengths j) (omega (arith, slot-end s j hj, s.within j)));
    names = λ m ne.
        ap (λ (bs : List Bundle). entity_of (newest m bs)) a.read
        ∙ ap entity_of (newest-push m (bundles s) bundle
        ∙ cond-false (bytes_eq n m) (Some bundle) (newest m (bundles s)) (⊎_elim (λ t. absurd (ne (sym ((bytes_eq-Decides n m).0 t)))) (λ f. f) (cases_Bool (bytes_eq n m))));
  }

-- what the append leaves, as an account
pub publishing-is : (s t : VolumeStore) (k : ℕ) (n l : List ℕ) → items t ≡ l → t.lengths ≡ slice_set s.lengths k 0 → t.capacity ≡ s.capacity
    → Appended (items s) (16 * s.capacity) s.used (record { entity = slot_bytes s k; name = n }) l t.used → Publishing s k n t
publishing-is s t k n l r e c p = record {
  region = subst (λ (x : List ℕ). Appended (items s) (16 * s.capacity) s.used (record { entity = slot_bytes s k; name = n }) x t.used) (sym r) p;
  lengths = e;
  capacity = c;
  read = reading-is (volume_of t) t.volume (bundles s ++ (record { entity = slot_bytes s k; name = n } ∷ []))
      (subst (λ (x : List ℕ). Volume x (bundles s ++ (record { entity = slot_bytes s k; name = n } ∷ [])))
      (sym (ap (λ (m : ℕ). volume_bytes (items t) m t.used) c ∙ ap (λ (x : List ℕ). volume_bytes x s.capacity t.used) r))
      (p.volume (bundles s) (reading (volume_of s) s.volume).1));
}

-- a bundle that fits is not refused
pub not-refused : (s : VolumeStore) (k : ℕ) (n : List ℕ) (size : ℕ) → Can s k n → size ≡ vec_len s.region
    → refusal (nat_le (k * s.capacity + length_of s.lengths k) (16 * s.capacity)) size (16 * s.capacity + s.used) (length_of s.lengths k) (length n) ≡ None
not-refused s k n size c e =
    let l : ℕ = length_of s.lengths k in
    let names = and_parts (nat_le 1 (length n)) (nat_le (length n) 128) c.named in
    let some : 1 ≤ length n = leb-true 1 (length n) names.0 in
    let short : length n ≤ 128 = leb-true (length n) 128 names.1 in
    let before : leb (k * s.capacity + l) (16 * s.capacity) ≡ true = le-leb (k * s.capacity + l) (16 * s.capacity) (omega (arith, slot-end s k c.slot, s.within k)) in
    let full : leb (16 * s.capacity + s.used + (l + length n + 16)) size ≡ true = le-leb (16 * s.capacity + s.used + (l + length n + 16)) size (omega (arith, c.room)) in
    let inner : Option Refusal = cond (nat_le (16 * s.capacity + s.used + (l + length n + 16)) size) None (Some NoRoom) in
    let third : Option Refusal = cond (nat_le (k * s.capacity + l) (16 * s.capacity)) inner (Some Outside) in
    let second : Option Refusal = cond (nat_lt 128 (length n)) (Some LongName) third in
    let first : Option Refusal = cond (length n == 0) (Some EmptyName) second in
    cond-false (l == 0) (Some EmptyEntity) first (ne_eqb l 0 (omega (arith, c.some)))
    ∙ (cond-false (length n == 0) (Some EmptyName) second (ne_eqb (length n) 0 (omega arith))
    ∙ (cond-false (nat_lt 128 (length n)) (Some LongName) third (le-ltb 128 (length n) short)
    ∙ (cond-true (nat_le (k * s.capacity + l) (16 * s.capacity)) inner (Some Outside) before
    ∙ cond-true (nat_le (16 * s.capacity + s.used + (l + length n + 16)) size) None (Some NoRoom) full)))

pub within-set : (s : VolumeStore) (k v : ℕ) → k < 16 → v ≤ s.capacity → Within s.capacity (slice_set s.lengths k v)
within-set s k v h le j =
    ⊎_elim
    (λ e. subst (λ (x : ℕ). length_of (slice_set s.lengths k v) x ≤ s.capacity) (sym e) (omega (arith, get_or-set_same s.lengths k v 0 (omega (arith, s.held)))))
    (λ ne. omega (arith, get_or-set_other s.lengths k j v 0 ne, s.within j))
    (cases_eq j k)
