-- One step of a walk: the bytes that it copies either way.
use Rattle.std.proofs.Common.{◌≡◌, ℕ, ◌+◌, ◌-◌, ◌*◌, ◌%◌, ◌<◌, ◌≤◌, List, length, get_or, take, drop, ap, ◌∙◌, subst, arith}
use Rattle.std.specs.declared.ops.Range.{Range}
use borrow.Rule.Slice.PartMut.{put_mid}
use Rattle.page_store.specs.declared.stretch.Stretches.{Stretches}
use Rattle.page_store.specs.declared.table.Table.{Table}
use Rattle.page_store.specs.Bytes.{place, Written}
use Rattle.page_store.specs.Owners.{pages_in, count_in}
use Rattle.page_store.specs.Places.{written_step, read_step}
use Rattle.page_store.specs.Stretches.{Steps}
use Rattle.page_store.specs.Tables.{count-is, pages-of}

module _ (t : Table) (k at len : ℕ) (s : Stretches) (x : Range ℕ × Range ℕ) (u : Stretches) (g : Steps s x u)
    (owned : k < 49) (is-table : s.table.now ≡ t) (is-owner : s.owner ≡ k) (is-start : s.start ≡ at) (is-end : s.end ≡ at + len) where
  abbrev d : ℕ
  d = s.at - at

  abbrev n : ℕ
  n = u.at - s.at

  now : at + d ≡ s.at
  now = omega (arith, s.after)

  there : x.1.start ≡ place (pages_in t k) (at + d)
  there =
      g.place
      ∙ (ap (λ (y : Table). place (pages_in y s.owner) s.at) is-table
      ∙ (ap (λ (y : ℕ). place (pages_in t y) s.at) is-owner
      ∙ ap (λ (y : ℕ). place (pages_in t k) y) (omega (arith, now))))

  fit : (at + d) % 4096 + n ≤ 4096
  fit = subst (λ (y : ℕ). y % 4096 + n ≤ 4096) (omega (arith, now)) g.fit

  room : at + len ≤ 4096 * length (pages_in t k)
  room =
      let c : count_in s.table.now s.owner ≡ count_in t k = ap (λ (y : Table). count_in y s.owner) is-table ∙ ap (λ (y : ℕ). count_in t y) is-owner in
      omega (arith, s.room, count-is t k)

  left : d + n ≤ len
  left = omega (arith, g.left, g.some, now)

  long : x.1.end - x.1.start ≡ n
  long = omega (arith, g.long)

  from : x.0.start ≡ d
  from = omega (arith, g.from)

  part : x.0.end - x.0.start ≡ n
  part = omega (arith, g.from, g.to, g.some, s.after)

  next : d + n ≡ u.at - at
  next = omega (arith, g.some, now)

  pub written-next : (r xs region ys : List ℕ) → length xs ≡ len → length r ≡ 4096 * t.pages → ys ≡ take (x.0.end - x.0.start) (drop x.0.start xs)
      → Written r (pages_in t k) at (take d xs) region → Written r (pages_in t k) at (take (u.at - at) xs) (put_mid x.1.start (x.1.end - x.1.start) region ys)
  written-next r xs region ys l size e w =
      subst (λ (m : ℕ). Written r (pages_in t k) at (take m xs) (put_mid x.1.start (x.1.end - x.1.start) region ys)) next
      (written_step t.pages (pages_in t k) (pages-of t k owned) r xs region at d n x.1.start size (omega (arith, room)) (omega (arith, left)) fit there
      (x.1.end - x.1.start) ys long (e ∙ (ap (λ (m : ℕ). take m (drop x.0.start xs)) part ∙ ap (λ (m : ℕ). take n (drop m xs)) from)) (omega (arith, g.some)) w)

  pub read-next : (r first out ys : List ℕ) → length first ≡ len → length out ≡ len → length r ≡ 4096 * t.pages → ys ≡ take (x.1.end - x.1.start) (drop x.1.start r)
      → ((j : ℕ) → j < d → get_or out j 0 ≡ get_or r (place (pages_in t k) (at + j)) 0)
      → (j : ℕ) → j < u.at - at → get_or (put_mid x.0.start (x.0.end - x.0.start) out ys) j 0 ≡ get_or r (place (pages_in t k) (at + j)) 0
  read-next r first out ys l lo size e before j h =
      ap (λ (m : ℕ). get_or (put_mid m (x.0.end - x.0.start) out ys) j 0) from
      ∙ read_step t.pages (pages_in t k) (pages-of t k owned) r first first at d n x.1.start size (omega (arith, room)) (omega (arith, left)) fit there
      (x.0.end - x.0.start) ys out part (e ∙ ap (λ (m : ℕ). take m (drop x.1.start r)) long) (omega (arith, g.some)) (omega (arith, left)) before j (omega (arith, next))
