use Rattle.std.proofs.Common.{◌≡◌, ℕ, ◌+◌, ◌-◌, ◌*◌, ◌≤◌, List, ◌++◌, length, take, drop, sym, ap, ◌∙◌, subst, arith}
use Rattle.std.specs.Vec.{with_items}
use Rattle.std.proofs.lemmas.List.{drop-drop, with_items_is}
use Rattle.volume_store.specs.declared.state.VolumeStore.{VolumeStore}
use Rattle.volume_store.specs.Readings.{Holds}
use Rattle.volume_store.specs.State.{length_of, volume_bytes}
use Rattle.volume_store.specs.Store.{items}
use Rattle.volume_store.specs.Stores.{slot-fits, slot-end, length-items, within-set}
use Rattle.volume_store.specs.Windows.{wrote, length-wrote, behind-it}
use Rattle.volume_store.proofs.state.VolumeStore.stage.Goals as goal
use Rattle.volume_store.proofs.state.VolumeStore.stage.Goals.{After-copy_from_slice}

-- the region after the copy
module _ (c : After-copy_from_slice) where
  abbrev s : VolumeStore
  s = c.args.self.now

  abbrev xs : List ℕ
  xs = c.args.bytes.now

  abbrev at : ℕ
  at = c.args.slot * s.capacity + length_of s.lengths c.args.slot

  -- the region `r` with bytes `part` in the place of those that were copied over
  abbrev with : List ℕ → List ℕ → List ℕ
  with r part = take at r ++ (part ++ drop (at + length xs - at) (drop at r))

  abbrev region : List ℕ
  region = with c.deref_mut.result.now c.copy_from_slice.new.self

  fit : at + length xs ≤ length (items s)
  fit = omega (arith, slot-fits s c.args.slot c.requires.slot, c.requires.room)

  after : region ≡ wrote (items s) xs at fit
  after =
      ap (λ (r : List ℕ). with r c.copy_from_slice.new.self) c.deref_mut.ensures.value
      ∙ (ap (with (items s)) c.copy_from_slice.ensures.after
      ∙ ap (λ (rest : List ℕ). take at (items s) ++ (xs ++ rest)) (ap (λ (n : ℕ). drop n (drop at (items s))) (omega arith) ∙ drop-drop (length xs) at (items s)))

  held_by : (with_items s.region region).items ≡ wrote (items s) xs at fit
  held_by = with_items_is s.region region (ap length after ∙ (length-wrote (items s) xs at fit ∙ length-items s)) ∙ after

  volume-kept : volume_bytes (with_items s.region region).items s.capacity s.used ≡ volume_bytes (items s) s.capacity s.used
  volume-kept =
      ap (λ (l : List ℕ). volume_bytes l s.capacity s.used) held_by
      ∙ ap (take s.used) (behind-it (items s) xs at fit (16 * s.capacity) (omega (arith, slot-end s c.args.slot c.requires.slot, c.requires.room)))

pub invariant_of-self-clause-volume : goal.invariant_of-self-clause-volume
invariant_of-self-clause-volume c =
    subst (λ (x : List ℕ). ∥ Holds x ∥₁) (sym (volume-kept (goal.at.invariant_of-self-clause-volume c).After-copy_from_slice)) c.args.self.now.volume

pub invariant_of-self-clause-within : goal.invariant_of-self-clause-within
invariant_of-self-clause-within c =
    let s = c.args.self.now in
    within-set s c.args.slot (length_of s.lengths c.args.slot + length c.args.bytes.now) c.requires.slot c.requires.room
