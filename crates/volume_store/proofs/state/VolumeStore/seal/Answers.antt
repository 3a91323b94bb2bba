use Rattle.std.proofs.Common.{Some, None, ◌≡◌, ℕ, ◌*◌, List, [], ◌∷◌, ◌++◌, length, take, drop, sym, refl, ap, ◌∙◌, subst, arith}
use Rattle.std.specs.Vec.{with_items}
use Rattle.std.proofs.lemmas.List.{with_items_is}
use Rattle.volume.specs.Bundles.{Bundle, Volume}
use Rattle.volume.specs.Writes.{Appended}
use Rattle.volume_store.specs.declared.state.VolumeStore.{VolumeStore}
use Rattle.volume_store.specs.Readings.{Holds, reading}
use Rattle.volume_store.specs.State.{length_of, volume_bytes}
use Rattle.volume_store.specs.Store.{items, volume_of, bundles, slot_bytes}
use Rattle.volume_store.specs.Stores.{within-set, length-items, publishing-is, not-refused}
use Rattle.volume_store.proofs.state.VolumeStore.seal.Goals as goal
use Rattle.volume_store.proofs.state.VolumeStore.seal.Goals.{In-Ok}

module _ (c : In-Ok) where
  abbrev s : VolumeStore
  s = c.args.self.now

  abbrev bundle : Bundle
  bundle = record { entity = slot_bytes s c.args.slot; name = c.args.name.now }

  appended : Appended (items s) (16 * s.capacity) s.used bundle c.append_within.new.region c.in-Ok.end
  appended =
      subst (λ (l : List ℕ). Appended l (16 * s.capacity) s.used (record { entity = take (length_of s.lengths c.args.slot) (drop (c.args.slot * s.capacity) l); name = c.args.name.now }) c.append_within.new.region c.in-Ok.end)
      c.deref_mut.ensures.value c.in-Ok.ensures.done

  held_by : (with_items s.region c.append_within.new.region).items ≡ c.append_within.new.region
  held_by = with_items_is s.region c.append_within.new.region (c.append_within.auto.region ∙ (ap length c.deref_mut.ensures.value ∙ length-items s))

  holds : ∥ Holds (volume_bytes (with_items s.region c.append_within.new.region).items s.capacity c.in-Ok.end) ∥₁
  holds =
      ∣ (
        bundles s ++ (bundle ∷ []),
        subst (λ (l : List ℕ). Volume (volume_bytes l s.capacity c.in-Ok.end) (bundles s ++ (bundle ∷ []))) (sym held_by)
            (appended.volume (bundles s) (reading (volume_of s) s.volume).1),
      ) ∣₁

pub invariant_of-self-clause-fits : goal.invariant_of-self-clause-fits
invariant_of-self-clause-fits c = omega (arith, (appended (goal.at.invariant_of-self-clause-fits c).In-Ok).fits, length-items c.args.self.now)

pub invariant_of-self-clause-volume : goal.invariant_of-self-clause-volume
invariant_of-self-clause-volume c = holds (goal.at.invariant_of-self-clause-volume c).In-Ok

pub unreachable-requires : goal.unreachable-requires
unreachable-requires c =
    let s = c.args.self.now in
    let e : Some c.in_default.field-0 ≡ None =
    c.in_default.ensures.verdict ∙ not-refused s c.args.slot c.args.name.now (length c.deref_mut.result.now) c.requires (ap length c.deref_mut.ensures.value ∙ length-items s) in
    cc

pub returns : goal.returns
returns c =
    let s = c.args.self.now in
    let o = (goal.at.returns c).In-Ok in
    publishing-is s _ c.args.slot c.args.name.now c.append_within.new.region (held_by o) refl refl (appended o)

pub invariant_of-self-clause-within : goal.invariant_of-self-clause-within
invariant_of-self-clause-within c = within-set c.args.self.now c.args.slot 0 c.requires.slot (omega arith)
