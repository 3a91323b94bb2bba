use Rattle.std.proofs.Common.{◌≡◌, ℕ, ◌+◌, ◌-◌, List, [], ◌++◌, length, take, drop, replicate, vec_items, vec_len, sym, refl, ap, ◌∙◌, subst, append-nil, zero-add, arith}
use Rattle.std.proofs.ByRecursion.{All-push}
use Rattle.std.proofs.lemmas.List.{take_at, drop_all, flat_map_more}
use Rattle.volume.specs.Bundles.{Bundle, bytes_of, Proper}
use Rattle.volume.specs.Reads.{seen, Counted}
use Rattle.volume.specs.Writes.{Appended}
use Rattle.volume.proofs.Joins.{length-bytes_of}
use Rattle.volume_files.specs.Grown.{size_with, Added}
use Rattle.volume_files.proofs.grow.grown.Goals as goal

-- a bundle behind a volume that fills the rest of its region
behind : (old zeros region after : List ℕ) (b : Bundle) (n end : ℕ) → region ≡ old ++ zeros → length region ≡ size_with old b → Counted old n → Appended region 0 (length old) b after end → Added old b after
behind old zeros region after b n end e long v a =
    let full : 0 + end ≡ length region = omega (arith, a.grows, length-bytes_of b) in
    let bytes : after ≡ old ++ bytes_of b =
    a.put.bytes
    ∙ (λ i. take (zero-add (length old) i) (e i) ++ (bytes_of b ++ drop (full i) region))
    ∙ (λ i. take_at old zeros (length old) refl i ++ (bytes_of b ++ drop_all (length region) region (omega arith) i))
    ∙ ap (λ l. old ++ l) (append-nil (bytes_of b)) in
    record {
      bytes = bytes;
      old = v.bundles;
      was = v.volume;
      is = record { each = All-push Proper v.bundles b v.volume.each a.proper; is = bytes ∙ ap (λ l. l ++ bytes_of b) v.volume.is ∙ flat_map_more bytes_of [] v.bundles b };
    }

pub returns : goal.returns
returns c =
    let old = c.args.old.now in
    let region = c.in_ok-region.region in
    let b = seen c.args.bundle in
    let wide = c.in_ok-region.ensures in
    let lent = c.as_mut_slice.ensures in
    let after = c.append.new.region in
    let long : length after ≡ vec_len region = c.append.auto.region ∙ lent.len in
    let same : take (vec_len region) (after ++ drop (length after) (vec_items region)) ≡ after = take_at after _ (vec_len region) long in
    subst (Added old b) (sym same)
    (behind old (replicate (size_with old b - length old) 0) c.as_mut_slice.result.now after b c.in_ok-check.field-0 c.in_ok-append.field-0 (lent.value ∙ wide.0) (lent.len ∙ wide.1) c.in_ok-check.ensures.exact c.in_ok-append.ensures.done)
