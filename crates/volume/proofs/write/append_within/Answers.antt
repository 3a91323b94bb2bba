use Rattle.std.proofs.Common.{◌≡◌, ◌+◌, ◌-◌, ◌≤◌, leb, ◌++◌, length, take, drop, None, sym, refl, ap, ◌∙◌, subst, arith, length-drop, leb-true}
use lib.Seq.{paste}
use Rattle.std.proofs.lemmas.List.{length-take-le}
use Rattle.volume.specs.Bundles.{trailer}
use Rattle.volume.specs.Writes.{Put, refusal}
use Rattle.volume.proofs.Puts.{Allowed, allowed, put-at, put-pasted, written}
use Rattle.volume.proofs.write.append_within.Goals as goal

pub returns-clause-done : goal.returns-clause-done
returns-clause-done c =
    let region = c.args.region.now in
    let name = c.args.name.now in
    let from = c.args.entity.start in
    let len = c.args.entity.len in
    let base = c.args.volume.start in
    let used = c.args.volume.len in
    let end = c.close-end.result in
    let entity = take len (drop from region) in
    let mid = c.copy_within.new.self in
    let raw : None ≡ refusal c.ends_by-before.result (length region) (base + used) len (length name) = c.in_ok-judge.ensures in
    let verdict : None ≡ refusal (leb (from + len) base) (length region) (base + used) len (length name) = raw ∙ ap (λ t. refusal t (length region) (base + used) len (length name)) c.ends_by-before.ensures in
    let ok = allowed (leb (from + len) base) (length region) (base + used) len (length name) (sym verdict) in
    let before : from + len ≤ base = leb-true (from + len) base ok.lies in
    let there : len ≤ length (drop from region) = omega (arith, length-drop from region, ok.room) in
    let long : length entity ≡ len = length-take-le len (drop from region) there in
    let back : from + len - from ≡ len = omega arith in
    let copied : Put region (base + used) entity mid (base + used + len) =
    subst (λ m. Put region (base + used) entity m (base + used + len)) (sym (c.copy_within.ensures.after ∙ ap (paste region (base + used) (drop from region)) back)) (put-pasted region (drop from region) (base + used) len there) in
    let closed : Put mid (base + used + len) (name ++ trailer (length entity + length name) (length name)) c.close-end.new.region end =
    subst (λ k. Put mid (base + used + len) (name ++ trailer (k + length name) (length name)) c.close-end.new.region end) (sym long) c.close-end.ensures in
    let whole : end ≡ base + (end - base) = omega (arith, c.close-end.ensures.ends) in
    written region mid c.close-end.new.region entity name base used (base + used + len) (end - base) (leb (from + len) base) (omega arith)
    (subst (λ k. Allowed (leb (from + len) base) (length region) (base + used) k (length name)) (sym long) ok) copied (put-at refl whole closed)
