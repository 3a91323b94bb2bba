use Rattle.std.proofs.Common.{ℕ, ◌≤◌, List, ⊎_elim, arith}
use Rattle.std.proofs.lemmas.Result.{err_from_is_err_and}
use Rattle.volume.specs.Reads.{Faulty, NoBundle}
use Rattle.volume.specs.declared.bundle.Fault.{Fault}
use Rattle.volume.specs.declared.bundle.Fault.TheVariants.{NameLength, NoEntity, TooFar}
use Rattle.volume.proofs.Trailers.{trailed-long, faulty-none, faulty-only, bad-name, no-entity, too_far, ends_at}
use Rattle.volume.proofs.read.last.Goals as goal

refused : (s : List ℕ) (f : Fault) → Faulty s f → NoBundle s f
refused s f h = record { fault = h; only = λ g k. faulty-only s f g h k; none = faulty-none s f h }

pub returns-in_err-distance : goal.returns-in_err-distance
returns-in_err-distance c =
    let p = err_from_is_err_and c.from_residual.result c.from_residual.ensures.1 in
    rw (p.1, p.2) (refused c.args.bytes.now _ c.in_err-distance.ensures)

pub returns-then-name_len-eq0 : goal.returns-then-name_len-eq0
returns-then-name_len-eq0 c =
    let s = c.args.bytes.now in
    let t = c.in_ok-distance.field-0 in
    let bad : 1 ≤ t.name_len → t.name_len ≤ 128 → ⊥ = λ lo hi. ⊎_elim (λ z. omega arith) (λ w. omega (arith, w.1)) c.then-name_len-eq0.either in
    refused s NameLength (bad-name s t.distance t.name_len c.in_ok-distance.ensures bad)

pub returns-then-distance-name_len : goal.returns-then-distance-name_len
returns-then-distance-name_len c =
    let s = c.args.bytes.now in
    let t = c.in_ok-distance.field-0 in
    let some : 1 ≤ t.name_len = omega (arith, c.if-name_len-eq0.false) in
    refused s NoEntity (no-entity s t.distance t.name_len c.in_ok-distance.ensures some c.if-name_len-gt-LONGEST_NAME.false c.if-distance-name_len.true)

pub overflow_sub-body : goal.overflow_sub-body
overflow_sub-body c = trailed-long c.args.bytes.now _ _ c.in_ok-distance.ensures

pub returns-then-distance-body : goal.returns-then-distance-body
returns-then-distance-body c =
    let s = c.args.bytes.now in
    let t = c.in_ok-distance.field-0 in
    let long = trailed-long s _ _ c.in_ok-distance.ensures in
    let some : 1 ≤ t.name_len = omega (arith, c.if-name_len-eq0.false) in
    refused s TooFar (too_far s t.distance t.name_len c.in_ok-distance.ensures some c.if-name_len-gt-LONGEST_NAME.false c.if-distance-name_len.false (omega (arith, c.if-distance-body.true)))

pub returns : goal.returns
returns c =
    let t = c.in_ok-distance.field-0 in
    let long = trailed-long c.args.bytes.now _ _ c.in_ok-distance.ensures in
    let some : 1 ≤ t.name_len = omega (arith, c.if-name_len-eq0.false) in
    ends_at c.args.bytes.now t.distance t.name_len c.in_ok-distance.ensures some c.if-name_len-gt-LONGEST_NAME.false c.if-distance-name_len.false (omega (arith, c.if-distance-body.false))
