use Rattle.std.proofs.Common.{◌≡◌, ◌+◌, true, [], map, length, get_or, take, Ok, Err, Result, MatchResult, IsErrAnd, rules, sym, refl, ◌∙◌, subst, subst₂, arith}
use Rattle.std.proofs.lemmas.List.{length-map, map_more, take-map, take_all, get_or-map}
use Rattle.std.proofs.lemmas.Result.{err_from_is_err_and}
use Rattle.volume.specs.Reads.{seen}
use Rattle.volume.specs.Lists.{blank}
use Rattle.volume.specs.Writes.{Packed, refusal}
use Rattle.volume.specs.declared.bundle.BundleRef.{BundleRef}
use Rattle.volume.proofs.Puts.{packed_none, packed_more, round_trip}
use Rattle.volume.proofs.whole.write_all.Goals as goal

-- the value of an element that is not there
default : BundleRef
default = record { name = record { ref_ptr = (0, 0); now = [] }; entity = record { ref_ptr = (0, 0); now = [] } }

-- what `map_err` was called on
module _ {T E D : Type 0} (Q : E → D → Type 0) (r : Result T E) (m : Result T D) (h : MatchResult r (λ x. m ≡ Ok x) (λ e. IsErrAnd m (Q e))) where
  was_ok : (v : T) → m ≡ Ok v → r ≡ Ok v
  was_ok v e = elim r as (λ q. MatchResult q (λ x. m ≡ Ok x) (λ e. IsErrAnd m (Q e)) → q ≡ Ok v) [ Ok x ↦ (λ k. cc) | Err y ↦ (λ k. absurd (rw e at k)) ] h

  was_err : (d : D) → m ≡ Err d → (e : E) × (r ≡ Err e) × Q e d
  was_err d e = elim r as (λ q. MatchResult q (λ x. m ≡ Ok x) (λ e. IsErrAnd m (Q e)) → (e : E) × (q ≡ Err e) × Q e d) [ Ok x ↦ (λ k. cc) | Err y ↦ (λ k. (y, refl, rw e at k)) ] h

pub loop-index-init : goal.loop-index-init
loop-index-init c = packed_none c.args.region.now

pub loop-index-preserved : goal.loop-index-preserved
unfolding default
loop-index-preserved c =
    let i = c.loop-index.index-counter in
    let bs = c.args.bundles.now in
    let done = rw (was_ok _ c.append.result c.map_err.result c.map_err.ensures.cases c.in_ok-used.used c.in_ok-used.was) at c.append.ensures.done in
    subst (λ l. Packed c.args.region.now l c.append.new.region c.in_ok-used.used) (sym (map_more seen bs i default c.loop-index-test.true))
    (packed_more c.args.region.now (map seen (take i bs)) c.loop-index.region c.loop-index.used (seen (get_or bs i default)) c.append.new.region c.in_ok-used.used c.loop-index.invariant done)

pub returns-in_err-used : goal.returns-in_err-used
unfolding default
returns-in_err-used c =
    let i = c.loop-index.index-counter in
    let bs = c.args.bundles.now in
    let region = c.args.region.now in
    let used = c.loop-index.used in
    let e = err_from_is_err_and c.from_residual.result c.from_residual.ensures.1 in
    let q = was_err _ c.append.result c.map_err.result c.map_err.ensures.cases c.in_err-used.field-0.0 c.in_err-used.was in
    let done = rw q.1 at c.append.ensures.done in
    let verdict = rw q.1 at c.append.ensures.verdict in
    let same : seen (get_or bs i default) ≡ get_or (map seen bs) i blank = sym (get_or-map seen bs i default blank c.loop-index-test.true) in
    let is : c.in_err-used.field-0.0 ≡ record { index = i; refusal = q.0 } = search (rules, q.2) in
    rw (e.1, e.2, is) (record {
      inside = omega (arith, c.loop-index-test.true, length-map bs seen);
      used = used;
      packed = subst₂ (λ l m. Packed region l m used) (sym (take-map seen i bs)) (sym done) c.loop-index.invariant;
      refused = sym (verdict ∙ (λ k. refusal true (c.loop-index.invariant.same k) (0 + used) (length (same k).entity) (length (same k).name)));
    })

pub returns : goal.returns
returns c =
    let bs = c.args.bundles.now in
    let all : take c.loop-index.index-counter bs ≡ bs = take_all c.loop-index.index-counter bs (omega (arith, c.loop-index-test.false)) in
    let packed : Packed c.args.region.now (map seen bs) c.loop-index.region c.loop-index.used = subst (λ l. Packed c.args.region.now (map seen l) c.loop-index.region c.loop-index.used) all c.loop-index.invariant in
    record { packed = packed; back = round_trip c.args.region.now (map seen bs) c.loop-index.region c.loop-index.used packed }
