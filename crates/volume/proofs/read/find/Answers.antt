use Rattle.std.proofs.Common.{◌∷◌, Some, sym, ap, ◌∙◌}
use Rattle.std.proofs.lemmas.Bool.{true≢false}
use Rattle.std.proofs.lemmas.Bool.Decides.{Decides-eqb}
use Rattle.std.proofs.lemmas.Result.{err_from_is_err_and}
use Rattle.std.proofs.lemmas.Slice.Eq.{slice_eq-Decides}
use Rattle.volume.specs.Bundles.{newest}
use Rattle.volume.specs.Reads.{placed}
use Rattle.volume.proofs.Laws.{unique}
use Rattle.volume.proofs.Walks.{walked-whole, walked_more, tail_more, stopped, stopped_none, newest-none, newest-tail}
use Rattle.volume.proofs.read.find.Goals as goal

pub loop-found-preserved : goal.loop-found-preserved
loop-found-preserved c =
    let i = c.loop-found.invariant in
    let p = placed c.in_ok-found.found in
    let s = rw c.in_ok-found.was at c.in-Some.ensures.steps in
    let other = slice_eq-Decides Decides-eqb p.bundle.name c.args.name.now c.eq.result c.eq.ensures in (
      p.bundle ∷ i.0,
      walked_more c.loop-found.found-iterator.left.now c.next.new.self.left.now p s.0 s.1 c.args.bytes.now i.0 i.1,
      (λ e. true≢false (sym (other.1 e) ∙ c.if-eq.false), i.2),
    )

pub returns-then-eq : goal.returns-then-eq
returns-then-eq c =
    let i = c.loop-found.invariant in
    let p = placed c.in_ok-found.found in
    let s = rw c.in_ok-found.was at c.in-Some.ensures.steps in
    let named = (slice_eq-Decides Decides-eqb p.bundle.name c.args.name.now c.eq.result c.eq.ensures).0 c.if-eq.true in
    let tail = tail_more c.loop-found.found-iterator.left.now c.next.new.self.left.now p s.0 s.1 c.args.bytes.now i.0 i.1 in
    record {
      searched = record { rest = i.0; tail = tail; named = named; without = i.2 };
      newest = λ bs v. ap Some (sym (newest-tail c.args.bytes.now c.args.name.now bs p.at p.bundle i.0 v tail named i.2));
    }

pub returns-in_err-found : goal.returns-in_err-found
returns-in_err-found c =
    let i = c.loop-found.invariant in
    let e = err_from_is_err_and c.from_residual.result c.from_residual.ensures.1 in
    let s = rw c.in_err-found.was at c.in-Some.ensures.steps in
    let stop = stopped c.args.bytes.now c.loop-found.found-iterator.left.now i.0 c.in_err-found.field-0.0 i.1 s.0 s.1 s.2.fault in
    rw (e.1, e.2) (record {
      searched = record { rest = i.0; stops = stop; without = i.2 };
      newest = λ bs v. absurd (stopped_none c.args.bytes.now c.in_err-found.field-0.0 i.0 stop bs v);
    })

pub returns-clause-newest : goal.returns-clause-newest
returns-clause-newest c =
    let i = c.loop-found.invariant in
    let s = c.in-None.ensures.steps in
    let whole = walked-whole c.args.bytes.now c.loop-found.found-iterator.left.now i.0 i.1 s.0 in
    λ bs v. ap Some (sym (ap (newest c.args.name.now) (unique c.args.bytes.now bs i.0 v whole) ∙ newest-none c.args.name.now i.0 i.2))
