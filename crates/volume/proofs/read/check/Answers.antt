use Rattle.std.proofs.Common.{◌∷◌, arith}
use Rattle.std.proofs.lemmas.Result.{err_from_is_err_and}
use Rattle.volume.specs.Reads.{placed}
use Rattle.volume.proofs.Laws.{unique}
use Rattle.volume.proofs.Walks.{walked_more, falls, stopped, damaged}
use Rattle.volume.proofs.read.check.Goals as goal

pub loop-found-preserved : goal.loop-found-preserved
loop-found-preserved c =
    let i = c.loop-found.invariant in
    let p = placed c.in_ok-found.field-0 in
    let s = rw c.in_ok-found.was at c.in-Some.ensures.steps in
    let x = c.loop-found.found-iterator.left.now in
    let y = c.next.new.self.left.now in (
      p.bundle ∷ i.0,
      walked_more x y p s.0 s.1 c.args.bytes.now i.0 i.1,
      omega (arith, i.2),
      omega (arith, i.3, (falls x y p s.0 s.1).1),
    )

pub returns-in_err-found : goal.returns-in_err-found
returns-in_err-found c =
    let i = c.loop-found.invariant in
    let e = err_from_is_err_and c.from_residual.result c.from_residual.ensures.1 in
    let s = rw c.in_err-found.was at c.in-Some.ensures.steps in
    record {
      unique = unique;
      exact = rw (e.1, e.2) (damaged c.args.bytes.now _ i.0 (stopped c.args.bytes.now _ i.0 c.in_err-found.field-0.0 i.1 s.0 s.1 s.2.fault));
    }

pub returns-clause-unique : goal.returns-clause-unique
returns-clause-unique c = unique
