use Rattle.std.proofs.Common.{sym, subst}
use Rattle.head.specs.Laws.{Exact, NoHead, Fenced, Caseless}
use Rattle.head.proofs.Wholes.{size-within, exact, no-head, fenced, caseless}
use Rattle.head.proofs.read_head.Goals as goal

pub returns : goal.returns
returns c =
    let input = c.args.input.now in
    let same = sym c.parse.ensures in
    record {
      value = c.parse.ensures;
      within = size-within input c.parse.result c.parse.ensures;
      exact = subst (Exact input) same (exact input);
      unfinished = subst (NoHead input) same (no-head input);
      fenced = subst (Fenced input) same (fenced input);
      caseless = subst (Caseless input) same (caseless input);
    }
