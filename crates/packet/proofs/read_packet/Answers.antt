use Rattle.std.proofs.Common.{sym, subst}
use Rattle.packet.specs.Laws.{Exact, Passed, Caseless}
use Rattle.packet.proofs.Wholes.{exact, passed, request-within}
use Rattle.packet.proofs.Cases.{caseless}
use Rattle.packet.proofs.read_packet.Goals as goal

pub returns : goal.returns
returns c =
    let input = c.args.input.now in
    let same = sym c.parse.ensures in
    record {
      value = c.parse.ensures;
      within = request-within input c.parse.result c.parse.ensures;
      exact = subst (Exact input) same (exact input);
      passed = subst (Passed input) same (passed input);
      caseless = subst (Caseless input) same (caseless input);
    }
