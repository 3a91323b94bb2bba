use Rattle.std.proofs.Common.{ap, ◌∙◌}
use Rattle.packet.specs.Ranges.{total_of, last_of, first_of, span_of}
use Rattle.packet.proofs.ranges.read_span.Goals as goal

pub returns-in_err-first : goal.returns-in_err-first
unfolding span_of
returns-in_err-first c = c.from_residual.ensures ∙ ap first_of c.in_err-first.ensures

pub returns-in_err-last : goal.returns-in_err-last
unfolding span_of
returns-in_err-last c =
    c.from_residual-in_err-last.ensures
    ∙ ap (last_of c.in_ok-first.first) c.in_err-last.ensures
    ∙ ap first_of c.in_ok-first.ensures

pub returns-in_err-total : goal.returns-in_err-total
unfolding span_of
returns-in_err-total c =
    c.from_residual-in_err-total.ensures
    ∙ ap (total_of c.in_ok-first.first c.in_ok-last.last) c.in_err-total.ensures
    ∙ ap (last_of c.in_ok-first.first) c.in_ok-last.ensures
    ∙ ap first_of c.in_ok-first.ensures

pub returns : goal.returns
unfolding span_of
returns c =
    ap (total_of c.in_ok-first.first c.in_ok-last.last) c.in_ok-total.ensures
    ∙ ap (last_of c.in_ok-first.first) c.in_ok-last.ensures
    ∙ ap first_of c.in_ok-first.ensures
