use Rattle.std.proofs.Common.{ap, inl, inr, arith}
use Rattle.page_store.specs.Moves.{spliced, last-below, counts-le}
use Rattle.page_store.specs.Tables.{sound-of}
use Rattle.page_store.proofs.table.Table.splice.Goals as goal
use Rattle.page_store.proofs.table.Table.splice.Goals.{then-taker-eq0, else-taker-eq0}

pub bounds-self-taker : goal.bounds-self-taker
bounds-self-taker c =
    omega (arith, last-below _ _ _ (sound-of c.args.self.now) c.args.to c.args.from c.args.m c.last_of-cut.result c.requires (omega (arith, c.if-m-eq0.false)) c.last_of-cut.ensures.page (omega (arith, c.if-taker-eq0.false)), c.args.self.now.few)

pub overflow_add-self : goal.overflow_add-self
overflow_add-self c =
    let t = c.args.self.now in
    let h = counts-le _ _ _ (sound-of t) c.args.to c.args.from c.requires.taker c.requires.giver c.requires.apart in
    omega (arith, h, t.few, c.requires.enough)

pub invariant_of-self : goal.invariant_of-self
invariant_of-self c =
    let r =
    spliced _ _ _ (sound-of c.args.self.now) c.args.to c.args.from c.args.m c.last_of-cut.result c.requires (omega (arith, c.if-m-eq0.false)) c.last_of-cut.ensures.page
    c.if-taker-eq0.self.1.1.0 c.if-taker-eq0.head
    (elim c.if-taker-eq0.branch [
      | then-taker-eq0 w ↦ inl (w.if-taker-eq0.true, ap (λ x. x.1.1.0) w.self-is, w.head-is)
      | else-taker-eq0 w ↦ inr (omega (arith, w.if-taker-eq0.false), ap (λ x. x.1.1.0) w.self-is, w.head-is)
    ]) in
    let s = r.1 in
    record { few = s.few; links = s.links; owners = s.owners; once = s.once; whole = s.whole; tails = s.tails }

pub returns-clause-moved : goal.returns-clause-moved
returns-clause-moved c =
    (spliced _ _ _ (sound-of c.args.self.now) c.args.to c.args.from c.args.m c.last_of-cut.result c.requires (omega (arith, c.if-m-eq0.false)) c.last_of-cut.ensures.page
    c.if-taker-eq0.self.1.1.0 c.if-taker-eq0.head
    (elim c.if-taker-eq0.branch [
      | then-taker-eq0 w ↦ inl (w.if-taker-eq0.true, ap (λ x. x.1.1.0) w.self-is, w.head-is)
      | else-taker-eq0 w ↦ inr (omega (arith, w.if-taker-eq0.false), ap (λ x. x.1.1.0) w.self-is, w.head-is)
    ])).0
