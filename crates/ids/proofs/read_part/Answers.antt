use Rattle.std.proofs.Common.{◌+◌, ◌*◌, sym, ap, ◌∙◌, arith, rules}
use Rattle.std.proofs.lemmas.Bool.{cond-false}
use Rattle.std.proofs.lemmas.List.{length_push}
use Rattle.std.proofs.lemmas.Slice.Zip.{zip_turn}
use Rattle.ids.proofs.Shapes.{read_digit, wide, uneven}
use Rattle.ids.proofs.read_part.Goals as goal

pub returns-then-s-shape : goal.returns-then-s-shape
returns-then-s-shape c = sym (cond-false _ _ _ (uneven c.args.shape.now c.args.s.now (λ e. c.if-s-shape.true (sym e))))

pub overflow_mul-n : goal.overflow_mul-n
overflow_mul-n c =
    let t = zip_turn c.args.shape.now c.args.s.now c.loop-place.yielded c.into_iter-place-iterator.result c.loop-place.place-iterator c.next.new.self c.next.result (search rules) (search rules) c.loop-place.yielded_by (c.in-Some.place, c.in-Some.b) c.in-Some.is (search rules) in
    omega (arith, wide _ _ _ _ c.loop-place.invariant t.0 t.1 _ _ (t.2 0) (t.3 0) c.if-place-eq120.true c.requires)

pub overflow_add-n : goal.overflow_add-n
overflow_add-n c =
    let t = zip_turn c.args.shape.now c.args.s.now c.loop-place.yielded c.into_iter-place-iterator.result c.loop-place.place-iterator c.next.new.self c.next.result (search rules) (search rules) c.loop-place.yielded_by (c.in-Some.place, c.in-Some.b) c.in-Some.is (search rules) in
    omega (arith, c.from.ensures, c.in_ok-hex_value.ensures.0, c.in_ok-hex_value.ensures.1, wide _ _ _ _ c.loop-place.invariant t.0 t.1 _ _ (t.2 0) (t.3 0) c.if-place-eq120.true c.requires)

pub loop-place-preserved-then-place-eq120 : goal.loop-place-preserved-then-place-eq120
loop-place-preserved-then-place-eq120 c =
    let t = zip_turn c.args.shape.now c.args.s.now c.loop-place.yielded c.into_iter-place-iterator.result c.loop-place.place-iterator c.next.new.self c.next.result (search rules) (search rules) c.loop-place.yielded_by (c.in-Some.place, c.in-Some.b) c.in-Some.is (search rules) in
    let value = ap (λ v. c.loop-place.n * 16 + v) (c.from.ensures ∙ c.in_ok-hex_value.ensures.1) in
    read_digit _ _ _ _ c.loop-place.invariant t.0 t.1 _ _ (t.2 0) (t.3 0) _ _ (length_push c.loop-place.yielded _ ∙ omega arith) value c.if-place-eq120.true c.in_ok-hex_value.ensures.0
