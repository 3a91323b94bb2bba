use Rattle.std.proofs.Common.{◌≡◌, ◌+◌, true, length, None, sym, refl, zero-add, arith}
use Rattle.volume.specs.Writes.{refusal}
use Rattle.volume.proofs.Puts.{allowed, put-at, written}
use Rattle.volume.proofs.write.append.Goals as goal

pub returns-clause-done : goal.returns-clause-done
returns-clause-done c =
    let region = c.args.region.now in
    let entity = c.args.bundle.entity.now in
    let name = c.args.bundle.name.now in
    let verdict : None ≡ refusal true (length region) (0 + c.args.used) (length entity) (length name) = c.in_ok-judge.ensures in
    written region c.put-at.new.region c.close.new.region entity name 0 c.args.used c.put-at.result c.close.result true (omega arith)
    (allowed true (length region) (0 + c.args.used) (length entity) (length name) (sym verdict))
    (put-at (sym (zero-add c.args.used)) refl c.put-at.ensures)
    (put-at refl (sym (zero-add c.close.result)) c.close.ensures)
