use Rattle.std.proofs.Common.{subst, arith}
use Rattle.volume.specs.Writes.{Put}
use Rattle.volume.proofs.Puts.{put_then}
use Rattle.volume.proofs.write.close.Goals as goal

pub returns : goal.returns
returns c =
    put_then c.args.region.now c.put-at.new.region c.put.new.region c.args.name.now _ c.args.at c.put-at.result c.put.result c.put-at.ensures
    (subst (λ t. Put c.put-at.new.region c.put-at.result t c.put.new.region c.put.result) c.trailer_bytes-trailer.ensures c.put.ensures) (omega (arith, c.requires.fits))
