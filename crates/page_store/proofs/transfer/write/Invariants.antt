use Rattle.std.proofs.Common.{◌≡◌, ◌+◌, ◌-◌, length, take}
use Rattle.page_store.specs.Bytes.{Written}
use Rattle.page_store.specs.Owners.{pages_in}
use Rattle.page_store.proofs.transfer.write.Given as goal

abbrev pub invariant-loop-part : goal.invariant-loop-part
invariant-loop-part l = record {
  can : (goal.iterator-loop-part).can_next l.part-iterator;
  ends : (goal.iterator-loop-part).is_finite l.part-iterator;
  table : l.part-iterator.table.now ≡ l.fn.walk.table.now;
  owner : l.part-iterator.owner ≡ l.fn.walk.owner;
  start : l.part-iterator.start ≡ l.fn.walk.start;
  end : l.part-iterator.end ≡ l.fn.walk.start + length l.bytes;
  put : Written l.initial.region (pages_in l.fn.walk.table.now l.fn.walk.owner) l.fn.walk.start (take (l.part-iterator.at - l.fn.walk.start) l.bytes) l.region;
}
