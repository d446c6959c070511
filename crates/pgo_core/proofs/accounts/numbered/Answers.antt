use Rattle.std.proofs.Common.{refl, ◌∙◌, arith}
use Rattle.pgo_core.proofs.AccountLists.{one_numbered, one_result}
use Rattle.pgo_core.proofs.accounts.numbered.Goals as goal

pub loop-told-preserved : goal.loop-told-preserved
loop-told-preserved c = record {
  count = grind (arith, c.push_reserved.ensures.len, c.push_reserved.new.self.ok.0, c.loop-told.room.ok.0, c.loop-told.invariant.count);
  capacity = c.push_reserved.ensures.capacity ∙ c.loop-told.invariant.capacity;
  list = one_numbered c.args.results.now c.loop-told.told-index c.loop-told.room.items c.push_reserved.new.self.items _ _ c.push_reserved.ensures.items c.loop-told.invariant.list c.loop-told-test.true
      (omega (arith, c.len.ensures, c.loop-told.room.ok.0, c.loop-told.invariant.count)) refl;
  same = one_result c.args.results.now c.loop-told.told-index c.loop-told.room.items c.push_reserved.new.self.items _ _ c.push_reserved.ensures.items c.loop-told.invariant.same c.loop-told-test.true refl;
}
