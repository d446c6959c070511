use Rattle.std.proofs.Common.{◌≡◌, true, sym, subst, arith}
use Rattle.pgo_core.specs.Cores.{all_roomy}
use Rattle.pgo_core.proofs.OpenedLists.{one_room}
use Rattle.pgo_core.proofs.accounts.rooms_of.Goals as goal

pub loop-preserved : goal.loop-preserved
loop-preserved c = record {
  count = grind (arith, c.push_reserved.ensures.len, c.push_reserved.new.self.ok.0, c.loop.rooms.ok.0, c.loop.invariant.count);
  capacity = omega (arith, c.push_reserved.ensures.capacity, c.loop.invariant.capacity);
  roomy = subst (λ l. all_roomy c.args.attempts l ≡ true) (sym c.push_reserved.ensures.items) (one_room c.args.attempts c.loop.rooms.items c.in_ok-room.room c.loop.invariant.roomy c.in_ok-room.ensures.items (omega (arith, c.in_ok-room.ensures.capacity)));
}
