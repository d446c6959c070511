use Rattle.std.proofs.Common.{◌≡◌, ◌∷◌, length, refl, ap, sym, ◌∙◌, arith}
use Rattle.pgo_model.specs.Machine.{nth}
use Rattle.pgo_core.specs.Cores.{all_roomy}
use Rattle.pgo_core.proofs.AccountLists.{first_room, one_account}
use Rattle.pgo_core.proofs.Indexed.{nth_read}
use Rattle.pgo_core.proofs.accounts.accounts_of.Goals as goal

pub loop-room-preserved : goal.loop-room-preserved
loop-room-preserved g c =
    let rest : c.loop-room.room-iterator.rest.items ≡ c.in-Some.room ∷ c.next.new.self.rest.items = c.in-Some.ensures.steps.0 in
    let fewer = ap length rest in
    let roomy = first_room c.args.attempts c.in-Some.room c.next.new.self.rest.items (ap (all_roomy c.args.attempts) (sym rest) ∙ c.loop-room.invariant.roomy) in
    let len = c.len-k.ensures ∙ c.loop-room.accounts.ok.0 in
    let here = nth_read c.args.workers.now (length c.args.workers.now) c.len-k.result c.index-workers-k.result refl (omega (arith, c.loop-room.invariant.count, fewer, len)) c.index-workers-k.is in
    record {
      count = grind (arith, c.push_reserved.ensures.len, c.push_reserved.new.self.ok.0, c.loop-room.accounts.ok.0, c.loop-room.invariant.count, fewer);
      capacity = c.push_reserved.ensures.capacity ∙ c.loop-room.invariant.capacity;
      roomy = roomy.2;
      are = one_account c.args.workers.now c.loop-room.accounts.items c.push_reserved.new.self.items c.index-workers-k.result c.account_of.result c.push_reserved.ensures.items c.loop-room.invariant.are
          (ap (nth c.args.workers.now) (sym len) ∙ here) c.account_of.ensures;
    }
