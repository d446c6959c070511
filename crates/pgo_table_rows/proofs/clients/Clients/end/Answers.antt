use Rattle.std.proofs.Common.{◌≡◌, ◌+◌, All, length, sym, ap, subst, arith}
use Rattle.std.proofs.lemmas.List.Elements.{All-head, All-tail, All-push}
use Rattle.pgo_shared.specs.Seats.{AllAreOf, IsOf}
use Rattle.pgo_table_rows.specs.Clients.{IsClientOf}
use Rattle.pgo_table_rows.proofs.clients.Clients.end.Goals as goal

pub loop-client-preserved : goal.loop-client-preserved
loop-client-preserved c =
    let s = c.args.self.shared.now in let inv = c.loop-client.invariant in let rest = c.in-Some.ensures.steps.0 in let seat = c.end.result in
    let old = c.loop-client.seats in let new = c.push_reserved.new.self in
    let left = subst (All (IsClientOf s)) rest inv.left in
    let fewer = ap length rest in
    let longer : length new.items ≡ length old.items + 1 = grind (arith, c.push_reserved.ensures.len, new.ok.0, old.ok.0) in
    record {
      count = grind (arith, longer, inv.count, fewer);
      capacity = omega (arith, c.push_reserved.ensures.capacity, inv.capacity);
      left = All-tail (IsClientOf s) c.in-Some.client c.next.new.self.rest.items left;
      ended = subst (AllAreOf s) (sym c.push_reserved.ensures.items) (All-push (IsOf s) old.items seat inv.ended (subst (λ t. IsOf t seat) (All-head (IsClientOf s) c.in-Some.client c.next.new.self.rest.items left).1 c.end.ensures));
    }
