use Rattle.std.proofs.Common.{◌≡◌, ◌+◌, All, length, sym, ap, ◌∙◌, subst, arith}
use Rattle.std.proofs.lemmas.List.Elements.{All-push}
use Rattle.pgo_shared.specs.Seats.{IsFreshSeat}
use Rattle.pgo_table_rows.specs.Clients.{IsClientOf}
use Rattle.pgo_table_rows.proofs.Opening.{first_fresh, rest_fresh, knows_fresh}
use Rattle.pgo_table_rows.proofs.clients.Clients.new.Goals as goal

pub new-requires-clause-board : goal.new-requires-clause-board
new-requires-clause-board c =
    let s = c.args.shared.now in let js = c.loop-seat.list in let seat = c.in-Some.seat in
    let fresh = first_fresh s (length js.items) c.loop-seat.seat-iterator.rest.items c.next.new.self.rest.items seat c.in-Some.ensures.steps.0 c.loop-seat.invariant.fresh in
    knows_fresh s c.len-number.result c.args.share c.board-board.result seat (subst (λ i. IsFreshSeat s i seat) (sym (c.len-number.ensures ∙ js.ok.0)) fresh) c.board-board.ensures.shows c.requires.share

pub loop-seat-preserved : goal.loop-seat-preserved
loop-seat-preserved c =
    let s = c.args.shared.now in let js = c.loop-seat.list in let new = c.push_reserved.new.self in let inv = c.loop-seat.invariant in let rest = c.in-Some.ensures.steps.0 in
    let fewer = ap length rest in
    let longer : length new.items ≡ length js.items + 1 = grind (arith, c.push_reserved.ensures.len, new.ok.0, js.ok.0) in
    record {
      count = grind (arith, longer, inv.count, fewer);
      capacity = omega (arith, c.push_reserved.ensures.capacity, inv.capacity);
      fresh = rest_fresh s (length js.items) (length new.items) c.loop-seat.seat-iterator.rest.items c.next.new.self.rest.items c.in-Some.seat rest longer inv.fresh;
      made = subst (All (IsClientOf s)) (sym c.push_reserved.ensures.items) (All-push (IsClientOf s) js.items c.new.result inv.made (c.new.ensures.stands, c.new.ensures.table ∙ c.board-board.ensures.table));
    }
