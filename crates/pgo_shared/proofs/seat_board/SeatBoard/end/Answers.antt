use Rattle.std.proofs.Common.{arith}
use Rattle.pgo_shared.specs.SeatBoards.{view_of}
use Rattle.pgo_shared.proofs.Boarding.{rows_empty, as_many}
use Rattle.pgo_shared.proofs.SeatSeen.{seat_seen}
use Rattle.pgo_shared.proofs.seat_board.SeatBoard.end.Goals as goal

pub invariant_of-result : goal.invariant_of-result
invariant_of-result g c =
    let a = c.args.self in let e = rows_empty g.R.Resource.shows (view_of a).holds a.contents.items (as_many a) c.requires.free in
    record { empty = (e, omega (arith, e, as_many a, a.contents.ok.0)); room = a.room; within = a.within }

pub returns-clause-seat : goal.returns-clause-seat
returns-clause-seat g c = (c.args.self.table, c.args.self.terms)

pub returns-clause-seen : goal.returns-clause-seen
returns-clause-seen g c = seat_seen c.args.self
