use Rattle.std.proofs.Common.{ℕ, ◌+◌, ◌∙◌, ap, Some, None, arith, sym, subst, refl}
use Rattle.pgo_model.specs.Log.{Effect}
use Rattle.pgo_resource.proofs.PlainPlaces.{room}
use Rattle.pgo_workers.specs.View.{View, IsHeld, Takes, TakeHeld}
use Rattle.pgo_shared.specs.SeatBoards.{view_of, shows_of, last_of}
use Rattle.pgo_table.specs.SeatViews.{resources}
use Rattle.pgo_table.specs.SeatCalls.{world, many}
use Rattle.pgo_table.proofs.Sums.{not_among}
use Rattle.pgo_shared.proofs.Boarding.{seen, rows_none, takes_shown, take_held_shown, resources_long, as_many, apart_of}
use Rattle.pgo_shared.proofs.seat_board.SeatBoardBoard.take.Goals as goal

pub take-requires-clause-free : goal.take-requires-clause-free
take-requires-clause-free g c = let a = c.args.self.now in rows_none g.R.Resource.shows (view_of a).holds a.contents.items c.args.r (as_many a) c.requires.free

pub push_reserved-requires : goal.push_reserved-requires
push_reserved-requires g c =
    let a = c.args.self.now in
    let free = rows_none g.R.Resource.shows (view_of a).holds a.contents.items c.args.r (as_many a) c.requires.free in
    let less = room (many (view_of a)) c.args.r (resources (view_of a).holds) (apart_of a) c.requires.inside (not_among (view_of a).holds c.args.r free) in
    omega (arith, less, resources_long (view_of a).holds, as_many a, a.contents.ok.0, a.room)

pub returns-in-Ok-clause-ok : goal.returns-in-Ok-clause-ok
returns-in-Ok-clause-ok g c =
    let a = c.args.self.now in let M = g.R.Resource.shows in let t = c.in-Ok.ensures.taken in
    subst (λ (z : View Effect). Takes (world (view_of a)) c.args.r (shows_of a) z) (λ i. seen M (sym c.in-Ok.ensures.same.1 i) (sym t.1 i) (sym c.push_reserved.ensures.items i) None)
    (takes_shown M a.instance.number (view_of a) a.contents.items (last_of a.last) a.instance.numbered (as_many a) c.args.r c.in-Ok.content t.2 t.3)

pub returns-in-Err-clause-err : goal.returns-in-Err-clause-err
returns-in-Err-clause-err g c =
    let a = c.args.self.now in let M = g.R.Resource.shows in let t = c.in-Err.ensures.refused in (
      refl,
      subst (λ (z : View Effect). TakeHeld (world (view_of a)) c.args.r c.in-Err.holder (shows_of a) z) (λ i. seen M (sym c.in-Err.ensures.same.1 i) (sym t.2 i) a.contents.items (Some (IsHeld c.args.r c.in-Err.holder)))
          (take_held_shown M a.instance.number (view_of a) a.contents.items (last_of a.last) a.instance.numbered (as_many a) c.args.r c.in-Err.holder t.1),
    )

pub returns-in-Ok-clause-step : goal.returns-in-Ok-clause-step
returns-in-Ok-clause-step g c =
    let t = c.in-Ok.ensures.step in let n = c.args.self.now.instance.numbered in
    record { number = t.number; found = t.found; left = t.left; step = t.step; made = t.made; answer = (t.answer.0, t.answer.1 ∙ ap (λ (k : ℕ). k + 1) n) }

pub returns-in-Err-clause-step : goal.returns-in-Err-clause-step
returns-in-Err-clause-step g c = let t = c.in-Err.ensures.step in record { number = t.number; found = t.found; left = t.left; step = t.step; made = t.made; answer = (c.in-Err.holder, refl, t.answer.0, t.answer.1) }
