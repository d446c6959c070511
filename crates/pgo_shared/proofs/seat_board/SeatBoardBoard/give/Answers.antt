use Rattle.std.proofs.Common.{ℕ, ◌+◌, ◌≤◌, Some, length, get_or, arith, sym, ap, ◌∙◌, subst}
use Rattle.std.specs.Prelude.{vec_capacity}
use Rattle.pgo_model.specs.Log.{Effect}
use Rattle.pgo_workers.specs.View.{View, Gives}
use Rattle.pgo_shared.specs.SeatBoards.{view_of, shows_of, steps_of, last_of}
use Rattle.pgo_table.specs.SeatViews.{SeatView}
use Rattle.pgo_table.specs.SeatCalls.{world, OneStep}
use Rattle.pgo_table.proofs.Cuts.{placed}
use Rattle.pgo_shared.proofs.Boarding.{seen, rows_some, may_return, gives_shown, as_many, apart_of, content_is}
use Rattle.std.specs.List.{remove}
use Rattle.pgo_shared.proofs.seat_board.SeatBoardBoard.give.Goals as goal

pub place-place-requires : goal.place-place-requires
place-place-requires g c =
    let a = c.args.self.now in let q = rows_some g.R.Resource.shows (view_of a).holds a.contents.items c.args.r c.requires.may.hold c.requires.may.is_held in
    placed (view_of a).holds c.args.r q.0 q.2

pub give-requires-clause-held : goal.give-requires-clause-held
give-requires-clause-held g c =
    let a = c.args.self.now in let M = g.R.Resource.shows in let q = rows_some M (view_of a).holds a.contents.items c.args.r c.requires.may.hold c.requires.may.is_held in
    let there = content_is a c.args.r q.0 c.remove-content.result q.2 ∙ ap Some (sym (c.remove-content.ensures.value ∙ ap (λ (p : ℕ). get_or a.contents.items p c.remove-content.result) c.place-place.ensures.first)) in
    may_return M a.instance.number (view_of a) a.contents.items (last_of a.last) a.instance.numbered (as_many a) c.args.r c.remove-content.result c.requires.may there

pub invariant_of-self : goal.invariant_of-self
invariant_of-self g c =
    let a = c.args.self.now in let M = g.R.Resource.shows in let q = rows_some M (view_of a).holds a.contents.items c.args.r c.requires.may.hold c.requires.may.is_held in
    let view = c.give.ensures.given.1 q.0 q.2 in
    record {
      table = c.give.ensures.same.0 ∙ a.table;
      terms = ap (λ (v : SeatView). v.terms) view ∙ a.terms;
      paired = omega (arith, c.give.ensures.fewer, c.remove-content.ensures.len, a.paired);
      room = subst (λ (v : SeatView). length v.terms.layout.resources ≤ vec_capacity c.remove-content.new.self) (sym view) (omega (arith, c.remove-content.ensures.capacity, a.room));
      within = subst (λ (v : SeatView). length v.me.entries ≤ v.terms.steps) (sym view) a.within;
    }

pub returns-clause-gives : goal.returns-clause-gives
returns-clause-gives g c =
    let a = c.args.self.now in let M = g.R.Resource.shows in let q = rows_some M (view_of a).holds a.contents.items c.args.r c.requires.may.hold c.requires.may.is_held in
    let view = c.give.ensures.given.1 q.0 q.2 in
    let there = content_is a c.args.r q.0 c.remove-content.result q.2 ∙ ap Some (sym (c.remove-content.ensures.value ∙ ap (λ (p : ℕ). get_or a.contents.items p c.remove-content.result) c.place-place.ensures.first)) in
    let items = c.remove-content.ensures.items ∙ ap (remove a.contents.items) c.place-place.ensures.first in
    subst (λ (z : View Effect). Gives (world (view_of a)) c.args.r (shows_of a) z) (λ i. seen M (sym c.give.ensures.same.1 i) (sym view i) (sym items i) (last_of a.last))
    (gives_shown M a.instance.number (view_of a) a.contents.items (last_of a.last) a.instance.numbered (as_many a) c.args.r c.remove-content.result q.0 (apart_of a) q.2 there)

pub returns-clause-step : goal.returns-clause-step
returns-clause-step g c =
    let a = c.args.self.now in let M = g.R.Resource.shows in let q = rows_some M (view_of a).holds a.contents.items c.args.r c.requires.may.hold c.requires.may.is_held in
    let view = c.give.ensures.given.1 q.0 q.2 in
    subst (λ (k : ℕ). OneStep c.args.r (k + 1) 0 (steps_of a) c.give.new.self.seat.me.0.word_steps) a.instance.numbered (c.give.ensures.given.0, ap (λ (v : SeatView). v.word_steps) view)
