use Rattle.std.proofs.Common.{ℕ, Some, None, sym, ap, subst}
use Rattle.pgo_model.specs.Log.{Effect}
use Rattle.pgo_syntax.specs.RecordView.{note_view}
use Rattle.pgo_resource.specs.Answers.{HolderRefuses}
use Rattle.pgo_workers.specs.View.{View, Notes}
use Rattle.pgo_shared.specs.SeatBoards.{view_of, shows_of, last_of}
use Rattle.pgo_table.specs.SeatViews.{SeatView}
use Rattle.pgo_table.specs.SeatCalls.{world, many}
use Rattle.pgo_shared.proofs.Boarding.{seen, notes_shown, as_many, apart_of, holder_refused, two_steps, note_steps}
use Rattle.pgo_shared.proofs.seat_board.SeatBoardBoard.note.Goals as goal

pub returns-in-Ok-clause-ok : goal.returns-in-Ok-clause-ok
returns-in-Ok-clause-ok g c =
    let a = c.args.self.now in let M = g.R.Resource.shows in let t = c.in-Ok.ensures.ok in
    subst (λ (z : View Effect). Notes (world (view_of a)) (note_view c.args.n) c.in-Ok.position (shows_of a) z) (λ i. seen M (sym c.in-Ok.ensures.same.1 i) (sym t.view i) a.contents.items None)
    (notes_shown M a.instance.number (view_of a) a.contents.items (last_of a.last) a.instance.numbered (as_many a) t.entries t.notes t.found (note_view c.args.n) c.in-Ok.position t.position (apart_of a) c.requires.may.steady)

pub returns-in-Err-clause-err : goal.returns-in-Err-clause-err
returns-in-Err-clause-err g c =
    let a = c.args.self.now in let M = g.R.Resource.shows in let t = c.in-Err.ensures.err in (
      t.0,
      subst (λ (n : ℕ). HolderRefuses (world (view_of a)) c.in-Err.refused.refusal (shows_of a) (seen M n (c.note.new.self).seat.me.0 a.contents.items (last_of (Some c.in-Err.refused.refusal)))) (sym c.in-Err.ensures.same.1)
          (holder_refused M c.in-Err.refused.refusal a.instance.number (view_of a) (c.note.new.self).seat.me.0 a.contents.items (last_of a.last) a.instance.numbered (as_many a) t.1),
    )

pub returns-in-Ok-clause-steps_ok : goal.returns-in-Ok-clause-steps_ok
returns-in-Ok-clause-steps_ok g c =
    let a = c.args.self.now in let t = c.in-Ok.ensures.ok in
    two_steps (many (view_of a)) a.instance.number (view_of a) c.note.new.self.seat.me.0 t.opened t.released a.instance.numbered (ap (λ (v : SeatView). v.word_steps) t.view)

pub returns-in-Err-clause-steps_err : goal.returns-in-Err-clause-steps_err
returns-in-Err-clause-steps_err g c =
    let a = c.args.self.now in note_steps c.in-Err.refused.refusal a.instance.number (view_of a) c.note.new.self.seat.me.0 a.instance.numbered c.in-Err.ensures.err.1
