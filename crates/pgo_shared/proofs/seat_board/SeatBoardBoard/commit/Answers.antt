use Rattle.std.proofs.Common.{ℕ, ◌≤◌, [], ◌∷◌, Some, None, length, arith, sym, ap, ◌∙◌, subst}
use Rattle.std.specs.Prelude.{vec_len, vec_capacity}
use Rattle.pgo_model.specs.Log.{Effect}
use Rattle.pgo_model.specs.LogView.{entry_view}
use Rattle.pgo_resource.specs.Answers.{JournalRefuses}
use Rattle.pgo_workers.specs.View.{View, Commits}
use Rattle.pgo_shared.specs.SeatBoards.{view_of, shows_of, last_of}
use Rattle.pgo_table.specs.SeatViews.{SeatView}
use Rattle.pgo_table.specs.SeatCalls.{world, many}
use Rattle.pgo_table.proofs.Logs.{length_append}
use Rattle.pgo_shared.proofs.Boarding.{seen, touches, commits_shown, as_many, apart_of, journal_refused, two_steps, commit_steps}
use Rattle.pgo_shared.proofs.seat_board.SeatBoardBoard.commit.Goals as goal

pub commit-requires-clause-may : goal.commit-requires-clause-may
commit-requires-clause-may g c =
    let a = c.args.self.now in let m = c.requires.may in
    (m.instance ∙ sym a.instance.numbered, m.is_of, λ r x none. touches g.R.Resource.shows (view_of a).holds a.contents.items ((world (view_of a)).changes (entry_view c.args.e).change) m.changes r x none)

pub invariant_of-self : goal.invariant_of-self
invariant_of-self g c =
    let a = c.args.self.now in let t = c.in-Ok.ensures.ok in let same = c.in-Ok.ensures.same in
    record {
      table = same.0 ∙ a.table;
      terms = ap (λ (v : SeatView). v.terms) t.view ∙ a.terms;
      paired = a.paired ∙ ap (λ h. vec_len h) (sym same.2);
      room = subst (λ (v : SeatView). length v.terms.layout.resources ≤ vec_capacity a.contents) (sym t.view) a.room;
      within = subst (λ (v : SeatView). length v.me.entries ≤ v.terms.steps) (sym t.view) (let q = length_append t.entries (entry_view c.args.e ∷ []) in omega (arith, q, t.room));
    }

pub returns-in-Ok-clause-ok : goal.returns-in-Ok-clause-ok
returns-in-Ok-clause-ok g c =
    let a = c.args.self.now in let M = g.R.Resource.shows in let t = c.in-Ok.ensures.ok in
    subst (λ (z : View Effect). Commits (world (view_of a)) (entry_view c.args.e) c.in-Ok.n (shows_of a) z) (λ i. seen M (sym c.in-Ok.ensures.same.1 i) (sym t.view i) a.contents.items None)
    (commits_shown M a.instance.number (view_of a) a.contents.items (last_of a.last) a.instance.numbered (as_many a) t.entries t.notes t.found (entry_view c.args.e) c.in-Ok.n t.number (apart_of a) c.requires.may.steady)

pub returns-in-Err-clause-err : goal.returns-in-Err-clause-err
returns-in-Err-clause-err g c =
    let a = c.args.self.now in let M = g.R.Resource.shows in let t = c.in-Err.ensures.err in (
      t.0,
      subst (λ (n : ℕ). JournalRefuses (world (view_of a)) c.in-Err.refused.refusal (shows_of a) (seen M n (c.commit.new.self).seat.me.0 a.contents.items (last_of (Some c.in-Err.refused.refusal)))) (sym c.in-Err.ensures.same.1)
          (journal_refused M c.in-Err.refused.refusal a.instance.number (view_of a) (c.commit.new.self).seat.me.0 a.contents.items (last_of a.last) a.instance.numbered (as_many a) t.1),
    )

pub returns-in-Ok-clause-steps_ok : goal.returns-in-Ok-clause-steps_ok
returns-in-Ok-clause-steps_ok g c =
    let a = c.args.self.now in let t = c.in-Ok.ensures.ok in
    two_steps (many (view_of a)) a.instance.number (view_of a) c.commit.new.self.seat.me.0 t.opened t.released a.instance.numbered (ap (λ (v : SeatView). v.word_steps) t.view)

pub returns-in-Err-clause-steps_err : goal.returns-in-Err-clause-steps_err
returns-in-Err-clause-steps_err g c =
    let a = c.args.self.now in commit_steps c.in-Err.refused.refusal a.instance.number (view_of a) c.commit.new.self.seat.me.0 a.instance.numbered c.in-Err.ensures.err.1
