use Rattle.std.proofs.Common.{◌∙◌, sym, ap, subst, inr}
use Rattle.pgo_workers.specs.View.{MayCommit, resources_of}
use Rattle.pgo_workers.specs.Worlds.{world_of, layout_of}
use Rattle.pgo_model.specs.LogView.{entry_view}
use Rattle.pgo_section.proofs.Events.{has_record_room, journal_held, may_commit, was_committed, not_committed, resources_renewed, commits_at, refuses_at}
use Rattle.pgo_section.proofs.ManyTold.{journal_counts}
use Rattle.pgo_section.proofs.worker.Worker.commit.Goals as goal

pub commit-requires : goal.commit-requires
commit-requires g c =
    let a = c.args.self.now in let y = g.S.Sections.system c.args.sections.now in let tree = g.S.Sections.tree c.args.sections.now in let walk = g.S.Sections.walk c.args.sections.now in let b = g.B.Board.shows c.args.board.now in let p = c.args.place in let f = c.in_ok-entry.ensures.ends in let e = entry_view c.in_ok-entry.entry in let next = c.in_ok-entry.next in let new = g.B.Board.shows c.ready.new.board in
    record {
      may = subst (λ l. MayCommit (world_of l) e new) (sym (c.ready.ensures.layout ∙ c.requires.layout))
          (subst (MayCommit (world_of (layout_of y)) e) (sym c.ready.ensures.shows) (may_commit y tree walk a p c.requires.going b b b e next f c.requires.none_left c.requires.runs c.requires.met.meets));
    }

pub commit_all-requires-clause-held : goal.commit_all-requires-clause-held
commit_all-requires-clause-held g c =
    c.requires.met.meets.taken ∙ ap (λ v. resources_of v.held) (sym c.ready.ensures.shows) ∙ sym (ap resources_of c.in-Ok.ensures.ok.held ∙ resources_renewed _ (g.B.Board.shows c.ready.new.board).held)

pub commit_all-requires-clause-once : goal.commit_all-requires-clause-once
commit_all-requires-clause-once g c = c.requires.met.meets.once

pub abort_all-requires-clause-held : goal.abort_all-requires-clause-held
abort_all-requires-clause-held g c =
    c.requires.met.meets.taken ∙ ap (λ v. resources_of v.held) (sym c.ready.ensures.shows)
    ∙ ap resources_of (sym (journal_held (world_of (g.B.Board.layout c.ready.new.board)) c.in-Err.refused.refusal (g.B.Board.shows c.ready.new.board) (g.B.Board.shows c.commit.new.self) c.in-Err.ensures.err.1))

pub abort_all-requires-clause-once : goal.abort_all-requires-clause-once
abort_all-requires-clause-once g c = c.requires.met.meets.once

pub finish-requires-clause-room : goal.finish-requires-clause-room
finish-requires-clause-room g c =
    let a = c.args.self.now in let y = g.S.Sections.system c.args.sections.now in let tree = g.S.Sections.tree c.args.sections.now in let walk = g.S.Sections.walk c.args.sections.now in let b = g.B.Board.shows c.args.board.now in let p = c.args.place in
    has_record_room y tree walk a p c.requires.going b c.requires.met.meets c.requires.met.fits

pub finish-requires-in-Err-clause-room : goal.finish-requires-in-Err-clause-room
finish-requires-in-Err-clause-room g c =
    let a = c.args.self.now in let y = g.S.Sections.system c.args.sections.now in let tree = g.S.Sections.tree c.args.sections.now in let walk = g.S.Sections.walk c.args.sections.now in let b = g.B.Board.shows c.args.board.now in let p = c.args.place in
    has_record_room y tree walk a p c.requires.going b c.requires.met.meets c.requires.met.fits

pub finish-requires-in-Err-clause-many : goal.finish-requires-in-Err-clause-many
finish-requires-in-Err-clause-many g c = journal_counts (world_of (g.B.Board.layout c.ready.new.board)) c.in-Err.refused.refusal (g.B.Board.shows c.ready.new.board) (g.B.Board.shows c.commit.new.self) c.in-Err.ensures.err.1

pub returns-in-Ok-clause-keeps : goal.returns-in-Ok-clause-keeps
returns-in-Ok-clause-keeps g c =
    let k = c.finish.ensures.keeps in
    record { same = record { number = k.same.number; settings = k.same.settings; records_room = k.same.records_room; taken_room = k.same.taken_room; told = k.same.told }; out = k.out }

pub returns-in-Ok-clause-turned : goal.returns-in-Ok-clause-turned
returns-in-Ok-clause-turned g c =
    let a = c.args.self.now in let y = g.S.Sections.system c.args.sections.now in let tree = g.S.Sections.tree c.args.sections.now in let walk = g.S.Sections.walk c.args.sections.now in let b = g.B.Board.shows c.args.board.now in let p = c.args.place in let f = c.in_ok-entry.ensures.ends in let e = entry_view c.in_ok-entry.entry in let next = c.in_ok-entry.next in let new = g.B.Board.shows c.ready.new.board in let d = g.B.Board.shows c.commit.new.self in
    was_committed y tree walk a p c.requires.going b d _ e next f c.requires.none_left _ c.in-Ok.n
    (commits_at (g.B.Board.layout c.ready.new.board) (layout_of y) e c.in-Ok.n new b d (c.ready.ensures.layout ∙ c.requires.layout) c.ready.ensures.shows c.in-Ok.ensures.ok)
    c.commit_all.ensures.shows (ap (λ (w : Rattle.pgo_workers.specs.Worker.Worker). record w { own = next }) (c.finish.ensures.seen walk))

pub returns-in-Err-clause-turned : goal.returns-in-Err-clause-turned
returns-in-Err-clause-turned g c =
    let a = c.args.self.now in let y = g.S.Sections.system c.args.sections.now in let tree = g.S.Sections.tree c.args.sections.now in let walk = g.S.Sections.walk c.args.sections.now in let b = g.B.Board.shows c.args.board.now in let p = c.args.place in let f = c.in_ok-entry.ensures.ends in let e = entry_view c.in_ok-entry.entry in let next = c.in_ok-entry.next in let new = g.B.Board.shows c.ready.new.board in let d = g.B.Board.shows c.commit.new.self in
    record {
      turned = not_committed y tree walk a p c.requires.going b d _ e next f c.requires.none_left _ c.in-Err.refused.refusal
          (refuses_at (g.B.Board.layout c.ready.new.board) (layout_of y) c.in-Err.refused.refusal new b d (c.ready.ensures.layout ∙ c.requires.layout) c.ready.ensures.shows c.in-Err.ensures.err.1)
          c.abort_all.ensures.shows (c.finish-in-Err.ensures.seen walk);
      many = journal_counts (world_of (g.B.Board.layout c.ready.new.board)) c.in-Err.refused.refusal new d c.in-Err.ensures.err.1;
    }

pub returns-in-Ok-clause-stays : goal.returns-in-Ok-clause-stays
returns-in-Ok-clause-stays g c =
    let law = g.met.B.Board in
    law.stays_on c.args.board.now c.ready.new.board c.commit_all.new.board c.ready.ensures.stays (law.stays_on c.ready.new.board c.commit.new.self c.commit_all.new.board c.commit.ensures.stays c.commit_all.ensures.stays)

pub returns-in-Err-clause-stays : goal.returns-in-Err-clause-stays
returns-in-Err-clause-stays g c =
    let law = g.met.B.Board in
    law.stays_on c.args.board.now c.ready.new.board c.abort_all.new.board c.ready.ensures.stays (law.stays_on c.ready.new.board c.commit.new.self c.abort_all.new.board c.commit.ensures.stays c.abort_all.ensures.stays)

pub returns-in-Ok-clause-apart : goal.returns-in-Ok-clause-apart
returns-in-Ok-clause-apart g c = inr (c.commit_all.ensures.moved ∙ c.commit.ensures.moved ∙ c.ready.ensures.moved)

pub returns-in-Err-clause-apart : goal.returns-in-Err-clause-apart
returns-in-Err-clause-apart g c = inr (c.abort_all.ensures.moved ∙ c.commit.ensures.moved ∙ c.ready.ensures.moved)
