use Rattle.std.proofs.Common.{◌∙◌, ◌<◌, sym, ap, subst, inr}
use Rattle.pgo_syntax.specs.ManyLeaves.{tells_many}
use Rattle.pgo_syntax.specs.RecordView.{kind_view, result_view}
use Rattle.pgo_resource.specs.Answers.{HolderRefuses}
use Rattle.pgo_workers.specs.View.{MayNote, Notes}
use Rattle.pgo_workers.specs.Worker.{finished}
use Rattle.pgo_workers.specs.Worlds.{world_of}
use Rattle.pgo_section.specs.Sight.{see, placed, turn_of}
use Rattle.pgo_section.specs.Turns.{Ran}
use Rattle.pgo_section.proofs.Events.{is_counted, same_length, has_record_room, may_note, was_noted, not_noted}
use Rattle.pgo_section.proofs.ManyTold.{noted_seen, noted_tells, noted_ran, holder_counts}
use Rattle.pgo_section.proofs.worker.Worker.note.Goals as goal

pub attempt-requires : goal.attempt-requires
attempt-requires g c =
    let a = c.args.self.now in let y = g.S.Sections.system c.args.sections.now in let tree = g.S.Sections.tree c.args.sections.now in let walk = g.S.Sections.walk c.args.sections.now in let b = g.B.Board.shows c.args.board.now in let p = c.args.place in
    subst (λ n. n < a.settings.attempts) (same_length _ a.records.items) (is_counted y tree walk a p c.requires.going b c.requires.met.meets)

pub note-requires : goal.note-requires
note-requires g c =
    let a = c.args.self.now in let y = g.S.Sections.system c.args.sections.now in let tree = g.S.Sections.tree c.args.sections.now in let walk = g.S.Sections.walk c.args.sections.now in let b = g.B.Board.shows c.args.board.now in let p = c.args.place in
    record {
      may = subst (λ l. MayNote (world_of l) (record { instance = a.number; attempt = c.attempt.result; kind = kind_view c.args.kind; position = 0 }) (g.B.Board.shows c.abort_all.new.board)) (sym (c.abort_all.ensures.system ∙ c.requires.layout))
          (may_note y tree walk a p c.requires.going b (g.B.Board.shows c.abort_all.new.board) (g.B.Board.shows c.abort_all.new.board) c.args.kind c.requires.next (record { instance = a.number; attempt = c.attempt.result; kind = kind_view c.args.kind; position = 0 }) (λ i. record { instance = a.number; attempt = c.attempt.ensures i; kind = kind_view c.args.kind; position = 0 }) c.abort_all.ensures.shows c.requires.met.meets);
    }

pub abort_all-requires-clause-held : goal.abort_all-requires-clause-held
abort_all-requires-clause-held g c = c.requires.met.meets.taken

pub abort_all-requires-clause-once : goal.abort_all-requires-clause-once
abort_all-requires-clause-once g c = c.requires.met.meets.once

pub finish-requires-clause-room : goal.finish-requires-clause-room
finish-requires-clause-room g c =
    let a = c.args.self.now in let y = g.S.Sections.system c.args.sections.now in let tree = g.S.Sections.tree c.args.sections.now in let walk = g.S.Sections.walk c.args.sections.now in let b = g.B.Board.shows c.args.board.now in let p = c.args.place in
    has_record_room y tree walk a p c.requires.going b c.requires.met.meets c.requires.met.fits

pub finish-requires-in-Err-clause-room : goal.finish-requires-in-Err-clause-room
finish-requires-in-Err-clause-room g c =
    let a = c.args.self.now in let y = g.S.Sections.system c.args.sections.now in let tree = g.S.Sections.tree c.args.sections.now in let walk = g.S.Sections.walk c.args.sections.now in let b = g.B.Board.shows c.args.board.now in let p = c.args.place in
    has_record_room y tree walk a p c.requires.going b c.requires.met.meets c.requires.met.fits

pub finish-requires-clause-many : goal.finish-requires-clause-many
finish-requires-clause-many g c = ap tells_many c.of_note-told.ensures ∙ noted_tells c.args.kind c.in-Ok.n

pub finish-requires-in-Err-clause-many : goal.finish-requires-in-Err-clause-many
finish-requires-in-Err-clause-many g c = holder_counts (world_of (g.B.Board.layout c.abort_all.new.board)) c.in-Err.refused.refusal (g.B.Board.shows c.abort_all.new.board) (g.B.Board.shows c.note.new.self) c.in-Err.ensures.err.1

pub returns-in-Ok-clause-turned : goal.returns-in-Ok-clause-turned
returns-in-Ok-clause-turned g c =
    let a = c.args.self.now in let y = g.S.Sections.system c.args.sections.now in let tree = g.S.Sections.tree c.args.sections.now in let walk = g.S.Sections.walk c.args.sections.now in let b = g.B.Board.shows c.args.board.now in let p = c.args.place in let d = g.B.Board.shows c.note.new.self in let m = g.B.Board.shows c.abort_all.new.board in
    subst (Ran y tree walk (placed a p) b c.finish.new.self d) (sym (c.of_result.ensures ∙ ap turn_of c.of_note-told.ensures))
    (noted_ran y tree walk (placed a p) b c.finish.new.self d c.args.kind c.in-Ok.n
    (was_noted y tree walk a p c.requires.going b m d c.args.kind c.requires.next (record { instance = a.number; attempt = c.attempt.result; kind = kind_view c.args.kind; position = 0 }) (λ i. record { instance = a.number; attempt = c.attempt.ensures i; kind = kind_view c.args.kind; position = 0 }) c.abort_all.ensures.shows _ c.in-Ok.n
    (subst (λ l. Notes (world_of l) (record { instance = a.number; attempt = c.attempt.result; kind = kind_view c.args.kind; position = 0 }) c.in-Ok.n m d) (c.abort_all.ensures.system ∙ c.requires.layout) c.in-Ok.ensures.ok)
    (c.finish.ensures.seen walk ∙ ap (λ r. finished r (see walk a)) (ap result_view c.of_note-told.ensures ∙ noted_seen c.args.kind c.in-Ok.n))))

pub returns-clause-turned : goal.returns-clause-turned
returns-clause-turned g c =
    let a = c.args.self.now in let y = g.S.Sections.system c.args.sections.now in let tree = g.S.Sections.tree c.args.sections.now in let walk = g.S.Sections.walk c.args.sections.now in let b = g.B.Board.shows c.args.board.now in let p = c.args.place in let d = g.B.Board.shows c.note.new.self in let m = g.B.Board.shows c.abort_all.new.board in
    record {
      turned = not_noted y tree walk a p c.requires.going b m d c.args.kind c.requires.next (record { instance = a.number; attempt = c.attempt.result; kind = kind_view c.args.kind; position = 0 }) (λ i. record { instance = a.number; attempt = c.attempt.ensures i; kind = kind_view c.args.kind; position = 0 }) c.abort_all.ensures.shows _ c.in-Err.refused.refusal
          (subst (λ l. HolderRefuses (world_of l) c.in-Err.refused.refusal m d) (c.abort_all.ensures.system ∙ c.requires.layout) c.in-Err.ensures.err.1) (c.finish-in-Err.ensures.seen walk);
      many = holder_counts (world_of (g.B.Board.layout c.abort_all.new.board)) c.in-Err.refused.refusal m d c.in-Err.ensures.err.1;
    }

pub returns-in-Ok-clause-stays : goal.returns-in-Ok-clause-stays
returns-in-Ok-clause-stays g c = g.met.B.Board.stays_on c.args.board.now c.abort_all.new.board c.note.new.self c.abort_all.ensures.stays c.note.ensures.stays

pub returns-clause-stays : goal.returns-clause-stays
returns-clause-stays g c = g.met.B.Board.stays_on c.args.board.now c.abort_all.new.board c.note.new.self c.abort_all.ensures.stays c.note.ensures.stays

pub returns-in-Ok-clause-apart : goal.returns-in-Ok-clause-apart
returns-in-Ok-clause-apart g c = inr (c.note.ensures.moved ∙ c.abort_all.ensures.moved)

pub returns-clause-apart : goal.returns-clause-apart
returns-clause-apart g c = inr (c.note.ensures.moved ∙ c.abort_all.ensures.moved)
