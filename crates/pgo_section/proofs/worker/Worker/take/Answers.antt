use Rattle.std.proofs.Common.{◌∙◌, ◌<◌, length, Some, sym, ap, subst, inl, inr}
use Rattle.pgo_resource.specs.Answers.{RefusedTake}
use Rattle.pgo_workers.specs.View.{Takes, resources_of}
use Rattle.pgo_workers.specs.Worlds.{Layout, world_of}
use Rattle.pgo_section.specs.Sight.{see, phase_at, placed}
use Rattle.pgo_section.proofs.Events.{not_held, next_inside, has_room, has_record_room, refused_held, within_room, took, was_refused}
use Rattle.pgo_section.proofs.ManyTold.{take_counts}
use Rattle.pgo_section.proofs.worker.Worker.take.Goals as goal

pub take-requires-clause-inside : goal.take-requires-clause-inside
take-requires-clause-inside g c =
    let a = c.args.self.now in let y = g.S.Sections.system c.args.sections.now in let tree = g.S.Sections.tree c.args.sections.now in let walk = g.S.Sections.walk c.args.sections.now in let b = g.B.Board.shows c.args.board.now in let p = c.args.place in
    subst (λ n. c.args.r < n) (sym (g.met.B.Board.resources c.args.board.now ∙ ap (λ (l : Layout). length l.resources) c.requires.layout))
    (next_inside y tree walk a p c.requires.going b c.requires.met.meets c.requires.runs c.args.r c.requires.next)

pub take-requires-clause-free : goal.take-requires-clause-free
take-requires-clause-free g c = not_held (g.B.Board.shows c.args.board.now).held c.args.self.now.taken.items c.args.r c.requires.met.meets.taken c.requires.new

pub push_reserved-requires : goal.push_reserved-requires
push_reserved-requires g c =
    let a = c.args.self.now in let y = g.S.Sections.system c.args.sections.now in let tree = g.S.Sections.tree c.args.sections.now in let walk = g.S.Sections.walk c.args.sections.now in let b = g.B.Board.shows c.args.board.now in let p = c.args.place in
    within_room _ (length a.taken.items) (length y.resources) _ a.taken.ok.0
    (has_room y tree walk a p c.requires.going b c.requires.met.meets c.requires.met.fits c.args.r (next_inside y tree walk a p c.requires.going b c.requires.met.meets c.requires.runs c.args.r c.requires.next) c.requires.new)
    c.requires.met.fits.taken

pub abort_all-requires-clause-held : goal.abort_all-requires-clause-held
abort_all-requires-clause-held g c = c.requires.met.meets.taken ∙ ap resources_of (sym (refused_held (world_of (g.B.Board.layout c.args.board.now)) c.args.r c.in-Err.refusal (g.B.Board.shows c.args.board.now) (g.B.Board.shows c.take.new.self) c.in-Err.ensures.err))

pub abort_all-requires-clause-once : goal.abort_all-requires-clause-once
abort_all-requires-clause-once g c = c.requires.met.meets.once

pub finish-requires-clause-room : goal.finish-requires-clause-room
finish-requires-clause-room g c =
    let a = c.args.self.now in let y = g.S.Sections.system c.args.sections.now in let tree = g.S.Sections.tree c.args.sections.now in let walk = g.S.Sections.walk c.args.sections.now in let b = g.B.Board.shows c.args.board.now in let p = c.args.place in
    has_record_room y tree walk a p c.requires.going b c.requires.met.meets c.requires.met.fits

pub finish-requires-clause-many : goal.finish-requires-clause-many
finish-requires-clause-many g c = take_counts (world_of (g.B.Board.layout c.args.board.now)) c.args.r c.in-Err.refusal (g.B.Board.shows c.args.board.now) (g.B.Board.shows c.take.new.self) c.in-Err.ensures.err

pub returns-in-Ok-clause-turned : goal.returns-in-Ok-clause-turned
returns-in-Ok-clause-turned g c =
    let a = c.args.self.now in let y = g.S.Sections.system c.args.sections.now in let tree = g.S.Sections.tree c.args.sections.now in let walk = g.S.Sections.walk c.args.sections.now in let b = g.B.Board.shows c.args.board.now in let p = c.args.place in
    took y tree walk a p c.requires.going b (g.B.Board.shows c.take.new.self) _ c.args.r c.requires.next c.requires.new
    (subst (λ l. Takes (world_of l) c.args.r b (g.B.Board.shows c.take.new.self)) c.requires.layout c.in-Ok.ensures.ok)
    (λ i. record (see walk (placed a p)) { phase = phase_at walk a.giving (Some p) 0; taken = c.push_reserved.ensures.items i })

pub returns-in-Err-clause-turned : goal.returns-in-Err-clause-turned
returns-in-Err-clause-turned g c =
    let a = c.args.self.now in let y = g.S.Sections.system c.args.sections.now in let tree = g.S.Sections.tree c.args.sections.now in let walk = g.S.Sections.walk c.args.sections.now in let b = g.B.Board.shows c.args.board.now in let p = c.args.place in
    record {
      turned = was_refused y tree walk a p c.requires.going b (g.B.Board.shows c.take.new.self) _ _ c.args.r c.in-Err.refusal c.requires.next c.requires.new
          (subst (λ l. RefusedTake (world_of l) c.args.r c.in-Err.refusal b (g.B.Board.shows c.take.new.self)) c.requires.layout c.in-Err.ensures.err)
          c.abort_all.ensures.shows (c.finish.ensures.seen walk);
      many = take_counts (world_of (g.B.Board.layout c.args.board.now)) c.args.r c.in-Err.refusal b (g.B.Board.shows c.take.new.self) c.in-Err.ensures.err;
    }

pub returns-in-Err-clause-stays : goal.returns-in-Err-clause-stays
returns-in-Err-clause-stays g c = g.met.B.Board.stays_on c.args.board.now c.take.new.self c.abort_all.new.board c.take.ensures.stays c.abort_all.ensures.stays

pub returns-in-Ok-clause-apart : goal.returns-in-Ok-clause-apart
returns-in-Ok-clause-apart g c = inl c.take.ensures.lent

pub returns-in-Err-clause-apart : goal.returns-in-Err-clause-apart
returns-in-Err-clause-apart g c = inr (c.abort_all.ensures.moved ∙ c.in-Err.ensures.still)
