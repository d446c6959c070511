use Rattle.std.proofs.Common.{◌∙◌, refl, sym, ap, inr}
use Rattle.pgo_workers.specs.Holds as holds
use Rattle.pgo_workers.specs.View.{resources_of}
use Rattle.pgo_section.proofs.Boards.{some_is, at_among, is_held}
use Rattle.pgo_section.proofs.Events.{nth_is, readied, was_down, has_record_room}
use Rattle.pgo_section.proofs.worker.Worker.pre_commit.Goals as goal

pub content-requires : goal.content-requires
content-requires g c =
    let a = c.args.self.now in let r = c.index-resource.result.now in
    record { held = is_held (g.B.Board.shows c.args.board.now).held a.taken.items r (sym c.requires.met.meets.taken) (at_among a.taken.items a.readied r c.requires.left c.index-resource.ensures) }

pub abort_all-requires-clause-held : goal.abort_all-requires-clause-held
abort_all-requires-clause-held g c =
    let a = c.args.self.now in let b = g.B.Board.shows c.args.board.now in let r = c.index-resource.result.now in
    let there = is_held b.held a.taken.items r (sym c.requires.met.meets.taken) (at_among a.taken.items a.readied r c.requires.left c.index-resource.ensures) in
    c.requires.met.meets.taken ∙ sym (holds.resources_with r (g.B.Content.Resource.shows c.pre_commit.new.self) b.held) ∙ ap (λ v. resources_of v.held) (sym (g.met.B.Board.puts c.args.board.now r c.pre_commit.new.self there))

pub abort_all-requires-clause-once : goal.abort_all-requires-clause-once
abort_all-requires-clause-once g c = c.requires.met.meets.once

pub finish-requires-clause-room : goal.finish-requires-clause-room
finish-requires-clause-room g c =
    let a = c.args.self.now in let y = g.S.Sections.system c.args.sections.now in let tree = g.S.Sections.tree c.args.sections.now in let walk = g.S.Sections.walk c.args.sections.now in let b = g.B.Board.shows c.args.board.now in let p = c.args.place in
    has_record_room y tree walk a p c.requires.going b c.requires.met.meets c.requires.met.fits

pub returns-in-Ok-clause-turned : goal.returns-in-Ok-clause-turned
returns-in-Ok-clause-turned g c =
    let a = c.args.self.now in let y = g.S.Sections.system c.args.sections.now in let tree = g.S.Sections.tree c.args.sections.now in let walk = g.S.Sections.walk c.args.sections.now in let b = g.B.Board.shows c.args.board.now in let p = c.args.place in let law = g.met.B.Board in let M = g.B.Content.Resource.shows in let r = c.index-resource.result.now in
    let there = is_held b.held a.taken.items r (sym c.requires.met.meets.taken) (at_among a.taken.items a.readied r c.requires.left c.index-resource.ensures) in
    let h = some_is _ there in
    let is = law.shown c.args.board.now r c.content.result.now h.0 c.content.ensures.value h.1 in
    readied y tree walk a p c.requires.going b _ _ r c.requires.next (nth_is a.taken.items a.readied r c.requires.left c.index-resource.ensures) h.0 h.1 (M c.content.result.now) (M c.pre_commit.new.self) is c.pre_commit.ensures.counts c.in-Ok.ensures.up
    (law.puts c.args.board.now r c.pre_commit.new.self there) refl

pub returns-in-Err-clause-turned : goal.returns-in-Err-clause-turned
returns-in-Err-clause-turned g c =
    let a = c.args.self.now in let y = g.S.Sections.system c.args.sections.now in let tree = g.S.Sections.tree c.args.sections.now in let walk = g.S.Sections.walk c.args.sections.now in let b = g.B.Board.shows c.args.board.now in let p = c.args.place in let law = g.met.B.Board in let M = g.B.Content.Resource.shows in let r = c.index-resource.result.now in
    let there = is_held b.held a.taken.items r (sym c.requires.met.meets.taken) (at_among a.taken.items a.readied r c.requires.left c.index-resource.ensures) in
    let h = some_is _ there in
    let is = law.shown c.args.board.now r c.content.result.now h.0 c.content.ensures.value h.1 in
    record {
      turned = was_down y tree walk a p c.requires.going b _ _ _ r c.in-Err.down.operation c.requires.next (nth_is a.taken.items a.readied r c.requires.left c.index-resource.ensures) h.0 h.1 (M c.content.result.now) (M c.pre_commit.new.self) is c.pre_commit.ensures.counts c.in-Err.ensures.down.0 c.in-Err.ensures.down.1
          (law.puts c.args.board.now r c.pre_commit.new.self there) c.abort_all.ensures.shows (c.finish.ensures.seen walk);
      many = refl;
    }

pub returns-in-Ok-clause-stays : goal.returns-in-Ok-clause-stays
returns-in-Ok-clause-stays g c =
    let a = c.args.self.now in let r = c.index-resource.result.now in
    g.met.B.Board.stays_with c.args.board.now r c.pre_commit.new.self (is_held (g.B.Board.shows c.args.board.now).held a.taken.items r (sym c.requires.met.meets.taken) (at_among a.taken.items a.readied r c.requires.left c.index-resource.ensures))

pub returns-in-Err-clause-stays : goal.returns-in-Err-clause-stays
returns-in-Err-clause-stays g c =
    let a = c.args.self.now in let r = c.index-resource.result.now in let law = g.met.B.Board in
    law.stays_on c.args.board.now (g.B.Board.with_board c.args.board.now r c.pre_commit.new.self) c.abort_all.new.board
    (law.stays_with c.args.board.now r c.pre_commit.new.self (is_held (g.B.Board.shows c.args.board.now).held a.taken.items r (sym c.requires.met.meets.taken) (at_among a.taken.items a.readied r c.requires.left c.index-resource.ensures)))
    c.abort_all.ensures.stays

pub returns-in-Ok-clause-apart : goal.returns-in-Ok-clause-apart
returns-in-Ok-clause-apart g c = inr (c.content.ensures.moved c.pre_commit.new.self)

pub returns-in-Err-clause-apart : goal.returns-in-Err-clause-apart
returns-in-Err-clause-apart g c = inr (c.abort_all.ensures.moved ∙ c.content.ensures.moved c.pre_commit.new.self)
