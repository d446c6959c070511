use Rattle.std.proofs.Common.{◌∙◌, sym, subst}
use Rattle.pgo_syntax.specs.RecordView.{settings_view}
use Rattle.pgo_section.specs.Programs.{RunsSystem}
use Rattle.pgo_section.proofs.Keeping.{same_both, had_memory, is_last, turn_apart, met_kept, ran_turned, turned_by, wanted}
use Rattle.pgo_section.proofs.worker.Worker.step.Goals as goal

pub returns-in-Ok-clause-same : goal.returns-in-Ok-clause-same
returns-in-Ok-clause-same g c = c.in-Ok.ensures.keeps.same

pub returns-in-Ok-clause-turned : goal.returns-in-Ok-clause-turned
returns-in-Ok-clause-turned g c =
    let a = c.args.self.now in let y = g.S.Sections.system c.args.sections.now in let tree = g.S.Sections.tree c.args.sections.now in let walk = g.S.Sections.walk c.args.sections.now in let b = g.B.Board.shows c.args.board.now in
    turned_by y tree walk a c.make_turn.new.self b (g.B.Board.shows c.make_turn.new.board) c.in-Ok.turn c.requires.on c.in-Ok.ensures.keeps c.in-Ok.ensures.turned

pub returns-in-Ok-clause-last : goal.returns-in-Ok-clause-last
returns-in-Ok-clause-last g c =
    let a = c.args.self.now in let y = g.S.Sections.system c.args.sections.now in let tree = g.S.Sections.tree c.args.sections.now in let walk = g.S.Sections.walk c.args.sections.now in let b = g.B.Board.shows c.args.board.now in
    is_last y tree walk a c.make_turn.new.self b (g.B.Board.shows c.make_turn.new.board) c.in-Ok.turn c.requires.runs c.in-Ok.ensures.turned

pub returns-in-Ok-clause-met : goal.returns-in-Ok-clause-met
returns-in-Ok-clause-met g c =
    let a = c.args.self.now in let y = g.S.Sections.system c.args.sections.now in let tree = g.S.Sections.tree c.args.sections.now in let walk = g.S.Sections.walk c.args.sections.now in let b = g.B.Board.shows c.args.board.now in let v = c.make_turn.new.self in let d = g.B.Board.shows c.make_turn.new.board in let law = g.met.B.Board in
    let r = ran_turned y tree walk a v b d c.in-Ok.turn c.in-Ok.ensures.turned in
    met_kept y tree walk a v b d r.0 c.requires.runs c.in-Ok.ensures.keeps.same (law.room c.args.board.now) (law.room c.make_turn.new.board) r.1 c.requires.met

pub run_out-requires-clause-runs : goal.run_out-requires-clause-runs
run_out-requires-clause-runs g c = let a = c.args.self.now in let y = g.S.Sections.system c.args.sections.now in let tree = g.S.Sections.tree c.args.sections.now in let walk = g.S.Sections.walk c.args.sections.now in let b = g.B.Board.shows c.args.board.now in subst (λ s. RunsSystem y tree (settings_view s)) (sym c.in-Err.ensures.wants.keeps.same.settings) c.requires.runs

pub run_out-requires-clause-drops : goal.run_out-requires-clause-drops
run_out-requires-clause-drops g c =
    let a = c.args.self.now in let y = g.S.Sections.system c.args.sections.now in let tree = g.S.Sections.tree c.args.sections.now in let walk = g.S.Sections.walk c.args.sections.now in let b = g.B.Board.shows c.args.board.now in
    wanted y tree walk a c.make_turn.new.self b (g.B.Board.shows c.make_turn.new.board) c.in-Err.ensures.going c.in-Err.ensures.wants c.requires.met

pub returns-in-Err-clause-same : goal.returns-in-Err-clause-same
returns-in-Err-clause-same g c = same_both c.args.self.now c.make_turn.new.self c.run_out.new.self c.in-Err.ensures.wants.keeps.same c.run_out.ensures.same

pub returns-in-Err-clause-turned : goal.returns-in-Err-clause-turned
returns-in-Err-clause-turned g c = (c.requires.on, record { before = had_memory c.args.self.now c.requires.on; after = c.run_out.ensures.out; records = c.run_out.ensures.records ∙ c.in-Err.ensures.wants.records; held = c.run_out.ensures.nothing })

pub returns-in-Err-clause-stays : goal.returns-in-Err-clause-stays
returns-in-Err-clause-stays g c = g.met.B.Board.stays_on c.args.board.now c.make_turn.new.board c.run_out.new.board c.make_turn.ensures.stays c.run_out.ensures.stays

pub returns-in-Ok-clause-apart : goal.returns-in-Ok-clause-apart
returns-in-Ok-clause-apart g c = turn_apart c.in-Ok.turn _ _ _ _ c.in-Ok.ensures.apart
