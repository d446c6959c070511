use Rattle.std.proofs.Common.{◌∙◌, ap, sym, subst}
use Rattle.pgo_model.specs.Log.{Effect}
use Rattle.pgo_syntax.specs.RecordView.{settings_view}
use Rattle.pgo_workers.specs.View.{View}
use Rattle.pgo_section.specs.Programs.{RunsSystem}
use Rattle.pgo_threads.proofs.Turns.{goes_on, is_over, nothing_held, told_as_recorded}
use Rattle.pgo_threads.proofs.drive.drive.Goals as goal

pub returns-in-Idle-clause-nothing : goal.returns-in-Idle-clause-nothing
returns-in-Idle-clause-nothing g c =
    let y = g.S.Sections.system c.args.sections.now in let tree = g.S.Sections.tree c.args.sections.now in let walk = g.S.Sections.walk c.args.sections.now in
    let far = c.loop-turn.invariant.far in
    let x = c.in-Idle.ensures.turned in
    ap (λ (b : View Effect). b.held) x.2
    ∙ nothing_held y tree walk c.loop-turn.worker (g.B.Board.shows c.loop-turn.board) (subst (λ z. RunsSystem y tree (settings_view z)) (sym far.same.settings) c.requires.runs) c.in-Idle.end far.awake x.0 c.loop-turn.invariant.met

pub returns-in-Idle-clause-ended : goal.returns-in-Idle-clause-ended
returns-in-Idle-clause-ended g c =
    let y = g.S.Sections.system c.args.sections.now in let tree = g.S.Sections.tree c.args.sections.now in let walk = g.S.Sections.walk c.args.sections.now in
    is_over y tree walk c.args.worker.now (g.B.Board.shows c.args.board.now) c.loop-turn.worker (g.B.Board.shows c.loop-turn.board) c.turn-made.new.self (g.B.Board.shows c.turn-made.new.board) c.in-Idle.end c.in-Idle.ensures.turned c.loop-turn.invariant.far

pub loop-turn-preserved : goal.loop-turn-preserved
loop-turn-preserved g c =
    let y = g.S.Sections.system c.args.sections.now in let tree = g.S.Sections.tree c.args.sections.now in let walk = g.S.Sections.walk c.args.sections.now in
    let i = c.loop-turn.invariant in let t = c.turn-made.ensures in
    record {
      layout = t.layout ∙ i.layout;
      stays = g.met.B.Board.stays_on c.args.board.now c.loop-turn.board c.turn-made.new.board i.stays t.stays;
      met = t.met;
      far = goes_on y tree walk c.args.worker.now (g.B.Board.shows c.args.board.now) c.loop-turn.worker (g.B.Board.shows c.loop-turn.board) c.turn-made.new.self (g.B.Board.shows c.turn-made.new.board) c.turn-made.result t.same t.turned i.met i.far c.in_default.not-Idle c.in_default.not-NoMemory;
    }

pub returns-in-Idle-clause-refused : goal.returns-in-Idle-clause-refused
returns-in-Idle-clause-refused g c =
    told_as_recorded (g.S.Sections.system c.args.sections.now) (g.S.Sections.tree c.args.sections.now) (g.S.Sections.walk c.args.sections.now) c.args.worker.now (g.B.Board.shows c.args.board.now) c.turn-made.new.self (g.B.Board.shows c.turn-made.new.board) c.requires.met c.requires.unused c.turn-made.ensures.met

pub returns-in-NoMemory-clause-refused : goal.returns-in-NoMemory-clause-refused
returns-in-NoMemory-clause-refused g c =
    told_as_recorded (g.S.Sections.system c.args.sections.now) (g.S.Sections.tree c.args.sections.now) (g.S.Sections.walk c.args.sections.now) c.args.worker.now (g.B.Board.shows c.args.board.now) c.turn-made.new.self (g.B.Board.shows c.turn-made.new.board) c.requires.met c.requires.unused c.turn-made.ensures.met

pub returns-clause-refused : goal.returns-clause-refused
returns-clause-refused g c =
    told_as_recorded (g.S.Sections.system c.args.sections.now) (g.S.Sections.tree c.args.sections.now) (g.S.Sections.walk c.args.sections.now) c.args.worker.now (g.B.Board.shows c.args.board.now) c.stop.new.self (g.B.Board.shows c.stop.new.board) c.requires.met c.requires.unused c.stop.ensures.met
