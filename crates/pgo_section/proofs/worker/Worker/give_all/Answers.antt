use Rattle.std.proofs.Common.{◌∙◌, refl, sym, subst}
use Rattle.pgo_syntax.specs.RecordView.{settings_view}
use Rattle.pgo_workers.specs.Worker as spec
use Rattle.pgo_section.specs.Programs.{RunsSystem}
use Rattle.pgo_section.proofs.Keeping.{keeps_both, met_kept}
use Rattle.pgo_section.proofs.worker.Worker.give_all.Goals as goal

pub loop-self-init : goal.loop-self-init
loop-self-init g c = record {
  keeps = record { same = record { number = refl; settings = refl; records_room = refl; taken_room = refl; told = λ h. h }; out = refl };
  layout = refl;
  stays = g.met.B.Board.stays_same c.args.board.now;
  records = refl;
  giving = c.requires.giving;
  met = c.requires.met;
}

pub loop-self-preserved : goal.loop-self-preserved
loop-self-preserved g c =
    let a = c.loop-self.self in let n = c.give.new.self in let y = g.S.Sections.system c.args.sections.now in let tree = g.S.Sections.tree c.args.sections.now in let walk = g.S.Sections.walk c.args.sections.now in
    let b = g.B.Board.shows c.loop-self.board in let d = g.B.Board.shows c.give.new.board in let law = g.met.B.Board in let i = c.loop-self.invariant in
    record {
      keeps = keeps_both c.args.self.now a n i.keeps c.give.ensures.keeps;
      layout = c.give.ensures.layout ∙ i.layout;
      stays = law.stays_on c.args.board.now c.loop-self.board c.give.new.board i.stays c.give.ensures.stays;
      records = c.give.ensures.records ∙ i.records;
      giving = c.give.ensures.giving;
      met = met_kept y tree walk a n b d spec.Went (subst (λ s. RunsSystem y tree (settings_view s)) (sym i.keeps.same.settings) c.requires.runs) c.give.ensures.keeps.same (law.room c.loop-self.board) (law.room c.give.new.board) c.give.ensures.turned i.met;
    }
