use Rattle.std.proofs.Common.{refl, ap, ◌∙◌}
use Rattle.pgo_model.specs.Log.{Effect}
use Rattle.pgo_workers.specs.View.{View}
use Rattle.pgo_workers.specs.Worlds.{layout_of}
use Rattle.pgo_core.specs.AllViews.{Became}
use Rattle.pgo_core.specs.ExclusiveBoards.{views_of}
use Rattle.pgo_core.specs.Instances.{system_of, settings_of}
use Rattle.pgo_core.proofs.SafeKept.{became_met, safe_kept}
use Rattle.pgo_core.proofs.StepMade.{board_at, runs_of, met_of, stop_at}
use Rattle.pgo_core.proofs.Stopped.{stop_journal, stop_rests}
use Rattle.pgo_core.proofs.instances.Core.stop_one.Goals as goal

pub stop_of-requires-clause-runs : goal.stop_of-requires-clause-runs
stop_of-requires-clause-runs g c =
    let a = c.args.self.now in runs_of (g.S.Sections.system a.sections) (g.S.Sections.tree a.sections) (g.S.Sections.walk a.sections) (settings_of a) c.args.k a.workers.items (views_of a.board) c.requires.safe.seats

pub stop_of-requires-clause-met : goal.stop_of-requires-clause-met
stop_of-requires-clause-met g c =
    let a = c.args.self.now in
    met_of (g.S.Sections.system a.sections) (g.S.Sections.tree a.sections) (g.S.Sections.walk a.sections) (settings_of a) c.args.k a.workers.items (views_of a.board) c.requires.safe.seats (views_of c.set_current.new.self)
    (record { current = c.set_current.ensures.current; views = c.set_current.ensures.views; content = c.set_current.ensures.contents }) (board_at a.board (layout_of (system_of a)) c.requires.safe.layout)

pub returns-clause-safe : goal.returns-clause-safe
returns-clause-safe g c =
    let a = c.args.self.now in let y = g.S.Sections.system a.sections in let tree = g.S.Sections.tree a.sections in let walk = g.S.Sections.walk a.sections in
    let s = views_of a.board in let u = views_of c.set_current.new.self in let t = views_of c.stop_of.new.board in
    let became : Became c.args.k s u = record { current = c.set_current.ensures.current; views = c.set_current.ensures.views; content = c.set_current.ensures.contents } in
    let old = board_at a.board (layout_of y) c.requires.safe.layout in
    let layout = c.set_current.ensures.layout ∙ c.requires.safe.layout in
    let x = stop_at y tree walk (settings_of a) c.args.k a.workers.items s c.requires.safe.seats u became old c.stop_of.new.workers.items t c.stop_of.ensures.stays c.stop_of.ensures.stopped in
    record {
      layout = c.stop_of.ensures.layout ∙ layout;
      seats = safe_kept y tree walk (settings_of a) c.args.k a.workers.items c.stop_of.new.workers.items s u t c.requires.safe.seats became old (board_at c.set_current.new.self (layout_of y) layout) (board_at c.stop_of.new.board (layout_of y) (c.stop_of.ensures.layout ∙ layout))
          c.stop_of.ensures.stays x.worker x.after x.there x.workers x.keeps.same x.met;
    }

pub returns-clause-stopped : goal.returns-clause-stopped
returns-clause-stopped g c =
    let a = c.args.self.now in let y = g.S.Sections.system a.sections in let tree = g.S.Sections.tree a.sections in let walk = g.S.Sections.walk a.sections in
    let k = c.args.k in let s = views_of a.board in let u = views_of c.set_current.new.self in let t = views_of c.stop_of.new.board in
    let became : Became k s u = record { current = c.set_current.ensures.current; views = c.set_current.ensures.views; content = c.set_current.ensures.contents } in
    let old = board_at a.board (layout_of y) c.requires.safe.layout in
    let layout = c.set_current.ensures.layout ∙ c.requires.safe.layout in
    let before = board_at c.set_current.new.self (layout_of y) layout in
    let after = board_at c.stop_of.new.board (layout_of y) (c.stop_of.ensures.layout ∙ layout) in
    let leaves = c.stop_of.ensures.stays in
    let x = stop_at y tree walk (settings_of a) k a.workers.items s c.requires.safe.seats u became old c.stop_of.new.workers.items t leaves c.stop_of.ensures.stopped in
    let seat = c.requires.safe.seats.seats k x.worker x.there in
    let met = became_met y tree walk x.worker k k s u (runs_of y tree walk (settings_of a) k a.workers.items s c.requires.safe.seats x.worker x.there) old became seat.met in
    let j = stop_journal y tree walk x.worker x.after k u t seat.number x.keeps.same.number x.keeps.same.settings became.current before after leaves met x.met x.records x.keeps.out x.held in
    record {
      same = record { sections = refl; settings = refl };
      journal = record {
        entries = λ i. j.entries i ∙ ap (λ (b : View Effect). b.entries) (became.views i);
        notes = λ i. j.notes i ∙ ap (λ (b : View Effect). b.notes) (became.views i);
      };
      worker = x.worker;
      after = x.after;
      there = x.there;
      workers = x.workers;
      rests = stop_rests y tree walk x.worker x.after k u t seat.number x.keeps.same.number x.keeps.same.settings became.current before after leaves met x.met x.records x.keeps.out x.held;
    }
