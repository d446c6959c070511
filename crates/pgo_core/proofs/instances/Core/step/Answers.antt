use Rattle.std.proofs.Common.{◌≡◌, ◌++◌, ◌∷◌, [], suc, ◌+◌, refl, ◌∙◌, subst, arith}
use Rattle.pgo_core.specs.AllViews.{Became}
use Rattle.pgo_core.specs.Cores.{StandsWith}
use Rattle.pgo_core.specs.ExclusiveBoards.{views_of}
use Rattle.pgo_core.specs.Instances.{system_of, settings_of}
use Rattle.pgo_workers.specs.Worlds.{layout_of}
use Rattle.pgo_core.proofs.CoreTurned.{stands_after, told_after}
use Rattle.pgo_core.proofs.SafeKept.{safe_kept}
use Rattle.pgo_core.proofs.TurnAnswers.{turn_answers, turn_tells}
use Rattle.pgo_core.proofs.StepMade.{unmixed, board_at, runs_of, met_of, turn_at, idle_keeps}
use Rattle.pgo_core.proofs.instances.Core.step.Goals as goal

pub turn_of-requires-clause-runs : goal.turn_of-requires-clause-runs
turn_of-requires-clause-runs g c =
    let a = c.args.self.now in runs_of (g.S.Sections.system a.sections) (g.S.Sections.tree a.sections) (g.S.Sections.walk a.sections) (settings_of a) c.args.k a.workers.items (views_of a.board) c.requires.safe.seats

pub turn_of-requires-clause-met : goal.turn_of-requires-clause-met
turn_of-requires-clause-met g c =
    let a = c.args.self.now in
    met_of (g.S.Sections.system a.sections) (g.S.Sections.tree a.sections) (g.S.Sections.walk a.sections) (settings_of a) c.args.k a.workers.items (views_of a.board) c.requires.safe.seats (views_of c.set_current.new.self)
    (record { current = c.set_current.ensures.current; views = c.set_current.ensures.views; content = c.set_current.ensures.contents }) (board_at a.board (layout_of (system_of a)) c.requires.safe.layout)

pub returns-clause-safe : goal.returns-clause-safe
returns-clause-safe g c =
    let a = c.args.self.now in let y = g.S.Sections.system a.sections in let tree = g.S.Sections.tree a.sections in let walk = g.S.Sections.walk a.sections in
    let s = views_of a.board in let u = views_of c.set_current.new.self in let t = views_of c.turn_of.new.board in
    let became : Became c.args.k s u = record { current = c.set_current.ensures.current; views = c.set_current.ensures.views; content = c.set_current.ensures.contents } in
    let old = board_at a.board (layout_of y) c.requires.safe.layout in
    let layout = c.set_current.ensures.layout ∙ c.requires.safe.layout in
    let x = turn_at y tree walk (settings_of a) c.args.k a.workers.items s c.requires.safe.seats u became old c.turn_of.new.workers.items t c.turn_of.result c.turn_of.ensures.stays c.turn_of.ensures.turned in
    record {
      layout = c.turn_of.ensures.layout ∙ layout;
      seats = safe_kept y tree walk (settings_of a) c.args.k a.workers.items c.turn_of.new.workers.items s u t c.requires.safe.seats became old (board_at c.set_current.new.self (layout_of y) layout) (board_at c.turn_of.new.board (layout_of y) (c.turn_of.ensures.layout ∙ layout))
          c.turn_of.ensures.stays x.worker x.after x.there x.workers x.same x.met;
    }

pub returns-clause-turns : goal.returns-clause-turns
returns-clause-turns g c =
    let a = c.args.self.now in let y = g.S.Sections.system a.sections in let tree = g.S.Sections.tree a.sections in let walk = g.S.Sections.walk a.sections in
    let k = c.args.k in let ws = a.workers.items in let vs = c.turn_of.new.workers.items in let answer = c.turn_of.result in
    let s = views_of a.board in let u = views_of c.set_current.new.self in let t = views_of c.turn_of.new.board in
    let became : Became k s u = record { current = c.set_current.ensures.current; views = c.set_current.ensures.views; content = c.set_current.ensures.contents } in
    let old = board_at a.board (layout_of y) c.requires.safe.layout in
    let layout = c.set_current.ensures.layout ∙ c.requires.safe.layout in
    let before = board_at c.set_current.new.self (layout_of y) layout in
    let after = board_at c.turn_of.new.board (layout_of y) (c.turn_of.ensures.layout ∙ layout) in
    let x = turn_at y tree walk (settings_of a) k ws s c.requires.safe.seats u became old vs t answer c.turn_of.ensures.stays c.turn_of.ensures.turned in
    let one : suc a.made ≡ a.made + 1 = omega arith in
    record {
      same = record { sections = refl; settings = refl };
      stands = λ has turns st fits.
          subst (λ n. StandsWith y tree walk (settings_of a) fits (turns ++ (k ∷ [])) n vs t) one
          (stands_after y tree walk (settings_of a) turns a.made k ws vs s u t answer c.requires.safe.seats became old before after c.turn_of.ensures.stays x has (unmixed answer u.lent t.lent u.moved t.moved has c.turn_of.ensures.apart c.set_current.ensures.lent c.set_current.ensures.moved) c.requires.made fits (st fits));
      told_is = λ has turns st fits. told_after y tree walk (settings_of a) turns a.made k ws vs s u t answer c.requires.safe.seats became old before after c.turn_of.ensures.stays x has (unmixed answer u.lent t.lent u.moved t.moved has c.turn_of.ensures.apart c.set_current.ensures.lent c.set_current.ensures.moved) c.requires.made fits (st fits);
      many = turn_tells y tree walk x.worker x.after (u.view k) (t.view k) answer x.turned;
      answer = λ has turns st fits. turn_answers y tree walk (settings_of a) fits turns a.made k ws s (st fits) c.requires.safe.seats x.worker x.there x.after (u.view k) (t.view k) answer has x.turned;
    }

pub returns-clause-idle : goal.returns-clause-idle
returns-clause-idle g c =
    let a = c.args.self.now in
    idle_keeps (g.S.Sections.system a.sections) (g.S.Sections.tree a.sections) (g.S.Sections.walk a.sections) c.args.k a.workers.items c.turn_of.new.workers.items _ _ c.turn_of.result c.turn_of.ensures.turned

pub returns-clause-left : goal.returns-clause-left
returns-clause-left g c = omega (arith, c.requires.made)
