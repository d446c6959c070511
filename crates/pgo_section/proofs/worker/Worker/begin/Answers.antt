use Rattle.std.proofs.Common.{◌∙◌, refl, ap}
use Rattle.pgo_section.specs.Turns.{Keeps, Wants}
use Rattle.pgo_section.proofs.Begins.{is_left, begun_met, begun_ran}
use Rattle.pgo_section.proofs.Keeping.{wants_none, any_err, keeps_from, wants_from, on_ok, on_err, on_both}
use Rattle.pgo_section.proofs.worker.Worker.begin.Goals as goal

pub attempt-attempt-requires : goal.attempt-attempt-requires
attempt-attempt-requires g c = let a = c.args.self.now in let y = g.S.Sections.system c.args.sections.now in let tree = g.S.Sections.tree c.args.sections.now in let walk = g.S.Sections.walk c.args.sections.now in let b = g.B.Board.shows c.args.board.now in is_left y tree walk a c.requires.going c.requires.rests c.requires.on b c.requires.runs c.requires.met

pub returns-in_err-place-clause-wants : goal.returns-in_err-place-clause-wants
returns-in_err-place-clause-wants g c = any_err c.from_residual.result _ (wants_none c.args.self.now (g.B.Board.shows c.args.board.now) (g.B.Board.shows c.args.board.now) refl)

pub event-requires-clause-met : goal.event-requires-clause-met
event-requires-clause-met g c =
    let a = c.args.self.now in let y = g.S.Sections.system c.args.sections.now in let tree = g.S.Sections.tree c.args.sections.now in let walk = g.S.Sections.walk c.args.sections.now in let b = g.B.Board.shows c.args.board.now in
    begun_met y tree walk a c.requires.going c.requires.rests c.requires.on c.in_ok-place.place (c.in_ok-place.ensures ∙ ap (λ k. tree a.settings.seed a.number k a.own) c.attempt-attempt.ensures) b c.requires.runs c.requires.met

pub returns-clause-keeps : goal.returns-clause-keeps
returns-clause-keeps g c = on_both c.event.result _ (Keeps c.args.self.now c.event.new.self) (λ k. keeps_from c.args.self.now c.event.new.self c.args.self.now.place 0 k) c.event.ensures.keeps

pub returns-clause-wants : goal.returns-clause-wants
returns-clause-wants g c =
    let a = c.args.self.now in let y = g.S.Sections.system c.args.sections.now in let tree = g.S.Sections.tree c.args.sections.now in let walk = g.S.Sections.walk c.args.sections.now in let b = g.B.Board.shows c.args.board.now in
    on_err c.event.result _ (Wants a b c.event.new.self (g.B.Board.shows c.event.new.board)) (λ x. wants_from a c.event.new.self a.place 0 b (g.B.Board.shows c.event.new.board) x) c.event.ensures.wants

pub returns-clause-turned : goal.returns-clause-turned
returns-clause-turned g c =
    let a = c.args.self.now in let y = g.S.Sections.system c.args.sections.now in let tree = g.S.Sections.tree c.args.sections.now in let walk = g.S.Sections.walk c.args.sections.now in let b = g.B.Board.shows c.args.board.now in
    on_ok c.event.result _ _ (λ t h. begun_ran y tree walk a c.requires.going c.requires.rests c.requires.on c.in_ok-place.place (c.in_ok-place.ensures ∙ ap (λ k. tree a.settings.seed a.number k a.own) c.attempt-attempt.ensures) b (g.B.Board.shows c.event.new.board) c.event.new.self t h) c.event.ensures.turned

pub returns-in_err-place-clause-stays : goal.returns-in_err-place-clause-stays
returns-in_err-place-clause-stays g c = g.met.B.Board.stays_same c.args.board.now
