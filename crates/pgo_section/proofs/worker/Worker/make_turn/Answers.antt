use Rattle.std.proofs.Common.{◌∙◌, refl, sym}
use Rattle.pgo_section.specs.Sight.{placed}
use Rattle.pgo_section.specs.Turns.{Keeps, Wants}
use Rattle.pgo_section.proofs.Keeping.{see_put, see_place, met_seen, ran_seen, end_same, keeps_from, wants_from, on_ok, on_err, on_both}
use Rattle.pgo_section.proofs.worker.Worker.make_turn.Goals as goal

pub event-requires-clause-met : goal.event-requires-clause-met
event-requires-clause-met g c =
    let a = c.args.self.now in let y = g.S.Sections.system c.args.sections.now in let tree = g.S.Sections.tree c.args.sections.now in let walk = g.S.Sections.walk c.args.sections.now in let b = g.B.Board.shows c.args.board.now in let p = c.in-Some.place in
    met_seen y tree walk a (placed a p) b (record { number = refl; settings = refl; records_room = refl; taken_room = refl; told = λ h. h }) (see_put y tree walk a p (sym c.take.ensures.value ∙ c.in-Some.is)) c.requires.met

pub returns-in-Some-clause-keeps : goal.returns-in-Some-clause-keeps
returns-in-Some-clause-keeps g c = on_both c.event.result _ (Keeps c.args.self.now c.event.new.self) (λ k. keeps_from c.args.self.now c.event.new.self c.take.new.self c.args.self.now.readied k) c.event.ensures.keeps

pub returns-in-Some-clause-wants : goal.returns-in-Some-clause-wants
returns-in-Some-clause-wants g c =
    let a = c.args.self.now in let y = g.S.Sections.system c.args.sections.now in let tree = g.S.Sections.tree c.args.sections.now in let walk = g.S.Sections.walk c.args.sections.now in let b = g.B.Board.shows c.args.board.now in
    on_err c.event.result _ (Wants a b c.event.new.self (g.B.Board.shows c.event.new.board)) (λ x. wants_from a c.event.new.self c.take.new.self a.readied b (g.B.Board.shows c.event.new.board) x) c.event.ensures.wants

pub returns-in-Some-clause-turned : goal.returns-in-Some-clause-turned
returns-in-Some-clause-turned g c =
    let a = c.args.self.now in let y = g.S.Sections.system c.args.sections.now in let tree = g.S.Sections.tree c.args.sections.now in let walk = g.S.Sections.walk c.args.sections.now in let b = g.B.Board.shows c.args.board.now in let p = c.in-Some.place in
    on_ok c.event.result _ _ (λ t h. ran_seen y tree walk (placed a p) a b (g.B.Board.shows c.event.new.board) c.event.new.self refl (sym (see_put y tree walk a p (sym c.take.ensures.value ∙ c.in-Some.is))) t h) c.event.ensures.turned

pub begin-requires-clause-rests : goal.begin-requires-clause-rests
begin-requires-clause-rests g c = c.take.ensures.after

pub begin-requires-clause-on : goal.begin-requires-clause-on
begin-requires-clause-on g c = end_same c.args.self.now c.take.new.self (sym c.take.ensures.value ∙ c.in-None.is ∙ sym c.take.ensures.after) c.requires.on

pub begin-requires-clause-met : goal.begin-requires-clause-met
begin-requires-clause-met g c =
    let a = c.args.self.now in let y = g.S.Sections.system c.args.sections.now in let tree = g.S.Sections.tree c.args.sections.now in let walk = g.S.Sections.walk c.args.sections.now in let b = g.B.Board.shows c.args.board.now in
    met_seen y tree walk a (record a { place = c.take.new.self }) b (record { number = refl; settings = refl; records_room = refl; taken_room = refl; told = λ h. h }) (see_place y tree walk a c.take.new.self (sym c.take.ensures.value ∙ c.in-None.is ∙ sym c.take.ensures.after)) c.requires.met

pub returns-in-None-clause-keeps : goal.returns-in-None-clause-keeps
returns-in-None-clause-keeps g c = on_both c.begin.result _ (Keeps c.args.self.now c.begin.new.self) (λ k. keeps_from c.args.self.now c.begin.new.self c.take.new.self c.args.self.now.readied k) c.begin.ensures.keeps

pub returns-in-None-clause-wants : goal.returns-in-None-clause-wants
returns-in-None-clause-wants g c =
    let a = c.args.self.now in let y = g.S.Sections.system c.args.sections.now in let tree = g.S.Sections.tree c.args.sections.now in let walk = g.S.Sections.walk c.args.sections.now in let b = g.B.Board.shows c.args.board.now in
    on_err c.begin.result _ (Wants a b c.begin.new.self (g.B.Board.shows c.begin.new.board)) (λ x. wants_from a c.begin.new.self c.take.new.self a.readied b (g.B.Board.shows c.begin.new.board) x) c.begin.ensures.wants

pub returns-in-None-clause-turned : goal.returns-in-None-clause-turned
returns-in-None-clause-turned g c =
    let a = c.args.self.now in let y = g.S.Sections.system c.args.sections.now in let tree = g.S.Sections.tree c.args.sections.now in let walk = g.S.Sections.walk c.args.sections.now in let b = g.B.Board.shows c.args.board.now in
    on_ok c.begin.result _ _ (λ t h. ran_seen y tree walk (record a { place = c.take.new.self }) a b (g.B.Board.shows c.begin.new.board) c.begin.new.self refl (sym (see_place y tree walk a c.take.new.self (sym c.take.ensures.value ∙ c.in-None.is ∙ sym c.take.ensures.after))) t h) c.begin.ensures.turned
