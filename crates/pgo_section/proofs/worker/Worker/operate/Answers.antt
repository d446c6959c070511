use Rattle.std.proofs.Common.{refl, sym, ap, ◌∙◌, inr}
use Rattle.pgo_model.specs.Log.{Effect}
use Rattle.pgo_workers.specs.View.{View, resources_of}
use Rattle.pgo_workers.specs.Holds as holds
use Rattle.pgo_section.proofs.Boards.{some_is, is_held}
use Rattle.pgo_section.proofs.Events.{operated, unfinished}
use Rattle.pgo_section.proofs.Keeping.{any_err}
use Rattle.pgo_section.proofs.worker.Worker.operate.Goals as goal

pub content-requires : goal.content-requires
content-requires g c = record { held = is_held (g.B.Board.shows c.args.board.now).held c.args.self.now.taken.items c.args.r (sym c.requires.met.meets.taken) c.requires.held }

pub operate-requires : goal.operate-requires
operate-requires g c = record { touch = (c.args.r, c.requires.next.0, c.requires.next.1, c.requires.next.2) }

pub returns-clause-turned : goal.returns-clause-turned
returns-clause-turned g c =
    let a = c.args.self.now in let y = g.S.Sections.system c.args.sections.now in let tree = g.S.Sections.tree c.args.sections.now in let walk = g.S.Sections.walk c.args.sections.now in let b = g.B.Board.shows c.args.board.now in let p = c.args.place in let law = g.met.B.Board in let M = g.B.Content.Resource.shows in
    let there = is_held b.held a.taken.items c.args.r (sym c.requires.met.meets.taken) c.requires.held in
    let h = some_is _ there in
    let is = law.shown c.args.board.now c.args.r c.content.result.now h.0 c.content.ensures.value h.1 in
    operated y tree walk a p c.requires.going b _ _ c.args.r c.requires.next h.0 h.1 (M c.content.result.now) (M c.operate.new.content) is c.operate.new.place c.in_ok-operate.ensures.on c.in_ok-operate.ensures.content
    _ (law.puts c.args.board.now c.args.r c.operate.new.content there) c.settle.new.place c.in_ok-back.ensures.walk c.in_ok-back.back c.in_ok-back.ensures.back c.put_back.ensures.shows refl

pub put_back-requires-clause-held : goal.put_back-requires-clause-held
put_back-requires-clause-held g c =
    let a = c.args.self.now in let b = g.B.Board.shows c.args.board.now in let law = g.met.B.Board in let M = g.B.Content.Resource.shows in
    let there = is_held b.held a.taken.items c.args.r (sym c.requires.met.meets.taken) c.requires.held in
    c.requires.met.meets.taken ∙ sym (holds.resources_with c.args.r (M c.operate.new.content) b.held)
    ∙ sym (ap (λ (d : View Effect). resources_of d.held) (law.puts c.args.board.now c.args.r c.operate.new.content there))

pub returns-in_err-operate-clause-wants : goal.returns-in_err-operate-clause-wants
returns-in_err-operate-clause-wants g c =
    let a = c.args.self.now in let y = g.S.Sections.system c.args.sections.now in let tree = g.S.Sections.tree c.args.sections.now in let walk = g.S.Sections.walk c.args.sections.now in let b = g.B.Board.shows c.args.board.now in let p = c.args.place in let law = g.met.B.Board in let M = g.B.Content.Resource.shows in
    let there = is_held b.held a.taken.items c.args.r (sym c.requires.met.meets.taken) c.requires.held in
    let h = some_is _ there in
    let is = law.shown c.args.board.now c.args.r c.content.result.now h.0 c.content.ensures.value h.1 in
    any_err c.from_residual.result _ (record {
      keeps = record { same = record { number = refl; settings = refl; records_room = refl; taken_room = refl; told = λ h. h }; out = refl };
      records = refl;
      own = refl;
      taken = refl;
      dropped = refl;
      board = unfinished y tree walk a p c.requires.going b _ c.args.r h.0 h.1 (M c.content.result.now) (M c.operate.new.content) is c.operate.ensures.content (law.puts c.args.board.now c.args.r c.operate.new.content there);
    })

pub returns-clause-stays : goal.returns-clause-stays
returns-clause-stays g c =
    g.met.B.Board.stays_on c.args.board.now _ _ (g.met.B.Board.stays_with c.args.board.now c.args.r c.operate.new.content (is_held (g.B.Board.shows c.args.board.now).held c.args.self.now.taken.items c.args.r (sym c.requires.met.meets.taken) c.requires.held))
    c.put_back.ensures.stays

pub returns-in_err-operate-clause-stays : goal.returns-in_err-operate-clause-stays
returns-in_err-operate-clause-stays g c = g.met.B.Board.stays_with c.args.board.now c.args.r c.operate.new.content (is_held (g.B.Board.shows c.args.board.now).held c.args.self.now.taken.items c.args.r (sym c.requires.met.meets.taken) c.requires.held)

pub returns-in_err-back-clause-wants : goal.returns-in_err-back-clause-wants
returns-in_err-back-clause-wants g c =
    let a = c.args.self.now in let y = g.S.Sections.system c.args.sections.now in let tree = g.S.Sections.tree c.args.sections.now in let walk = g.S.Sections.walk c.args.sections.now in let b = g.B.Board.shows c.args.board.now in let p = c.args.place in let law = g.met.B.Board in let M = g.B.Content.Resource.shows in
    let there = is_held b.held a.taken.items c.args.r (sym c.requires.met.meets.taken) c.requires.held in
    let h = some_is _ there in
    let is = law.shown c.args.board.now c.args.r c.content.result.now h.0 c.content.ensures.value h.1 in
    any_err c.from_residual-in_err-back.result _ (record {
      keeps = record { same = record { number = refl; settings = refl; records_room = refl; taken_room = refl; told = λ h. h }; out = refl };
      records = refl;
      own = refl;
      taken = refl;
      dropped = refl;
      board = unfinished y tree walk a p c.requires.going b _ c.args.r h.0 h.1 (M c.content.result.now) (M c.operate.new.content) is c.operate.ensures.content (law.puts c.args.board.now c.args.r c.operate.new.content there);
    })

pub returns-in_err-back-clause-stays : goal.returns-in_err-back-clause-stays
returns-in_err-back-clause-stays g c = g.met.B.Board.stays_with c.args.board.now c.args.r c.operate.new.content (is_held (g.B.Board.shows c.args.board.now).held c.args.self.now.taken.items c.args.r (sym c.requires.met.meets.taken) c.requires.held)

pub returns-clause-apart : goal.returns-clause-apart
returns-clause-apart g c = inr (c.put_back.ensures.moved ∙ c.content.ensures.moved c.operate.new.content)
