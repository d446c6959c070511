use Rattle.std.proofs.Common.{Some, refl, sym, subst}
use Rattle.pgo_resource.specs.Nexts.{Tells}
use Rattle.pgo_workers.specs.Settles.{Settled}
use Rattle.pgo_section.specs.Sight.{phase_at, placed}
use Rattle.pgo_section.proofs.Keeping.{see_placed, met_seen, ran_seen, wants_none, any_err, on_ok}
use Rattle.pgo_section.proofs.worker.Worker.event.Goals as goal

pub returns-in_err-next-clause-wants : goal.returns-in_err-next-clause-wants
returns-in_err-next-clause-wants g c = any_err c.from_residual.result _ (wants_none c.args.self.now (g.B.Board.shows c.args.board.now) (g.B.Board.shows c.args.board.now) refl)

pub access-requires-clause-next : goal.access-requires-clause-next
access-requires-clause-next g c = let a = c.args.self.now in let y = g.S.Sections.system c.args.sections.now in let tree = g.S.Sections.tree c.args.sections.now in let walk = g.S.Sections.walk c.args.sections.now in let b = g.B.Board.shows c.args.board.now in let p = c.args.place in subst (Tells (walk c.next.new.place)) c.in-Access.is c.in_ok-next.ensures.tells

pub access-requires-clause-met : goal.access-requires-clause-met
access-requires-clause-met g c = let a = c.args.self.now in let y = g.S.Sections.system c.args.sections.now in let tree = g.S.Sections.tree c.args.sections.now in let walk = g.S.Sections.walk c.args.sections.now in let b = g.B.Board.shows c.args.board.now in let p = c.args.place in met_seen y tree walk (placed a p) (placed a c.next.new.place) b (record { number = refl; settings = refl; records_room = refl; taken_room = refl; told = λ h. h }) (see_placed y tree walk a p c.next.new.place (sym c.in_ok-next.ensures.same)) c.requires.met

pub returns-in-Access-clause-turned : goal.returns-in-Access-clause-turned
returns-in-Access-clause-turned g c =
    let a = c.args.self.now in let y = g.S.Sections.system c.args.sections.now in let tree = g.S.Sections.tree c.args.sections.now in let walk = g.S.Sections.walk c.args.sections.now in let b = g.B.Board.shows c.args.board.now in let p = c.args.place in let q = c.next.new.place in
    on_ok c.access.result _ _ (λ t h. ran_seen y tree walk (placed a q) (placed a p) b (g.B.Board.shows c.access.new.board) c.access.new.self refl (see_placed y tree walk a q p c.in_ok-next.ensures.same) t h) c.access.ensures.turned

pub pre_commit-requires-clause-next : goal.pre_commit-requires-clause-next
pre_commit-requires-clause-next g c = let a = c.args.self.now in let y = g.S.Sections.system c.args.sections.now in let tree = g.S.Sections.tree c.args.sections.now in let walk = g.S.Sections.walk c.args.sections.now in let b = g.B.Board.shows c.args.board.now in let p = c.args.place in subst (Tells (walk c.next.new.place)) c.in-Commit.is c.in_ok-next.ensures.tells

pub pre_commit-requires-clause-met : goal.pre_commit-requires-clause-met
pre_commit-requires-clause-met g c = let a = c.args.self.now in let y = g.S.Sections.system c.args.sections.now in let tree = g.S.Sections.tree c.args.sections.now in let walk = g.S.Sections.walk c.args.sections.now in let b = g.B.Board.shows c.args.board.now in let p = c.args.place in met_seen y tree walk (placed a p) (placed a c.next.new.place) b (record { number = refl; settings = refl; records_room = refl; taken_room = refl; told = λ h. h }) (see_placed y tree walk a p c.next.new.place (sym c.in_ok-next.ensures.same)) c.requires.met

pub returns-then-self-len-clause-turned : goal.returns-then-self-len-clause-turned
returns-then-self-len-clause-turned g c =
    let a = c.args.self.now in let y = g.S.Sections.system c.args.sections.now in let tree = g.S.Sections.tree c.args.sections.now in let walk = g.S.Sections.walk c.args.sections.now in let b = g.B.Board.shows c.args.board.now in let p = c.args.place in let q = c.next.new.place in
    ran_seen y tree walk (placed a q) (placed a p) b (g.B.Board.shows c.pre_commit.new.board) c.pre_commit.new.self refl (see_placed y tree walk a q p c.in_ok-next.ensures.same) c.pre_commit.result c.pre_commit.ensures.turned

pub commit-requires-clause-next : goal.commit-requires-clause-next
commit-requires-clause-next g c = let a = c.args.self.now in let y = g.S.Sections.system c.args.sections.now in let tree = g.S.Sections.tree c.args.sections.now in let walk = g.S.Sections.walk c.args.sections.now in let b = g.B.Board.shows c.args.board.now in let p = c.args.place in subst (Tells (walk c.next.new.place)) c.in-Commit.is c.in_ok-next.ensures.tells

pub commit-requires-clause-met : goal.commit-requires-clause-met
commit-requires-clause-met g c = let a = c.args.self.now in let y = g.S.Sections.system c.args.sections.now in let tree = g.S.Sections.tree c.args.sections.now in let walk = g.S.Sections.walk c.args.sections.now in let b = g.B.Board.shows c.args.board.now in let p = c.args.place in met_seen y tree walk (placed a p) (placed a c.next.new.place) b (record { number = refl; settings = refl; records_room = refl; taken_room = refl; told = λ h. h }) (see_placed y tree walk a p c.next.new.place (sym c.in_ok-next.ensures.same)) c.requires.met

pub returns-else-self-len-clause-turned : goal.returns-else-self-len-clause-turned
returns-else-self-len-clause-turned g c =
    let a = c.args.self.now in let y = g.S.Sections.system c.args.sections.now in let tree = g.S.Sections.tree c.args.sections.now in let walk = g.S.Sections.walk c.args.sections.now in let b = g.B.Board.shows c.args.board.now in let p = c.args.place in let q = c.next.new.place in
    on_ok c.commit.result _ _ (λ t h. ran_seen y tree walk (placed a q) (placed a p) b (g.B.Board.shows c.commit.new.board) c.commit.new.self refl (see_placed y tree walk a q p c.in_ok-next.ensures.same) t h) c.commit.ensures.turned

pub note-requires-clause-next : goal.note-requires-clause-next
note-requires-clause-next g c = let a = c.args.self.now in let y = g.S.Sections.system c.args.sections.now in let tree = g.S.Sections.tree c.args.sections.now in let walk = g.S.Sections.walk c.args.sections.now in let b = g.B.Board.shows c.args.board.now in let p = c.args.place in subst (Tells (walk c.next.new.place)) c.in-Note.is c.in_ok-next.ensures.tells

pub note-requires-clause-met : goal.note-requires-clause-met
note-requires-clause-met g c = let a = c.args.self.now in let y = g.S.Sections.system c.args.sections.now in let tree = g.S.Sections.tree c.args.sections.now in let walk = g.S.Sections.walk c.args.sections.now in let b = g.B.Board.shows c.args.board.now in let p = c.args.place in met_seen y tree walk (placed a p) (placed a c.next.new.place) b (record { number = refl; settings = refl; records_room = refl; taken_room = refl; told = λ h. h }) (see_placed y tree walk a p c.next.new.place (sym c.in_ok-next.ensures.same)) c.requires.met

pub returns-in-Note-clause-turned : goal.returns-in-Note-clause-turned
returns-in-Note-clause-turned g c =
    let a = c.args.self.now in let y = g.S.Sections.system c.args.sections.now in let tree = g.S.Sections.tree c.args.sections.now in let walk = g.S.Sections.walk c.args.sections.now in let b = g.B.Board.shows c.args.board.now in let p = c.args.place in let q = c.next.new.place in
    ran_seen y tree walk (placed a q) (placed a p) b (g.B.Board.shows c.note.new.board) c.note.new.self refl (see_placed y tree walk a q p c.in_ok-next.ensures.same) c.note.result c.note.ensures.turned

pub returns-in_err-next-clause-stays : goal.returns-in_err-next-clause-stays
returns-in_err-next-clause-stays g c = g.met.B.Board.stays_same c.args.board.now

pub next-requires : goal.next-requires
next-requires g c = record { settled = subst (λ h. Settled (phase_at (g.S.Sections.walk c.args.sections.now) h (Some c.args.place) c.args.self.now.readied)) c.requires.going c.requires.met.settles }
