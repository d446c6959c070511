use Rattle.std.proofs.Common.{inl, refl}
use Rattle.pgo_section.proofs.worker.Worker.turn.Goals as goal

pub returns-in-Some-clause-stays : goal.returns-in-Some-clause-stays
returns-in-Some-clause-stays g c = g.met.B.Board.stays_same c.args.board.now

pub returns-in-Some-clause-apart : goal.returns-in-Some-clause-apart
returns-in-Some-clause-apart g c = inl refl
