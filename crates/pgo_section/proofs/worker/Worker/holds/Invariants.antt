use Rattle.std.proofs.Common.{◌≡◌, drop}
use Rattle.pgo_model.specs.Machine.{among}
use Rattle.pgo_section.proofs.worker.Worker.holds.Given as goal

abbrev pub invariant-loop-taken : goal.invariant-loop-taken
invariant-loop-taken g l = record { rest : among l.r (drop l.taken-index l.self.taken.items) ≡ among l.r l.self.taken.items }
