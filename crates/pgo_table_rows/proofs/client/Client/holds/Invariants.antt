use Rattle.std.proofs.Common.{◌≡◌, drop}
use Rattle.pgo_model.specs.Machine.{among}
use Rattle.pgo_table_rows.proofs.client.Client.holds.Given as goal

abbrev pub invariant-loop-x : goal.invariant-loop-x
invariant-loop-x l = record { rest : among l.r (drop l.x-index l.self.held.items) ≡ among l.r l.self.held.items }
