use Rattle.std.proofs.Common.{◌≡◌, ◌++◌, drop}
use Rattle.pgo_table_rows.specs.Clients.{others}
use Rattle.pgo_table_rows.proofs.client.without.Given as goal

abbrev pub invariant-loop-x : goal.invariant-loop-x
invariant-loop-x l = others l.r l.held ≡ l.left.items ++ others l.r (drop l.x-index l.held)
