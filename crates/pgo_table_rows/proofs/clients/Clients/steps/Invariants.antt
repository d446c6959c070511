use Rattle.std.proofs.Common.{◌≡◌, length}
use Rattle.pgo_table_rows.specs.ClientLists.{AreClients}
use Rattle.pgo_table_rows.proofs.clients.Clients.steps.Given as goal

abbrev pub invariant-loop-step : goal.invariant-loop-step
invariant-loop-step l =
    (goal.iterator-loop-step).can_next l.step-iterator
    × (goal.iterator-loop-step).is_finite l.step-iterator
    × AreClients l.self
    × (l.self.shared.now ≡ l.fn.self.shared.now)
    × (length l.self.list.items ≡ length l.fn.self.list.items)
