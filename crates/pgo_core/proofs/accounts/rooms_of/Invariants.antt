use Rattle.std.proofs.Common.{◌≡◌, ◌≤◌, length, true, vec_capacity}
use Rattle.pgo_core.specs.Cores.{all_roomy}
use Rattle.pgo_core.proofs.accounts.rooms_of.Given as goal

abbrev pub invariant-loop : goal.invariant-loop
invariant-loop l = record { count : length l.rooms.items ≡ l.counter; capacity : l.count ≤ vec_capacity l.rooms; roomy : all_roomy l.attempts l.rooms.items ≡ true }
