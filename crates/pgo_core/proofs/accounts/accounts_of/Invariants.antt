use Rattle.std.proofs.Common.{◌≡◌, ◌+◌, length, true, vec_capacity}
use Rattle.pgo_core.specs.Cores.{all_roomy, AreAccountsOf}
use Rattle.pgo_core.proofs.accounts.accounts_of.Given as goal

abbrev pub invariant-loop-room : goal.invariant-loop-room
invariant-loop-room g l = record {
  count : length l.accounts.items + length l.room-iterator.rest.items ≡ length l.workers;
  capacity : vec_capacity l.accounts ≡ vec_capacity l.fn.accounts;
  roomy : all_roomy l.attempts l.room-iterator.rest.items ≡ true;
  are : AreAccountsOf l.workers l.accounts.items;
}
