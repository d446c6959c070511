use Rattle.std.proofs.Common.{◌≡◌, length, map, take, vec_capacity}
use Rattle.pgo_syntax.specs.ManyLeaves.{results_in}
use Rattle.pgo_syntax.specs.RecordView.{record_view, result_view}
use Rattle.pgo_core.specs.Cores.{attempts_from}
use Rattle.pgo_core.proofs.accounts.numbered.Given as goal

abbrev pub invariant-loop-told : goal.invariant-loop-told
invariant-loop-told l = record {
  count : length l.room.items ≡ l.told-index;
  capacity : vec_capacity l.room ≡ vec_capacity l.fn.room;
  list : map record_view l.room.items ≡ attempts_from 1 (map result_view (take l.told-index l.results));
  same : results_in l.room.items ≡ take l.told-index l.results;
}
