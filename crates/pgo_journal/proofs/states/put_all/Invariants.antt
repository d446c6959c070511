use Rattle.std.proofs.Common.{◌≡◌, map, drop}
use Rattle.pgo_base.specs.View.{named_data}
use Rattle.pgo_model.specs.LogView.{change_view}
use Rattle.pgo_journal.specs.States.{put_all}
use Rattle.pgo_journal.proofs.states.put_all.Given as goal

abbrev pub invariant-loop-c : goal.invariant-loop-c
invariant-loop-c l = put_all (map change_view l.changes) (map named_data l.initial.list.items) ≡ put_all (map change_view (drop l.c-index l.changes)) (map named_data l.list.items)
