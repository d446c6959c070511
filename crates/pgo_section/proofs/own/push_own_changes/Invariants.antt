use Rattle.std.proofs.Common.{◌≡◌, ◌++◌, map, drop}
use Rattle.pgo_base.specs.View.{data_of, named_data}
use Rattle.pgo_model.specs.LogView.{change_view}
use Rattle.pgo_workers.specs.Worlds.{changed_own}
use Rattle.pgo_section.proofs.own.push_own_changes.Given as goal

abbrev pub invariant-loop-place : goal.invariant-loop-place
invariant-loop-place l =
    map change_view l.changes.items ++ changed_own l.instance (data_of l.id) (map named_data (drop l.place l.components)) l.next
    ≡ map change_view l.fn.changes.items ++ changed_own l.instance (data_of l.id) (map named_data l.components) l.next
