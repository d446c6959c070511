-- A global is in the map, or bound by a channel in what is left, where it was in the map or is in all.
use Rattle.std.proofs.Common.{◌≡◌, drop}
use Rattle.std.specs.Prelude.{◌||◌}
use Rattle.std.specs.List.{list_any}
use Rattle.pgo_base.specs.Lookup.{Name}
use Rattle.pgo_base.specs.NameMaps.{has_name}
use Rattle.pgo_starts.specs.Mailboxes.{is_by_channel}
use Rattle.pgo_starts.proofs.kinds.add_all.Given as goal

abbrev pub invariant-loop-binding : goal.invariant-loop-binding
invariant-loop-binding l =
    (g : Name) → has_name l.kinds g || list_any (λ b. is_by_channel g b.target) (drop l.binding-index l.bindings)
    ≡ (has_name l.fn.kinds g || list_any (λ b. is_by_channel g b.target) l.bindings)
