use Rattle.std.proofs.Common.{◌≡◌, ◌++◌, map, length}
use Rattle.pgo_model.specs.LogView.{change_view}
use Rattle.pgo_workers.specs.Worlds.{layout_of, resource_change}
use Rattle.pgo_section.specs.Folds.{at_of, AllBelow}
use Rattle.pgo_section.proofs.changes.resource_changes.Given as goal

abbrev pub invariant-loop-resource : goal.invariant-loop-resource
invariant-loop-resource g l =
    let y = layout_of (g.S.Sections.system l.fn.sections) in record {
      below : AllBelow (length y.resources) (map at_of l.resource-iterator.rest.items);
      made : map change_view l.changes.items ++ map (resource_change y) (map at_of l.resource-iterator.rest.items) ≡ map (resource_change y) (map at_of l.fn.values.items);
    }
