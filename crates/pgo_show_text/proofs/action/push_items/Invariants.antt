-- What the loop keeps: the lines so far, and those of the items that are left, are all.
use Rattle.std.proofs.Common.{◌≡◌, ◌++◌, map, drop}
use Rattle.pgo_model.specs.ModuleText.{bullet}
use Rattle.pgo_show_text.specs.Shown as spec
use Rattle.pgo_show_text.proofs.action.push_items.Given as goal

abbrev pub invariant-loop-item : goal.invariant-loop-item
invariant-loop-item l =
    l.lines ++ map spec.indented (map bullet (map (λ r. r.now) (drop l.item-index l.items)))
    ≡ l.fn.lines ++ map spec.indented (map bullet (map (λ r. r.now) l.items))
