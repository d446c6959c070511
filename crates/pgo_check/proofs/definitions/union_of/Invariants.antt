use Rattle.std.proofs.Common.{◌≡◌, map, drop}
use Rattle.pgo_base.specs.declared.expr.Infix.TheVariants as infixs
use Rattle.pgo_model.specs.Module.{joined_by}
use Rattle.pgo_model.specs.ModuleView.{process_view}
use Rattle.pgo_check.proofs.definitions.union_of.Given as goal

abbrev pub invariant-loop-p : goal.invariant-loop-p
invariant-loop-p l =
    joined_by infixs.Union l.initial.all (map (λ p. p.ids) (map process_view l.rest)) ≡ joined_by infixs.Union l.all (map (λ p. p.ids) (map process_view (drop l.p-index l.rest)))
