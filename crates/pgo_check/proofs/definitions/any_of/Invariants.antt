use Rattle.std.proofs.Common.{◌≡◌, map, drop}
use Rattle.pgo_base.specs.ActionView.{action_pair}
use Rattle.pgo_base.specs.declared.expr.Infix.TheVariants as infixs
use Rattle.pgo_model.specs.Module.{joined_by, self_call}
use Rattle.pgo_check.proofs.definitions.any_of.Given as goal

abbrev pub invariant-loop-a : goal.invariant-loop-a
invariant-loop-a l =
    joined_by infixs.Or l.initial.all (map (λ a. self_call a.0) (map action_pair l.rest)) ≡ joined_by infixs.Or l.all (map (λ a. self_call a.0) (map action_pair (drop l.a-index l.rest)))
