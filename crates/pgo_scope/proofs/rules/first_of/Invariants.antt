-- What the loop keeps: none of the rules before finds anything.
use Rattle.std.proofs.Common.{◌≡◌, map, drop}
use Rattle.pgo_scope.specs.Refusal.{first_broken}
use Rattle.pgo_scope.specs.Rules.{found_by}
use Rattle.pgo_scope.specs.RulesView.{see}
use Rattle.pgo_scope.proofs.rules.first_of.Given as goal

abbrev pub invariant-loop-rule : goal.invariant-loop-rule
invariant-loop-rule l =
    first_broken (map (λ r. found_by r (see l.c)) (drop l.rule-index l.rules)) ≡ first_broken (map (λ r. found_by r (see l.c)) l.rules)
