-- The rules that are left give the refusal of all.
use Rattle.std.proofs.Common.{◌≡◌, map, drop}
use Rattle.pgo_labels.specs.Rules.{in_spec}
use Rattle.pgo_labels.specs.Refusal.{first_refusal}
use Rattle.pgo_labels.proofs.checker.first_found.Given as goal

abbrev pub invariant-loop-rule : goal.invariant-loop-rule
invariant-loop-rule l = first_refusal (map (λ r. in_spec r l.spec) (drop l.rule-index l.rules)) ≡ first_refusal (map (λ r. in_spec r l.spec) l.rules)
