-- What the loop keeps: what is made and what is left are the whole.
use Rattle.std.proofs.Common.{◌≡◌, ◌++◌, drop}
use Rattle.std.specs.Prelude.{flat_map}
use Rattle.pgo_scope.specs.Rules.{use_findings}
use Rattle.pgo_scope.specs.RulesView.{see}
use Rattle.pgo_scope.proofs.rules.add_uses.Given as goal

abbrev pub invariant-loop-u : goal.invariant-loop-u
invariant-loop-u l =
    l.out.items ++ flat_map (use_findings l.rule (see l.c)) (drop l.u-index l.c.uses.now) ≡ l.initial.out.items ++ flat_map (use_findings l.rule (see l.c)) l.c.uses.now
