-- What the loop keeps: what is gathered and what is left are the whole.
use Rattle.std.proofs.Common.{◌≡◌, ℕ, List, drop}
use Rattle.pgo_syntax.specs.declared.process.Argument.{Argument}
use Rattle.pgo_scope.specs.Targets.{has_number, is_target, some_clause_or}
use Rattle.pgo_scope.proofs.targets.targets_of.Given as goal

abbrev pub invariant-loop-c : goal.invariant-loop-c
invariant-loop-c l = (n : ℕ) (es : List Argument) → some_clause_or (is_target l.targets n es) n es (drop l.c-index l.list) ≡ some_clause_or (has_number l.fn.numbers n) n es l.list
