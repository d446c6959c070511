use Rattle.std.proofs.Common.{◌≡◌, drop}
use Rattle.std.specs.List.{filter_map}
use Rattle.pgo_syntax.specs.declared.process.MappingClause.{MappingClause}
use Rattle.pgo_heads.specs.Refusals.{first, bad_clause}
use Rattle.pgo_heads.proofs.bad_mapping.first_bad.Given as goal

abbrev pub invariant-loop-c : goal.invariant-loop-c
invariant-loop-c l =
    first (filter_map (λ (c : MappingClause). bad_clause l.arguments c.target) l.clauses) ≡ first (filter_map (λ (c : MappingClause). bad_clause l.arguments c.target) (drop l.c-index l.clauses))
