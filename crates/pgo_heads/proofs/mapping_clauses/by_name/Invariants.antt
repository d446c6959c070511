-- What is known is what the clauses from here on say.
use Rattle.std.proofs.Common.{◌≡◌, ◌≤◌, length, drop}
use Rattle.std.specs.Prelude.{filter}
use Rattle.pgo_base.specs.Lookup.{Name}
use Rattle.pgo_syntax.specs.declared.process.MappingClause.{MappingClause}
use Rattle.pgo_bound.specs.Runs.{is_of_name}
use Rattle.pgo_heads.specs.Spoken.{first_of, clauses_under}
use Rattle.pgo_heads.proofs.mapping_clauses.by_name.Given as goal

abbrev pub invariant-loop-i : goal.invariant-loop-i
invariant-loop-i l =
    ((x : Name) → clauses_under l.known x ≡ first_of (filter (λ (c : MappingClause). is_of_name x c.target) (drop l.i l.list))) × (l.i ≤ length l.list)

abbrev pub decreases-loop-i : goal.decreases-loop-i
decreases-loop-i l = l.i
