-- What is known is what the clauses from here on say.
use Rattle.std.proofs.Common.{◌≡◌, ℕ, ◌≤◌, length, drop}
use Rattle.std.specs.Prelude.{filter}
use Rattle.pgo_syntax.specs.declared.process.MappingClause.{MappingClause}
use Rattle.pgo_bound.specs.Runs.{is_of_number}
use Rattle.pgo_heads.specs.Spoken.{first_of, clauses_at}
use Rattle.pgo_heads.proofs.mapping_clauses.by_number.Given as goal

abbrev pub invariant-loop-i : goal.invariant-loop-i
invariant-loop-i l =
    ((n : ℕ) → clauses_at l.known.map n ≡ first_of (filter (λ (c : MappingClause). is_of_number n c.target) (drop l.i l.list))) × (l.i ≤ length l.list)

abbrev pub decreases-loop-i : goal.decreases-loop-i
decreases-loop-i l = l.i
