use Rattle.std.proofs.Common.{◌-◌, arith}
use Rattle.pgo_syntax.specs.declared.process.MappingClause.{MappingClause}
use Rattle.pgo_bound.specs.Runs.{is_of_number}
use Rattle.pgo_heads.specs.Spoken.{clauses_at}
use Rattle.pgo_heads.proofs.SpokenLaws.{clause_step}
use Rattle.pgo_heads.proofs.mapping_clauses.by_number.Goals as goal

pub loop-i-preserved : goal.loop-i-preserved
loop-i-preserved c = (
  λ n. clause_step (λ (k : MappingClause). is_of_number n k.target) c.args.list.now (c.loop-i.i - 1) c.loop-i.i c.index-list-i.result (clauses_at c.loop-i.known.map n) (clauses_at c.add_number.new.known.map n)
      (omega (arith, c.loop-i.invariant.1)) (omega arith) c.index-list-i.is (c.in_ok-add_number.ensures n) (c.loop-i.invariant.0 n),
  omega (arith, c.loop-i.invariant.1),
)
