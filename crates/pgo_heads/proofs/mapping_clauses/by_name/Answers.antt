use Rattle.std.proofs.Common.{◌-◌, arith}
use Rattle.pgo_syntax.specs.declared.process.MappingClause.{MappingClause}
use Rattle.pgo_bound.specs.Runs.{is_of_name}
use Rattle.pgo_heads.specs.Spoken.{clauses_under}
use Rattle.pgo_heads.proofs.SpokenLaws.{clause_step}
use Rattle.pgo_heads.proofs.mapping_clauses.by_name.Goals as goal

pub loop-i-preserved : goal.loop-i-preserved
loop-i-preserved c = (
  λ x. clause_step (λ (k : MappingClause). is_of_name x k.target) c.args.list.now (c.loop-i.i - 1) c.loop-i.i c.index-list-i.result (clauses_under c.loop-i.known x) (clauses_under c.add_name.new.known x)
      (omega (arith, c.loop-i.invariant.1)) (omega arith) c.index-list-i.is (c.in_ok-add_name.ensures x) (c.loop-i.invariant.0 x),
  omega (arith, c.loop-i.invariant.1),
)
