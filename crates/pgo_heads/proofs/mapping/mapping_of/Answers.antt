use Rattle.std.proofs.Common.{◌≡◌, ap, subst, ◌∙◌}
use Rattle.std.specs.Prelude.{IfOk}
use Rattle.pgo_bound.specs.Runs.{speaking}
use Rattle.pgo_heads.specs.Spoken.{mapping_by_first}
use Rattle.pgo_heads.proofs.SpokenLaws.{mapped}
use Rattle.pgo_heads.proofs.mapping.mapping_of.Goals as goal

pub returns : goal.returns
returns c =
    subst (λ t. IfOk c.mapping_by.result (λ m. m ≡ t))
    (ap (mapping_by_first c.args.spec.now c.args.extent) c.speaking.ensures ∙ mapped c.args.spec.now c.args.extent (speaking c.args.number c.args.global.now c.args.clauses.now))
    c.mapping_by.ensures
