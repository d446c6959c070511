use Rattle.std.proofs.Common.{ap, ◌∙◌}
use Rattle.pgo_bound.specs.Runs.{speaking}
use Rattle.pgo_heads.specs.Spoken.{is_badly_spoken}
use Rattle.pgo_heads.proofs.SpokenLaws.{badly}
use Rattle.pgo_heads.proofs.bad_mapping.is_badly_mapped.Goals as goal

pub returns : goal.returns
returns c =
    c.is_badly_spoken.ensures
    ∙ ap (is_badly_spoken c.args.extent c.args.known) c.speaking.ensures
    ∙ badly c.args.extent c.args.known (speaking c.args.number c.args.global.now c.args.clauses.now)
