use Rattle.std.proofs.Common.{◌∙◌}
use Rattle.pgo_sections.specs.Code.{Read}
use Rattle.pgo_rewrite.specs.Views.{mapped_view}
use Rattle.pgo_effects.proofs.PieceLaws.{pushed}
use Rattle.pgo_effects.proofs.evaluate.add_read.Goals as goal

pub returns : goal.returns
returns c =
    λ k. pushed _ _ _ c.in_ok-push.ensures.items k
    ∙ c.in_ok-index.ensures (λ i. Read c.args.read.value c.args.read.mapped.global.now i (mapped_view c.args.read.mapped).reads k)
