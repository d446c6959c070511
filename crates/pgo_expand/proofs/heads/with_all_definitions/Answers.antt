use Rattle.std.proofs.Common.{◌≡◌, ◌∙◌, max, subst, ap}
use Rattle.std.specs.Prelude.{IfOk}
use Rattle.pgo_measure.specs.Heights.{capped}
use Rattle.pgo_expand.specs.Module as expected
use Rattle.pgo_expand.proofs.Heights.{more_definitions}
use Rattle.pgo_expand.proofs.heads.with_all_definitions.Goals as goal

pub returns : goal.returns
returns c =
    subst (λ x. IfOk c.with_define.result (λ g. g ≡ x))
    (more_definitions c.args.before c.in_ok-head.head (expected.definitions_heights c.args.spec.now.definitions) (expected.define_heights c.args.spec.now.define)
    (c.in_ok-head.ensures ∙ ap (λ ds. max c.args.before (capped (expected.highest (expected.definitions_heights ds)))) c.as_slice.ensures))
    c.with_define.ensures
