use Rattle.std.proofs.lemmas.Result.{IfOk-weaker}
use Rattle.pgo_base.specs.NameMaps.{has_name}
use Rattle.pgo_check.proofs.constants.add.Goals as goal

pub returns-then-branch : goal.returns-then-branch
returns-then-branch c =
    IfOk-weaker c.add_constant.result _ _ (λ u h. λ variables written m. h variables (has_name c.args.varying.now) written (c.in_ok-is_constant_definition.ensures c.if-branch.true) m) c.add_constant.ensures
