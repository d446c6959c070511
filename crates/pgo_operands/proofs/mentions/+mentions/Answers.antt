use Rattle.std.proofs.Common.{◌≡◌, ◌<◌, ◌≤◌, subst, arith}
use Rattle.std.specs.Prelude.{IfOk}
use Rattle.pgo_base.specs.ExprView.{tree}
use Rattle.pgo_base.specs.TreeSize.{height}
use Rattle.pgo_operands.specs.Operands.{lent_trees}
use Rattle.pgo_operands.proofs.Heights.{highest, operands_low, one_low}
use Rattle.pgo_operands.proofs.Mentioned.{unless_itself}
use Rattle.pgo_operands.proofs.mentions.+mentions.Goals as goal

pub mentions-any_mentions-requires : goal.mentions-any_mentions-requires
mentions-any_mentions-requires t c =
    let low : highest (lent_trees c.as_slice.result.now) < height (tree c.args.e.now) = operands_low _ _ _ c.as_slice.ensures.value c.in_ok-parts.ensures in
    (omega arith, tt)

pub any_mentions-mentions-requires : goal.any_mentions-mentions-requires
any_mentions-mentions-requires t c =
    let at : height (tree c.one-item.result.now) ≤ highest (lent_trees c.args.list.now) = one_low _ _ _ (omega arith) c.one-item.is in
    (omega arith, tt)

pub mentions-returns : goal.mentions-returns
mentions-returns t c =
    subst (λ x. IfOk c.any_mentions.result (λ b. b ≡ x))
    (unless_itself c.args.name.now (tree c.args.e.now) _ _ _ c.as_slice.ensures.value c.in_ok-parts.ensures c.is_name.ensures c.if-is_name.false)
    c.any_mentions.ensures
