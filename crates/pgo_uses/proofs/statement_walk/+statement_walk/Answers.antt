use Rattle.std.proofs.Common.{◌<◌, ◌≤◌, ◌++◌, map, ap, arith}
use Rattle.std.proofs.lemmas.Result.{IfOk-equal}
use Rattle.pgo_syntax.specs.StatementView.{statement}
use Rattle.pgo_syntax.specs.StatementSize.{height}
use Rattle.pgo_uses.specs.StatementPieceView.{see_part}
use Rattle.pgo_uses.specs.Scopes.{in_scope}
use Rattle.pgo_uses.proofs.StatementHeights.{part_height, parts_height, parts_below, at_height}
use Rattle.pgo_uses.proofs.StatementWalked.{all_walked}
use Rattle.pgo_uses.proofs.statement_walk.+statement_walk.Goals as goal

pub add_parts-add_part-requires : goal.add_parts-add_part-requires
add_parts-add_part-requires t c =
    let s : part_height (see_part c.part-item.result) ≤ parts_height (map see_part c.args.parts.now) = at_height _ _ _ (omega arith) c.part-item.is in
    (omega arith, tt)

pub add_statement-add_parts-requires : goal.add_statement-add_parts-requires
add_statement-add_parts-requires t c =
    let s : parts_height (map see_part c.as_slice-list.result.now) < height (statement c.args.s.now) = parts_below _ _ _ c.as_slice-list.ensures.value c.in_ok-parts.ensures.parts in
    (omega arith, tt)

pub add_statement-returns : goal.add_statement-returns
add_statement-returns t c =
    IfOk-equal c.add_parts.result _ _ _ c.add_parts.ensures
    (ap (λ l. c.args.out.now.items ++ l)
    (all_walked (in_scope c.args.scope.now) c.args.around (statement c.args.s.now) _ _ _ c.as_slice-list.ensures.value c.in_ok-parts.ensures.parts c.in_ok-parts.ensures.bound))
