use Rattle.std.proofs.Common.{rules, arith}
use Rattle.std.proofs.lemmas.Grind.{common_steps}
use Rattle.pgo_lexer.specs.declared.symbol.Symbol.TheVariants as symbol
use Rattle.pgo_mpcal_read.specs.Signs.{sees}
use Rattle.pgo_mpcal_read.specs.Reading.{expression}
use Rattle.pgo_mpcal_read.specs.Reading.{one_behind}
use Rattle.pgo_expr_read.specs.Steps.{folded}
use Rattle.pgo_expr_read.proofs.Steps.{turn_more, no_more}
use Rattle.pgo_mpcal_read.proofs.names.expressions_behind.Goals as goal

pub returns-then-not-sees : goal.returns-then-not-sees
unfolding folded
returns-then-not-sees c =
    let e = turn_more (λ n. folded (sees symbol.Comma) (one_behind symbol.Comma expression) n c.loop-turn.all c.loop-turn.cursor) _ c.loop-turn._turn c.loop-turn-test.true c.loop-turn.invariant in
    first_of (search rules, grind (arith, common_steps))

pub returns-in_err-more_expressions : goal.returns-in_err-more_expressions
unfolding folded
returns-in_err-more_expressions c =
    let e = turn_more (λ n. folded (sees symbol.Comma) (one_behind symbol.Comma expression) n c.loop-turn.all c.loop-turn.cursor) _ c.loop-turn._turn c.loop-turn-test.true c.loop-turn.invariant in
    first_of (search rules, grind (arith, common_steps))

pub loop-turn-preserved : goal.loop-turn-preserved
unfolding folded
loop-turn-preserved c =
    let e = turn_more (λ n. folded (sees symbol.Comma) (one_behind symbol.Comma expression) n c.loop-turn.all c.loop-turn.cursor) _ c.loop-turn._turn c.loop-turn-test.true c.loop-turn.invariant in
    first_of (search rules, grind (arith, common_steps))

pub returns : goal.returns
unfolding folded
returns c =
    let e = no_more (λ n. folded (sees symbol.Comma) (one_behind symbol.Comma expression) n c.loop-turn.all c.loop-turn.cursor) _ c.loop-turn._turn c.loop-turn-test.false c.loop-turn.invariant in
    first_of (search rules, grind (arith, common_steps))
