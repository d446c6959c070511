use Rattle.std.proofs.Common.{rules, arith}
use Rattle.std.proofs.lemmas.Grind.{common_steps}
use Rattle.pgo_mpcal_read.specs.ReadingStatements.{sees_else_if, one_more_branch, statement}
use Rattle.pgo_expr_read.specs.Steps.{folded}
use Rattle.pgo_expr_read.proofs.Steps.{turn_more, no_more}
use Rattle.pgo_mpcal_read.proofs.statements.Statements.branches_behind.Goals as goal

pub returns-then-not-sees_else_if : goal.returns-then-not-sees_else_if
unfolding folded
returns-then-not-sees_else_if g c =
    let e = turn_more (λ n. folded sees_else_if (one_more_branch c.args.self.now.macros.now c.args.self.now.limit (statement c.args.self.now.macros.now c.args.self.now.below)) n c.loop-turn.all c.loop-turn.cursor) _ c.loop-turn._turn c.loop-turn-test.true c.loop-turn.invariant in
    first_of (search rules, grind (arith, common_steps))

pub returns-in_err-more_branches : goal.returns-in_err-more_branches
unfolding folded
returns-in_err-more_branches g c =
    let e = turn_more (λ n. folded sees_else_if (one_more_branch c.args.self.now.macros.now c.args.self.now.limit (statement c.args.self.now.macros.now c.args.self.now.below)) n c.loop-turn.all c.loop-turn.cursor) _ c.loop-turn._turn c.loop-turn-test.true c.loop-turn.invariant in
    first_of (search rules, grind (arith, common_steps))

pub loop-turn-preserved : goal.loop-turn-preserved
unfolding folded
loop-turn-preserved g c =
    let e = turn_more (λ n. folded sees_else_if (one_more_branch c.args.self.now.macros.now c.args.self.now.limit (statement c.args.self.now.macros.now c.args.self.now.below)) n c.loop-turn.all c.loop-turn.cursor) _ c.loop-turn._turn c.loop-turn-test.true c.loop-turn.invariant in
    first_of (search rules, grind (arith, common_steps))

pub returns : goal.returns
unfolding folded
returns g c =
    let e = no_more (λ n. folded sees_else_if (one_more_branch c.args.self.now.macros.now c.args.self.now.limit (statement c.args.self.now.macros.now c.args.self.now.below)) n c.loop-turn.all c.loop-turn.cursor) _ c.loop-turn._turn c.loop-turn-test.false c.loop-turn.invariant in
    first_of (search rules, grind (arith, common_steps))
