use Rattle.std.proofs.Common.{◌≡◌, ap, arith}
use Rattle.pgo_mpcal_read.specs.ReadingStatements.{statement}
use Rattle.pgo_expr_read.proofs.Steps.{syntax_err}
use Rattle.pgo_mpcal_read.proofs.Turns.{reads_form}
use Rattle.pgo_mpcal_read.proofs.statements.+statement.Goals as goal

pub returns-then-limit-eq0 : goal.returns-then-limit-eq0
unfolding statement
returns-then-limit-eq0 t c =
    let none : c.args.limit ≡ 0 = omega arith in
    syntax_err _ _ c.refuse.result c.refuse.ensures (ap (λ n. statement c.args.macros.now n c.args.cursor.now) none)

pub returns : goal.returns
returns t c = reads_form c.args.macros.now c.args.limit _ _ _ (omega arith) c.any_form.ensures
