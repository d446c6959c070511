use Rattle.std.proofs.Common.{◌≡◌, map, option_map, suc, Option, Some, None, Result, Err, Bor, ap, sym, ◌∙◌, refl, subst, rules}
use Rattle.std.specs.Prelude.{max}
use Rattle.pgo_base.specs.Tree.{Tree}
use Rattle.pgo_base.specs.Data.{Data}
use Rattle.pgo_base.specs.View.{data_of}
use Rattle.pgo_syntax.specs.Statement.{guarded}
use Rattle.pgo_syntax.specs.StatementView.{statement, branch_parts}
use Rattle.pgo_resource.specs.Picked.{words_of}
use Rattle.pgo_macro_run.specs.AroundView.{given_of, value_in, env_of, now_of}
use Rattle.pgo_macro_run.specs.NextView.{NextSo}
use Rattle.pgo_macro_run.specs.Runs as runs
use Rattle.pgo_macro_run.specs.declared.next.Next.{Next}
use Rattle.pgo_resource.specs.declared.resource.OpStop.{OpStop}
use Rattle.pgo_syntax.specs.StatementSize.{height, guarded_height}
use Rattle.pgo_syntax.specs.declared.statement.Stmt.{Stmt}
use Rattle.pgo_macro_run.proofs.Taken.{fails_taken, taken_is, low_branch, low_else, low_other}
use Rattle.pgo_macro_run.proofs.step.if_else.Goals as goal

pub returns-in_err-found : goal.returns-in_err-found
returns-in_err-found c = λ p.
    let g = given_of c.args.around.now (words_of p) in
    let env = env_of c.args.names.now in
    let n = now_of c.args.content.now p in
    let bs = guarded (map branch_parts c.args.branches.now) in
    let x = c.in_err-found.field-0.0 in
    let e : c.from_residual.result ≡ Err x = search rules in
    subst (λ (r : Result Next OpStop). NextSo (suc (max (guarded_height bs) (height (statement c.args.other.now)))) g (runs.branches g bs (runs.run g (statement c.args.other.now) env n) env n) env n p r) (sym e)
    (fails_taken g env n (λ (o : Option (Bor Stmt)). option_map (λ r. statement r.now) o) bs (runs.run g (statement c.args.other.now) env n) x p refl c.in_err-found.ensures)

pub returns-in-Some : goal.returns-in-Some
returns-in-Some c = λ p.
    let bs = guarded (map branch_parts c.args.branches.now) in
    let v : Tree → Option Data = λ e. value_in c.args.around.now e (env_of c.args.names.now) (option_map data_of c.args.content.now) in
    let s = statement c.in-Some.t.now in
    let e = c.in_ok-found.ensures ∙ ap (λ o. Some (option_map (λ r. statement r.now) o)) c.in-Some.is in
    (low_else _ _ _ (low_branch v bs s e), taken_is (given_of c.args.around.now (words_of p)) (env_of c.args.names.now) (now_of c.args.content.now p) bs _ (Some s) e)

pub returns-in-None : goal.returns-in-None
returns-in-None c = λ p.
    let bs = guarded (map branch_parts c.args.branches.now) in
    let e = c.in_ok-found.ensures ∙ ap (λ o. Some (option_map (λ r. statement r.now) o)) c.in-None.is in
    (low_other _ _, taken_is (given_of c.args.around.now (words_of p)) (env_of c.args.names.now) (now_of c.args.content.now p) bs _ None e)
