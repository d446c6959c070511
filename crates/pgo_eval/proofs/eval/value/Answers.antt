use Rattle.std.proofs.Common.{◌≡◌, List, take, length, map, take_all, subst, ap, ◌∙◌, arith}
use Rattle.std.specs.Prelude.{IfOk, option_map}
use Rattle.pgo_base.specs.ExprView.{tree}
use Rattle.pgo_base.specs.View.{data_of}
use Rattle.pgo_base.specs.declared.module.Defined.{Defined}
use Rattle.pgo_model.specs.ModuleView.{defined_view}
use Rattle.pgo_model.specs.Val.{Val}
use Rattle.pgo_eval.proofs.eval.value.Goals as goal

pub returns : goal.returns
returns c =
    let defs = c.args.defs.now in
    let env = c.args.env.now in
    let count = length c.as_slice.result.now in
    let all : take count defs ≡ defs = take_all count defs (omega (arith, ap (λ (ds : List Defined). length ds) c.as_slice.ensures)) in
    subst (λ x. IfOk c.owned.result (λ o. option_map data_of o ≡ x))
    (c.in_ok-held.ensures ∙ ap (λ ds. Val (map defined_view ds) (tree c.args.e.now) env.names.now env.around.state.now (option_map (λ r. r.now) env.around.next)) all)
    c.owned.ensures
