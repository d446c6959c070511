use Rattle.std.proofs.Common.{◌≡◌, [], length, map, ap, sym, ◌∙◌, subst}
use Rattle.std.specs.Prelude.{IfOk}
use Rattle.std.proofs.lemmas.Bool.{eqb-true}
use Rattle.std.proofs.lemmas.List.{nil_from_length}
use Rattle.pgo_model.specs.ModuleView.{defined_view}
use Rattle.pgo_model.specs.Val.{Means}
use Rattle.pgo_check.specs.Constants.{IsSame}
use Rattle.pgo_check.proofs.constants.by_value_if.Goals as goal

pub returns-then-is_empty : goal.returns-then-is_empty
returns-then-is_empty c =
    let made = map defined_view c.args.made.now in
    let x = c.in-Means.name in
    let e = c.in-Means.body in
    let list = c.as_slice.result.now in
    let params : c.in-Means.params ≡ [] = sym c.as_slice.ensures ∙ nil_from_length list (eqb-true (length list) 0 (sym c.if-is_empty.ensures)) in
    let seen : defined_view c.args.d.now ≡ Means x [] e = ap defined_view c.in-Means.is ∙ ap (λ ps. Means x ps e) params in
    subst (λ d. IfOk c.by_value.result (λ s. IsSame made d (defined_view s))) (sym seen) c.by_value.ensures
