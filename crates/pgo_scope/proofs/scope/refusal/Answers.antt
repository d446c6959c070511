use Rattle.std.proofs.Common.{◌≡◌, map, ◌∙◌, subst}
use Rattle.std.specs.Prelude.{IfOk}
use Rattle.pgo_scope.specs.Binders.{see_macro_captures}
use Rattle.pgo_scope.specs.MacroTableView.{see_parameters}
use Rattle.pgo_scope.specs.Refusal.{first_broken, all_rules}
use Rattle.pgo_scope.specs.Rules.{Context, found_by}
use Rattle.pgo_scope.specs.Twice.{captures_by}
use Rattle.pgo_scope.specs.Usage.{macro_table_by}
use Rattle.pgo_scope.proofs.scope.refusal.Goals as goal

pub returns : goal.returns
returns c =
    let names = c.in_ok-tables.tables.macros in
    let t = c.in_ok-tables.ensures in
    let list = c.as_slice-list.ensures in
    let k = (λ i. (names, map see_parameters (c.as_slice.ensures.value i))) ∙ c.in_ok-parameters.ensures ∙ (λ i. macro_table_by ((t i).macros) (list i)) in
    let q = (λ i. (names, map (see_macro_captures c.in_ok-binders.binders) (c.as_slice-2.ensures.value i))) ∙ c.in_ok-captures.ensures ∙ (λ i. captures_by ((t i).macros) (list i)) in
    let us = c.as_slice-3.ensures.value ∙ c.in_ok-uses.ensures in
    subst (λ (x : Context). IfOk c.first_of.result (λ r. r ≡ first_broken (map (λ r. found_by r x) all_rules)))
    (λ i. record { spec = c.in_ok-units.ensures i; tables = t i; macros = k i; captures = q i; uses = us i })
    c.first_of.ensures
