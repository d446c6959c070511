-- What the expression sees.
use Rattle.std.proofs.Common.{◌≡◌, List, ◌∷◌, ◌++◌, [], map, reverse, Some, None, ap, ◌∙◌, subst}
use Rattle.std.specs.Prelude.{Option, option_map}
use Rattle.std.specs.Borrow.{Bor}
use Rattle.pgo_base.specs.BindingsView.{named_view, onto}
use Rattle.pgo_base.specs.ExprView.{tree}
use Rattle.pgo_base.specs.Lookup.{Names, Vars}
use Rattle.pgo_base.specs.Tree.{Tree}
use Rattle.pgo_base.specs.View.{data_of, named_data}
use Rattle.pgo_base.specs.declared.scope.State.{State}
use Rattle.pgo_model.specs.ModuleView.{defined_view}
use Rattle.pgo_model.specs.Val.{Meaning, Val, val}
use Rattle.pgo_sets.specs.Answers.{Answers}
use Rattle.pgo_places.proofs.Names.{onto_reverse}
use Rattle.pgo_places.proofs.evaluated.value_here.Goals as goal

pub returns : goal.returns
returns c =
    let env = c.args.stand.now.env.items in let vs = c.args.stand.now.variables.items in
    let first : Names = (c.args.frame.fixed.now.identity, Some (data_of c.args.frame.fixed.now.id)) ∷ [] in
    let identity : c.with-identity.result ≡ first = c.with-identity.ensures ∙ ap (λ ns. (c.args.frame.fixed.now.identity, Some (data_of c.args.frame.fixed.now.id)) ∷ ns) c.new-none.ensures in
    let variables : c.with_values-variables.result ≡ onto (map named_view vs) first =
    c.with_values-variables.ensures ∙ ap (λ xs. onto (map named_view xs) c.with-identity.result) c.deref.ensures.value ∙ ap (λ ns. onto (map named_view vs) ns) identity in
    let names : c.with_values-names.result ≡ reverse (map named_view env) ++ onto (map named_view vs) first =
    c.with_values-names.ensures ∙ ap (λ xs. onto (map named_view xs) c.with_values-variables.result) c.deref-2.ensures.value
    ∙ ap (λ ns. onto (map named_view env) ns) variables ∙ onto_reverse (map named_view env) (onto (map named_view vs) first) in
    let defs = map defined_view c.args.frame.definitions.now in
    let state : c.from_vec-state.result ≡ [] = c.from_vec-state.ensures ∙ ap (map named_data) c.new.ensures.items in
    let ns : Names = reverse (map named_view env) ++ onto (map named_view vs) first in
    let now : Answers c.eval.result (Val defs (tree c.get.result.now) c.with_values-names.result c.from_vec-state.result (option_map (λ r. r.now) c.one.result.next)) =
    subst (λ (s : Vars). Answers c.eval.result (Val defs (tree c.get.result.now) c.with_values-names.result s (option_map (λ r. r.now) c.one.result.next))) c.one.ensures.state c.eval.ensures in
    let around : Answers c.eval.result (Val defs (tree c.get.result.now) c.with_values-names.result c.from_vec-state.result None) =
    subst (λ (o : Option (Bor State)). Answers c.eval.result (Val defs (tree c.get.result.now) c.with_values-names.result c.from_vec-state.result (option_map (λ r. r.now) o))) c.one.ensures.next now in
    c.value_or_none.ensures _
    (subst (λ (ms : List Meaning). Answers c.eval.result (val c.args.expression.now (record { names = ns; part = None; now = []; next = None; defs = ms }))) c.args.frame.same
    (subst (λ (s : Vars). Answers c.eval.result (Val defs c.args.expression.now (reverse (map named_view env) ++ onto (map named_view vs) first) s None)) state
    (subst (λ (ns : Names). Answers c.eval.result (Val defs c.args.expression.now ns c.from_vec-state.result None)) names
    (subst (λ (e : Tree). Answers c.eval.result (Val defs e c.with_values-names.result c.from_vec-state.result None)) c.get.ensures around))))
