use Rattle.std.proofs.Common.{◌≡◌, [], ◌∷◌, ◌++◌, map, option_map, Some, None, ap, ◌∙◌, subst}
use Rattle.std.specs.Prelude.{Option, unwrap_or}
use Rattle.std.specs.Borrow.{Bor}
use Rattle.pgo_base.specs.BindingsView.{named_view}
use Rattle.pgo_base.specs.ExprView.{tree}
use Rattle.pgo_base.specs.View.{data_of}
use Rattle.pgo_base.specs.declared.scope.State.{State}
use Rattle.pgo_model.specs.ModuleView.{defined_view}
use Rattle.pgo_model.specs.Val.{Val}
use Rattle.pgo_model.specs.Written.{self_name}
use Rattle.pgo_sections.specs.Code.{content_name}
use Rattle.pgo_macro_run.specs.Answers.{GivesSo}
use Rattle.pgo_macro_run.specs.AroundView.{env_of}
use Rattle.pgo_macro_run.proofs.Ontos.{onto_append}
use Rattle.pgo_macro_run.proofs.around.Around.value.Goals as goal

pub returns : goal.returns
returns c =
    let a = c.args.self.now in
    let ds = map defined_view a.env.defs.now in
    let t = tree c.args.e.now in
    let old = unwrap_or (option_map data_of c.args.content.now) (data_of a.old.now) in
    let outer : c.with-itself.result ≡ (self_name, Some (data_of a.env.id.now)) ∷ [] = cc in
    let last : c.with-variable.result ≡ (content_name, Some old) ∷ (self_name, Some (data_of a.env.id.now)) ∷ [] = cc in
    let names : c.with_values-names.result ≡ env_of c.args.names.now ++ ((content_name, Some old) ∷ (self_name, Some (data_of a.env.id.now)) ∷ []) =
    c.with_values-names.ensures ∙ onto_append (map named_view c.args.names.now) c.with-variable.result ∙ ap (λ l. env_of c.args.names.now ++ l) last in
    let state : GivesSo data_of (Val ds t c.with_values-names.result a.state (option_map (λ r. r.now) c.one.result.next)) c.answered.result =
    subst (λ st. GivesSo data_of (Val ds t c.with_values-names.result st (option_map (λ r. r.now) c.one.result.next)) c.answered.result) c.one.ensures.state (c.answered.ensures _ c.eval.ensures) in
    let around : GivesSo data_of (Val ds t c.with_values-names.result a.state None) c.answered.result =
    subst (λ (o : Option (Bor State)). GivesSo data_of (Val ds t c.with_values-names.result a.state (option_map (λ r. r.now) o)) c.answered.result) c.one.ensures.next state in
    subst (λ st. GivesSo data_of (Val ds t (env_of c.args.names.now ++ ((content_name, Some old) ∷ (self_name, Some (data_of a.env.id.now)) ∷ [])) st None) c.answered.result) a.state_is
    (subst (λ ns. GivesSo data_of (Val ds t ns a.state None) c.answered.result) names around)
