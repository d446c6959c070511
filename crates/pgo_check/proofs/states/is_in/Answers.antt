use Rattle.std.proofs.Common.{◌≡◌, ap, sym, ◌∙◌}
use Rattle.std.specs.Prelude.{is_some, Some, option_map}
use Rattle.pgo_base.specs.Data.{function, pairs}
use Rattle.pgo_base.specs.Lookup.{find}
use Rattle.pgo_base.specs.View.{data_of}
use Rattle.pgo_model.specs.LogView.{component_view}
use Rattle.pgo_model.specs.Operators.{lookup}
use Rattle.pgo_check.proofs.Stored.{content_at, is_some_of}
use Rattle.pgo_check.proofs.states.is_in.Goals as goal

pub returns-in-Fun : goal.returns-in-Fun
returns-in-Fun c =
    let x = component_view c.args.component.now in
    let i = data_of c.in-Some-index.index in
    let found : find x.variable c.args.s.now ≡ Some (function (pairs c.in-Fun.f)) =
    sym c.value_of.ensures ∙ ap (option_map (λ r. data_of r.now)) c.in-Some.is ∙ ap (λ v. Some (data_of v)) c.in-Fun.is in
    let there : option_map (λ r. data_of r.now) c.value_at.result ≡ lookup i c.in-Fun.f = c.value_at.ensures in
    c.is_some.ensures ∙ is_some_of c.value_at.result (λ r. data_of r.now) (lookup i c.in-Fun.f) there
    ∙ ap is_some (sym (content_at x c.args.s.now i c.in-Fun.f (ap (option_map data_of) c.in-Some-index.is) found))
