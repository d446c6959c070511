use Rattle.std.proofs.Common.{◌≡◌, ap, sym, ◌∙◌, option_map}
use Rattle.std.proofs.lemmas.Result.{IfOk-weaker}
use Rattle.std.specs.Prelude.{Some, None}
use Rattle.pgo_base.specs.Lookup.{find}
use Rattle.pgo_meaning.specs.Parameters.{parameter_places}
use Rattle.pgo_effects.specs.PlaceView.{place_view, target_place_of}
use Rattle.pgo_effects.proofs.ParameterLaws.{parameter_found}
use Rattle.pgo_effects.proofs.place.parameter_place.Goals as goal

pub returns-in-Some : goal.returns-in-Some
returns-in-Some c =
    let p = c.args.process.now in let x = c.args.x.now in let t = c.in-Some.target.now in
    IfOk-weaker c.target_place.result (λ r. option_map place_view r ≡ target_place_of p x t) (λ r. option_map place_view r ≡ find x (parameter_places p c.args.bindings.now))
    (λ r h. h ∙ parameter_found p x c.args.bindings.now (Some t) (ap (option_map (λ q. q.now)) (sym c.in-Some.is) ∙ c.unmapped_named.ensures)) c.target_place.ensures

pub returns-in-None : goal.returns-in-None
returns-in-None c =
    parameter_found c.args.process.now c.args.x.now c.args.bindings.now None (ap (option_map (λ q. q.now)) (sym c.in-None.is) ∙ c.unmapped_named.ensures)
