use Rattle.std.proofs.Common.{◌≡◌, sym, ◌∙◌, option_map}
use Rattle.std.proofs.lemmas.Result.{IfOk-weaker}
use Rattle.pgo_base.specs.Lookup.{find}
use Rattle.pgo_meaning.specs.Parameters.{parameter_places, local_places, places_of}
use Rattle.pgo_effects.specs.PlaceView.{place_view}
use Rattle.pgo_effects.proofs.PlaceLaws.{in_first, in_second}
use Rattle.pgo_effects.proofs.place.process_place.Goals as goal

pub returns-then-is_some : goal.returns-then-is_some
returns-then-is_some c =
    let p = c.args.process.now in
    in_first c.args.x.now place_view (parameter_places p c.args.bindings.now) (local_places p c.args.archetype.now.locals) c.in_ok-found.found c.in_ok-found.ensures (sym c.if-is_some.ensures)

pub returns : goal.returns
returns c =
    let p = c.args.process.now in let x = c.args.x.now in
    IfOk-weaker c.local_place.result (λ r. option_map place_view r ≡ find x (local_places p c.args.archetype.now.locals)) (λ r. option_map place_view r ≡ find x (places_of p c.args.archetype.now c.args.bindings.now))
    (λ r h. h ∙ in_second x place_view (parameter_places p c.args.bindings.now) (local_places p c.args.archetype.now.locals) c.in_ok-found.found c.in_ok-found.ensures (sym c.if-is_some.ensures)) c.local_place.ensures
