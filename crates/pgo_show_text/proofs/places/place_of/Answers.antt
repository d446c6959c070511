use Rattle.std.proofs.Common.{◌≡◌, ap, sym, ◌∙◌}
use Rattle.std.specs.Prelude.{Some}
use Rattle.pgo_base.specs.Data.{function, pairs, graph-pairs}
use Rattle.pgo_base.specs.Lookup.{find}
use Rattle.pgo_base.specs.View.{data_of}
use Rattle.pgo_model.specs.Operators.{lookup}
use Rattle.pgo_model.specs.Written.{pc}
use Rattle.pgo_check.proofs.Places.{place_is}
use Rattle.pgo_show_text.proofs.places.place_of.Goals as goal

pub returns-in-Fun : goal.returns-in-Fun
returns-in-Fun c =
    let found : find pc c.args.state.now ≡ Some (function (pairs c.in-Fun.f)) = sym c.in-Some.ensures ∙ ap (λ v. Some (data_of v)) c.in-Fun.is in
    let id = data_of c.args.id.now in
    c.value_at.ensures ∙ sym (place_is id (function (pairs c.in-Fun.f)) c.args.state.now found ∙ ap (lookup id) (graph-pairs c.in-Fun.f))
