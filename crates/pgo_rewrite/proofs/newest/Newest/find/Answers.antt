use Rattle.std.proofs.Common.{◌≡◌, Some, None, ap, sym, ◌∙◌}
use Rattle.std.proofs.lemmas.Option.{slice_get_past, slice_get-get_or}
use Rattle.std.specs.Prelude.{option_map, slice_get}
use Rattle.pgo_base.specs.Lookup.{find}
use Rattle.pgo_rewrite.proofs.NewestLaws.{placed_value}
use Rattle.pgo_rewrite.proofs.newest.Newest.find.Goals as goal

pub returns-in-Some-get : goal.returns-in-Some-get
returns-in-Some-get g c =
    let i = c.in-Some.place.now in
    let rows = c.self.inside.list.items in
    let got : Some c.in-Some-get.row.now ≡ slice_get c.deref.result.now i =
    ap Some c.in-Some-get.ensures.lookup.1 ∙ sym (slice_get-get_or c.deref.result.now i c.in-Some-get.row.now c.in-Some-get.ensures.lookup.3.0) in
    ap (option_map (λ r. r.1)) (got ∙ ap (λ l. slice_get l i) c.deref.ensures.value)
    ∙ placed_value rows c.args.name.now (Some i) (c.in-Some.ensures ∙ c.self.invariant c.args.name.now)
    ∙ ap (find c.args.name.now) c.self.view_is

pub returns-in-None-get : goal.returns-in-None-get
returns-in-None-get g c =
    let i = c.in-Some.place.now in
    let rows = c.self.inside.list.items in
    ap (option_map (λ r. r.1)) (sym (slice_get_past c.deref.result.now i c.in-None-get.ensures.lookup.3) ∙ ap (λ l. slice_get l i) c.deref.ensures.value)
    ∙ placed_value rows c.args.name.now (Some i) (c.in-Some.ensures ∙ c.self.invariant c.args.name.now)
    ∙ ap (find c.args.name.now) c.self.view_is

pub returns-in-None : goal.returns-in-None
returns-in-None g c =
    placed_value c.self.inside.list.items c.args.name.now None (c.in-None.ensures ∙ c.self.invariant c.args.name.now)
    ∙ ap (find c.args.name.now) c.self.view_is
