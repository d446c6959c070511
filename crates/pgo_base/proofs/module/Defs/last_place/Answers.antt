use Rattle.std.proofs.Common.{◌≡◌, take, ap, sym, ◌∙◌, arith}
use Rattle.std.specs.Prelude.{Some, None}
use Rattle.pgo_base.specs.LastPlace.{defined_name, last_place}
use Rattle.pgo_base.proofs.LastPlaces.{last_kept, none_kept}
use Rattle.pgo_base.proofs.module.Defs.last_place.Goals as goal

pub returns-then-place-count : goal.returns-then-place-count
returns-then-place-count c =
    let x = c.args.name.now in
    let found : Some c.in-Some.place.now ≡ last_place defined_name x c.self.inside.list.items = c.in-Some.ensures ∙ c.self.invariant x in
    sym (last_kept defined_name x c.self.inside.list.items c.args.count c.in-Some.place.now (sym found) (omega (arith, c.if-place-count.true)))
    ∙ ap (λ ds. last_place defined_name x (take c.args.count ds)) c.self.view_is

pub returns-in-None : goal.returns-in-None
returns-in-None c =
    let x = c.args.name.now in
    let found : None ≡ last_place defined_name x c.self.inside.list.items = c.in-None.ensures ∙ c.self.invariant x in
    sym (none_kept defined_name x c.self.inside.list.items c.args.count (sym found))
    ∙ ap (λ ds. last_place defined_name x (take c.args.count ds)) c.self.view_is
