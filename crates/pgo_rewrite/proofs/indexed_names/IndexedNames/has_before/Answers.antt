use Rattle.std.proofs.Common.{◌∙◌, ap, take}
use Rattle.std.proofs.lemmas.List.{map-id}
use Rattle.pgo_base.specs.FirstPlace.{is_below}
use Rattle.pgo_model.specs.Names.{is_among}
use Rattle.pgo_model.proofs.FirstPlaces.{below_is}
use Rattle.pgo_rewrite.proofs.indexed_names.IndexedNames.has_before.Goals as goal

pub returns-in-Some : goal.returns-in-Some
returns-in-Some c =
    let x = c.args.name.now in
    ap (is_below c.args.count) (c.in-Some.ensures ∙ c.self.invariant x) ∙ below_is (λ y. y) x c.self.inside.list.items c.args.count
    ∙ ap (λ ns. is_among x (take c.args.count ns)) (map-id c.self.inside.list.items ∙ c.self.view_is)

pub returns-in-None : goal.returns-in-None
returns-in-None c =
    let x = c.args.name.now in
    ap (is_below c.args.count) (c.in-None.ensures ∙ c.self.invariant x) ∙ below_is (λ y. y) x c.self.inside.list.items c.args.count
    ∙ ap (λ ns. is_among x (take c.args.count ns)) (map-id c.self.inside.list.items ∙ c.self.view_is)
