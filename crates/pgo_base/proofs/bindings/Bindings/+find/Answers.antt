use Rattle.std.proofs.Common.{◌∷◌, map, sym, ap, ◌∙◌}
use Rattle.pgo_base.specs.Lookup.{find}
use Rattle.pgo_base.specs.BindingsView.{named_view, bound_view, names_of}
use Rattle.pgo_base.proofs.Onto.{found_first, found_behind}
use Rattle.pgo_base.proofs.bindings.Bindings.+find.Goals as goal

pub returns-in-Some : goal.returns-in-Some
returns-in-Some t c =
    found_first c.args.name.now (map named_view (c.in-Named.first.now ∷ c.in-Named.rest.now)) c.in-Named.outer.now _ (rw c.in-Some.is at c.found_named.ensures)
    ∙ ap (λ l. find c.args.name.now (names_of l)) (sym c.in-Named.is) ∙ ap (find c.args.name.now) c.self.view_is

pub returns-in-None : goal.returns-in-None
returns-in-None t c =
    c.find-in-None.ensures
    ∙ found_behind c.args.name.now (map named_view (c.in-Named.first.now ∷ c.in-Named.rest.now)) c.in-Named.outer.now (rw c.in-None.is at c.found_named.ensures)
    ∙ ap (λ l. find c.args.name.now (names_of l)) (sym c.in-Named.is) ∙ ap (find c.args.name.now) c.self.view_is

pub returns-in-Some-found_bound : goal.returns-in-Some-found_bound
returns-in-Some-found_bound t c =
    found_first c.args.name.now (map bound_view (c.in-Bound.first.now ∷ c.in-Bound.rest.now)) c.in-Bound.outer.now _ (rw c.in-Some-found_bound.is at c.found_bound.ensures)
    ∙ ap (λ l. find c.args.name.now (names_of l)) (sym c.in-Bound.is) ∙ ap (find c.args.name.now) c.self.view_is

pub returns-in-None-found_bound : goal.returns-in-None-found_bound
returns-in-None-found_bound t c =
    c.find-in-None-found_bound.ensures
    ∙ found_behind c.args.name.now (map bound_view (c.in-Bound.first.now ∷ c.in-Bound.rest.now)) c.in-Bound.outer.now (rw c.in-None-found_bound.is at c.found_bound.ensures)
    ∙ ap (λ l. find c.args.name.now (names_of l)) (sym c.in-Bound.is) ∙ ap (find c.args.name.now) c.self.view_is
