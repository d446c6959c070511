use Rattle.std.proofs.Common.{◌≡◌, ◌++◌, ◌∷◌, [], length, ap, ◌∙◌, arith}
use Rattle.pgo_base.specs.NameMaps.{found}
use Rattle.pgo_base.proofs.FirstPlaces.{place_added}
use Rattle.pgo_rewrite.proofs.indexed_names.IndexedNames.push.Goals as goal

pub invariant_of-self-2 : goal.invariant_of-self-2
invariant_of-self-2 c =
    let ns = c.self.inside.list.items in
    let place : c.len-place.result ≡ length ns = omega (arith, c.len-place.ensures, c.self.inside.list.ok.0) in
    place_added (λ y. y) (found c.self.inside.places) (found c.set_first.new.self) ns c.push_reserved.new.self.items c.args.name c.len-place.result c.self.invariant c.in_ok-set_first.ensures.noted place
    (c.push_reserved.ensures.items ∙ ap (λ l. l ++ c.args.name ∷ []) c.in_ok-reserve.ensures.items)
