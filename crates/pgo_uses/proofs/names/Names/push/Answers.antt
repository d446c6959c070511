use Rattle.std.proofs.Common.{◌≡◌, [], ◌∷◌, ◌++◌, length, ◌∙◌, arith}
use Rattle.pgo_base.specs.NameMaps.{found}
use Rattle.pgo_base.proofs.FirstPlaces.{place_added}
use Rattle.pgo_uses.proofs.names.Names.push.Goals as goal

pub invariant_of-self-2 : goal.invariant_of-self-2
invariant_of-self-2 c =
    let rows = c.self.inside.list.items in
    let place : c.len-place.result ≡ length rows = omega (arith, c.len-place.ensures, c.self.inside.list.ok.0) in
    place_added (λ r. r.0) (found c.self.inside.index) (found c.set_first.new.self) rows c.push_reserved.new.self.items (c.args.name.now, c.args.number) c.len-place.result c.self.invariant c.in_ok-set_first.ensures.noted place
    (c.push_reserved.ensures.items ∙ (λ i. c.in_ok-reserve.ensures.items i ++ (c.in_ok-copy.ensures i, c.args.number) ∷ []))
