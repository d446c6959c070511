use Rattle.std.proofs.Common.{◌≡◌, ◌+◌, ◌∷◌, [], ◌++◌, map, take, refl, ap, sym, ◌∙◌, subst}
use Rattle.std.specs.Prelude.{option_map, reverse}
use Rattle.std.proofs.lemmas.List.{map_push, take_all, take_more}
use Rattle.pgo_base.specs.ActionView.{action_pair}
use Rattle.pgo_base.specs.Lookup.{find, or_that}
use Rattle.pgo_base.specs.NameMaps.{found}
use Rattle.pgo_check.proofs.ActionNames.{action_more}
use Rattle.pgo_check.proofs.definitions.add_bodies.Goals as goal

pub loop-a-preserved : goal.loop-a-preserved
loop-a-preserved c =
    let i = c.loop-a.a-index in
    let actions = c.args.actions.now in
    let a = c.a-item.result in
    let next : map action_pair (take (i + 1) actions) ≡ map action_pair (take i actions) ++ action_pair a ∷ [] =
    ap (map action_pair) (take_more actions i a c.loop-a-test.true ∙ ap (λ q. take i actions ++ q ∷ []) (sym c.a-item.is))
    ∙ map_push action_pair (take i actions) a in
    λ x. (
    let first = option_map (λ r. r.now) (found c.args.bodies.now x) in
    subst (λ ps. option_map (λ r. r.now) (found c.set.new.self x) ≡ or_that (find x (reverse ps)) first) (sym next) (action_more (found c.loop-a.bodies x) (found c.set.new.self x) _ (λ r. r.now) x (map action_pair (take i actions)) (action_pair a) first refl (c.in_ok-set.ensures.noted x) (c.loop-a.invariant x))
    )

pub returns : goal.returns
returns c =
    let i = c.loop-a.a-index in
    let actions = c.args.actions.now in
    λ x. c.loop-a.invariant x ∙ ap (λ l. or_that (find x (reverse (map action_pair l))) (option_map (λ r. r.now) (found c.args.bodies.now x))) (take_all i actions c.loop-a-test.false)
