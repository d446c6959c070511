use Rattle.std.proofs.Common.{◌≡◌, ◌+◌, ◌∷◌, [], ◌++◌, take, ap, sym, ◌∙◌}
use Rattle.std.specs.Prelude.{option_map, reverse}
use Rattle.std.proofs.lemmas.List.{take_all, take_more}
use Rattle.pgo_base.specs.Lookup.{find, or_that}
use Rattle.pgo_base.specs.NameMaps.{found}
use Rattle.pgo_check.proofs.ActionNames.{process_more, search_in}
use Rattle.pgo_check.proofs.definitions.bodies_of.Goals as goal

pub loop-p-init : goal.loop-p-init
loop-p-init c = λ x. ap (option_map (λ r. r.now)) (c.new-bodies.ensures x)

pub loop-p-preserved : goal.loop-p-preserved
loop-p-preserved c =
    let i = c.loop-p.p-index in
    let processes = c.args.processes.now in
    let p = c.p-item.result in
    let next : take (i + 1) processes ≡ take i processes ++ p ∷ [] =
    take_more processes i p c.loop-p-test.true ∙ ap (λ q. take i processes ++ q ∷ []) (sym c.p-item.is) in
    λ x. process_more x (take (i + 1) processes) (take i processes) p (option_map (λ r. r.now) (found c.loop-p.bodies x)) (option_map (λ r. r.now) (found c.add_bodies.new.bodies x)) next (c.loop-p.invariant x) (c.in_ok-add_bodies.ensures x ∙ ap (λ ps. or_that (find x (reverse ps)) (option_map (λ r. r.now) (found c.loop-p.bodies x))) c.as_slice.ensures)

pub returns : goal.returns
returns c = λ x. c.loop-p.invariant x ∙ ap (search_in x) (take_all c.loop-p.p-index c.args.processes.now c.loop-p-test.false)
