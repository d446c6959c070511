use Rattle.std.proofs.Common.{◌≡◌, ◌<◌, ◌≤◌, [], length, map, get_or, sym, subst}
use Rattle.pgo_base.specs.NameMaps.{has_name}
use Rattle.pgo_model.specs.ModuleView.{defined_view}
use Rattle.pgo_check.specs.Constants.{MeansSame}
use Rattle.pgo_check.proofs.ConstantDefinitions.{none_made, taken_more, all_taken}
use Rattle.pgo_check.proofs.constants.constants_by_value.Goals as goal

pub loop-d-init : goal.loop-d-init
loop-d-init c =
    let variables = has_name c.in_ok-varying.varying in
    subst (λ ms. MeansSame variables variables (map defined_view ms) []) (sym c.new-made.ensures) (none_made variables)

pub loop-d-preserved : goal.loop-d-preserved
loop-d-preserved c =
    let i = c.loop-d.d-index in
    let d = c.d-item.result in
    let ds = c.args.defs.now in
    let below : i < length ds = subst (λ l. i < length l) c.as_slice-d-items.ensures c.loop-d-test.true in
    let here : d ≡ get_or ds i d = subst (λ l. d ≡ get_or l i d) c.as_slice-d-items.ensures c.d-item.is in
    taken_more ds i d (has_name c.in_ok-varying.varying) (has_name c.loop-d.varying) (has_name c.add.new.varying) (map defined_view c.loop-d.made) (map defined_view c.add.new.made) below here c.in_ok-add.ensures c.loop-d.invariant

pub returns : goal.returns
returns c =
    let i = c.loop-d.d-index in
    let ds = c.args.defs.now in
    let all : length ds ≤ i = subst (λ l. length l ≤ i) c.as_slice-d-items.ensures c.loop-d-test.false in
    all_taken ds i c.args.start.now (has_name c.in_ok-varying.varying) (has_name c.loop-d.varying) (map defined_view c.loop-d.made) all c.in_ok-varying.ensures c.loop-d.invariant
