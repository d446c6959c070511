use Rattle.std.proofs.Common.{◌≤◌, length, arith}
use Rattle.pgo_bound.specs.BoundOf.{bound_of}
use Rattle.pgo_model.specs.MachineLists.{nth_below}
use Rattle.pgo_prints.proofs.Entries.{prints_few, prints_spellable}
use Rattle.pgo_prints.proofs.prints_are_spellable.Goals as goal

pub returns-clause-values : goal.returns-clause-values
returns-clause-values c text s consts settings f p e spells passes spelled made at_p =
    let b = bound_of s consts in
    let accepted = c.texts_are_accepted.ensures.accepted text s consts spells passes.names passes.labels passes.binding in
    let keeps = c.texts_keep_states.ensures.kept text s consts spells passes (c.spellable_values_are_read_back.ensures.all_counted consts spelled) in
    let n = nth_below f.entries p e at_p in
    let low : p ≤ length f.entries = omega (arith, n) in
    prints_spellable s consts settings f made p e at_p accepted (c.run_values_are_spellable.ensures.literals text s spells) spelled keeps (c.made_entries_are_runs.ensures.good b settings f keeps made p low) (c.run_values_are_spellable.ensures.made text s consts settings f p spells passes spelled made low)

pub returns-clause-few : goal.returns-clause-few
returns-clause-few c text s consts settings f p e spells passes spelled made at_p =
    prints_few s consts settings f made p e at_p (c.texts_are_accepted.ensures.accepted text s consts spells passes.names passes.labels passes.binding) passes.limits
