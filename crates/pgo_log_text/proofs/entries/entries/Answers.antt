-- Each turn of the loop is a turn of the function.
use Rattle.std.proofs.Common.{◌-◌, ◌+◌, rules, arith, map}
use Rattle.std.proofs.lemmas.Grind.{common_steps}
use Rattle.std.specs.Prelude.{codes}
use Rattle.std.proofs.lemmas.List.{map_push}
use Rattle.pgo_bundle.specs.View.{logged_entry_view, version_view}
use Rattle.pgo_log_text.specs.Lines.{entry_as, most_parts}
use Rattle.pgo_log_text.proofs.Turns.{all_read, too_many, part_turn}
use Rattle.pgo_log_text.proofs.entries.entries.Goals as goal

pub returns-then-count : goal.returns-then-count
returns-then-count c =
    too_many (codes "step ") (entry_as (version_view c.args.version)) most_parts c.parts.count (c.parts.count + 1) (map logged_entry_view c.parts.entries) c.parts.cursor c.parts.invariant (search rules) c.if-count.true

pub returns-in_err-entry_as : goal.returns-in_err-entry_as
returns-in_err-entry_as c =
    let e = part_turn (codes "step ") (entry_as (version_view c.args.version)) most_parts c.parts.count (c.parts.count + 1) (map logged_entry_view c.parts.entries) c.parts.cursor c.parts.invariant (search rules) (omega arith) in
    first_of (search rules, grind (arith, common_steps))

pub parts-preserved : goal.parts-preserved
parts-preserved c =
    let e = part_turn (codes "step ") (entry_as (version_view c.args.version)) most_parts c.parts.count (c.parts.count + 1) (map logged_entry_view c.parts.entries) c.parts.cursor c.parts.invariant (search rules) (omega arith) in
    let m = map_push logged_entry_view c.parts.entries c.in_ok-entry_as.field-0 in
    first_of (search rules, grind (arith, common_steps))

pub returns : goal.returns
returns c =
    let e = all_read (codes "step ") (entry_as (version_view c.args.version)) (most_parts - c.parts.count) (c.parts.count + 1) (map logged_entry_view c.parts.entries) c.parts.cursor (search rules) in
    first_of (search rules, grind (arith, common_steps))
