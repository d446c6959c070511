-- Each turn of the loop is a turn of the function.
use Rattle.std.proofs.Common.{◌-◌, rules, arith, map}
use Rattle.std.proofs.lemmas.Grind.{common_steps}
use Rattle.std.specs.Prelude.{codes}
use Rattle.std.proofs.lemmas.List.{map_push}
use Rattle.pgo_bundle.specs.View.{account_view}
use Rattle.pgo_log_text.specs.Lines.{account, most_parts}
use Rattle.pgo_log_text.proofs.Turns.{all_read, too_many, part_turn}
use Rattle.pgo_log_text.proofs.account.accounts.Goals as goal

pub returns-then-count : goal.returns-then-count
returns-then-count c =
    too_many (codes "inst ") account most_parts c.parts.count c.parts.count (map account_view c.parts.accounts) c.parts.cursor c.parts.invariant (search rules) c.if-count.true

pub returns-in_err-account : goal.returns-in_err-account
returns-in_err-account c =
    let e = part_turn (codes "inst ") account most_parts c.parts.count c.parts.count (map account_view c.parts.accounts) c.parts.cursor c.parts.invariant (search rules) (omega arith) in
    first_of (search rules, grind (arith, common_steps))

pub parts-preserved : goal.parts-preserved
parts-preserved c =
    let e = part_turn (codes "inst ") account most_parts c.parts.count c.parts.count (map account_view c.parts.accounts) c.parts.cursor c.parts.invariant (search rules) (omega arith) in
    let m = map_push account_view c.parts.accounts c.in_ok-account.field-0 in
    first_of (search rules, grind (arith, common_steps))

pub returns : goal.returns
returns c =
    let e = all_read (codes "inst ") account (most_parts - c.parts.count) c.parts.count (map account_view c.parts.accounts) c.parts.cursor (search rules) in
    first_of (search rules, grind (arith, common_steps))
