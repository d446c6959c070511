use Rattle.pgo_accounts.proofs.ValueTexts.{value_within}
use Rattle.pgo_run_values.specs.Spellable.{spellable}
use Rattle.pgo_run_values.proofs.Bytes.{short_bytes}
use Rattle.pgo_run_values.proofs.Writable.{all_counted, is_counted, is_writable}
use Rattle.pgo_run_values.proofs.spellable_values_are_read_back.Goals as goal

pub returns-clause-texts : goal.returns-clause-texts
returns-clause-texts c v h low = c.canonical_text_is_value_text.ensures v (is_writable v h low)

pub returns-clause-read : goal.returns-clause-read
returns-clause-read c text v h = value_within spellable (λ x k. k) short_bytes (λ x k. k) text v h

pub returns-clause-counted : goal.returns-clause-counted
returns-clause-counted c v h = is_counted v h

pub returns-clause-all_counted : goal.returns-clause-all_counted
returns-clause-all_counted c consts h = all_counted consts h
