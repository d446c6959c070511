use Rattle.pgo_written_runs.proofs.Spellable.{all_spellable}
use Rattle.pgo_written_runs.proofs.TextDepths.{value_low}
use Rattle.pgo_written_runs.proofs.read_values_are_canonical.Goals as goal

pub returns-clause-value : goal.returns-clause-value
returns-clause-value c text v h = c.spellable_values_are_read_back.ensures.texts v (c.spellable_values_are_read_back.ensures.read text v h) (value_low text v h)

pub returns-clause-spellable : goal.returns-clause-spellable
returns-clause-spellable c consts h = all_spellable c.spellable_values_are_read_back.ensures.read consts h
