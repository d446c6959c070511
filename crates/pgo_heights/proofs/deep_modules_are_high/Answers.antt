use Rattle.pgo_heights.proofs.Limits.{deep_is_high, high_is_deep}
use Rattle.pgo_heights.proofs.deep_modules_are_high.Goals as goal

pub returns-clause-high : goal.returns-clause-high
returns-clause-high c s h = deep_is_high s h

pub returns-clause-refused : goal.returns-clause-refused
returns-clause-refused c s few high = high_is_deep s few high
