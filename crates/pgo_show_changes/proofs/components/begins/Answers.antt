-- The library's test is the function.
use Rattle.std.proofs.Common.{◌∙◌}
use Rattle.pgo_value_text.proofs.Runs.{starts_so}
use Rattle.pgo_show_changes.proofs.components.begins.Goals as goal

pub returns : goal.returns
returns c = c.starts_with.ensures.value ∙ starts_so c.args.wanted.now c.args.bytes.now
