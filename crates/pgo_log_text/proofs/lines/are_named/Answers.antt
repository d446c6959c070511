-- Other counts than the names' are those of no names.
use Rattle.std.proofs.Common.{sym}
use Rattle.pgo_log_text.proofs.Turns.{named_lengths}
use Rattle.pgo_log_text.proofs.lines.are_named.Goals as goal

pub returns-then-consts-names : goal.returns-then-consts-names
returns-then-consts-names c = sym (named_lengths c.args.consts.now c.args.names.now c.if-consts-names.true)
