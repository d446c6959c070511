-- What was read is the only module that the text spells, and where none was read it spells none.
use Rattle.std.proofs.Common.{sym}
use Rattle.pgo_log_text.proofs.bundle_reader.module_of.Goals as goal

pub returns-in-Ok-clause-ok : goal.returns-in-Ok-clause-ok
returns-in-Ok-clause-ok c = record { spells = c.in-Ok.ensures.found; only = λ n h. sym (c.in-Ok.ensures.only n h) }

pub returns-in-Err-Syntax-clause-refused : goal.returns-in-Err-Syntax-clause-refused
returns-in-Err-Syntax-clause-refused c = let none = rw c.in-Err-Syntax.field-0-is at c.in-Err-Syntax.ensures.only in c.no_module.ensures c.args.text.now none
