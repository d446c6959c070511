-- The word is that of the command.
use Rattle.std.proofs.Common.{sym}
use Rattle.pgo_model.specs.Names.{same_bytes-is}
use Rattle.pgo_words.proofs.commands.find_command.Goals as goal

pub returns-then-same_bytes : goal.returns-then-same_bytes
returns-then-same_bytes c = same_bytes-is _ _ (sym c.if-same_bytes.ensures)

pub returns-then-same_bytes-2 : goal.returns-then-same_bytes-2
returns-then-same_bytes-2 c = same_bytes-is _ _ (sym c.if-same_bytes-2.ensures)

pub returns-then-same_bytes-3 : goal.returns-then-same_bytes-3
returns-then-same_bytes-3 c = same_bytes-is _ _ (sym c.if-same_bytes-3.ensures)

pub returns-then-same_bytes-4 : goal.returns-then-same_bytes-4
returns-then-same_bytes-4 c = same_bytes-is _ _ (sym c.if-same_bytes-4.ensures)

pub returns-then-same_bytes-5 : goal.returns-then-same_bytes-5
returns-then-same_bytes-5 c = same_bytes-is _ _ (sym c.if-same_bytes-5.ensures)

pub returns-then-same_bytes-6 : goal.returns-then-same_bytes-6
returns-then-same_bytes-6 c = same_bytes-is _ _ (sym c.if-same_bytes-6.ensures)

pub returns-then-same_bytes-7 : goal.returns-then-same_bytes-7
returns-then-same_bytes-7 c = same_bytes-is _ _ (sym c.if-same_bytes-7.ensures)
