use Rattle.std.proofs.Common.{sym}
use Rattle.pgo_resource.proofs.WordAt.{word_at-get, word_at-behind}
use Rattle.pgo_resource.proofs.points.listed_word.Goals as goal

pub returns-then-i-words : goal.returns-then-i-words
returns-then-i-words c = sym (word_at-get c.args.words.now c.args.number)

pub returns-else-i-words : goal.returns-else-i-words
returns-else-i-words c = sym (word_at-behind c.args.words.now c.args.number c.if-i-words.false)
