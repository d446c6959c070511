use Rattle.std.proofs.Common.{◌≡◌, ◌++◌, replicate}
use Rattle.pgo_words.proofs.turns.repeat.Given as goal

abbrev pub invariant-loop : goal.invariant-loop
invariant-loop l = l.turns.items ≡ l.fn.turns.items ++ replicate l.counter l.item.instance
