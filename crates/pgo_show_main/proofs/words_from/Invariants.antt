-- The words so far and the texts to come are all texts behind the first.
use Rattle.std.proofs.Common.{◌≡◌, ◌++◌, map, string_bytes}
use Rattle.std.specs.Vec.Iter.{into_iter_items}
use Rattle.pgo_show_main.proofs.words_from.Given as goal

abbrev pub invariant-loop-argument : goal.invariant-loop-argument
invariant-loop-argument l =
    l.words.items ++ map string_bytes (into_iter_items l.argument-iterator) ≡
    map string_bytes (into_iter_items l.initial.argument-iterator)
