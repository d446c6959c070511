-- What the loop keeps: the elements so far are numbered, and with those that are left they are as many as were given.
use Rattle.std.proofs.Common.{◌≡◌, ◌+◌, ◌<◌, ◌^◌, length, map}
use Rattle.pgo_base.specs.View.{data_of, pair_of}
use Rattle.pgo_model.specs.Operators.{sequence_at}
use Rattle.pgo_value_text.proofs.built.numbered.Given as goal

abbrev pub invariant-loop-element : goal.invariant-loop-element
invariant-loop-element l = (map pair_of l.numbered.items ≡ sequence_at 1 (map data_of l.yielded)) × (length l.numbered.items + length l.element-iterator.rest.items < 2 ^ 63)
