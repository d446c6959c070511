use Rattle.std.specs.Vec.Iter.{into_iter_items}
use Rattle.pgo_eval.proofs.Arguments.{AreNamed}
use Rattle.pgo_eval.proofs.definitions.arguments.Given as goal

abbrev pub invariant-loop-v : goal.invariant-loop-v
invariant-loop-v l = AreNamed l.params l.fn.args.items l.list (into_iter_items l.v-iterator)
