use Rattle.std.proofs.Common.{◌≡◌, ◌≤◌, [], ◌∷◌, ◌++◌, length, map, take, drop}
use Rattle.pgo_eval.specs.Choices.{left, chosen, restarted}
use Rattle.pgo_eval.proofs.choice.advance_last.Given as goal

abbrev pub invariant-loop-i : goal.invariant-loop-i
invariant-loop-i l = record {
  in_range : l.i ≤ length l.initial.bound;
  now : l.bound ≡ take l.i l.initial.bound ++ map restarted (drop l.i l.initial.bound);
  last : left (drop l.i l.initial.bound) ≡ chosen (drop l.i l.initial.bound) ∷ [];
}

abbrev pub decreases-loop-i : goal.decreases-loop-i
decreases-loop-i l = l.i
