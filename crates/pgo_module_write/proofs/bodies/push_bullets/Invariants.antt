use Rattle.std.proofs.Common.{◌≡◌, ◌++◌, map, reverse, vec_len}
use Rattle.pgo_model.specs.ModuleText.{bullet, flatten}
use Rattle.pgo_module_write.proofs.bodies.push_bullets.Given as goal

abbrev pub invariant-loop-e : goal.invariant-loop-e
invariant-loop-e l =
    l.bytes.items ++ flatten (map bullet (map (λ r. r.now) (reverse l.left.items)))
    ≡ l.initial.bytes.items ++ flatten (map bullet (map (λ r. r.now) (reverse l.initial.left.items)))

abbrev pub decreases-loop-e : goal.decreases-loop-e
decreases-loop-e l = vec_len l.left
