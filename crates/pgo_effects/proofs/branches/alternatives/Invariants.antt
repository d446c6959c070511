use Rattle.std.proofs.Common.{◌≡◌, map, drop}
use Rattle.pgo_syntax.specs.Statement.{statements}
use Rattle.pgo_syntax.specs.StatementView.{statement}
use Rattle.pgo_meaning.specs.Statements.{Setting, arms}
use Rattle.pgo_effects.specs.Around.{around_view, stands_each, written_label}
use Rattle.pgo_effects.specs.Pieces.{arms_then}
use Rattle.pgo_effects.specs.Todos.{codes_of}
use Rattle.pgo_effects.proofs.branches.alternatives.Given as goal

abbrev pub invariant-loop-t : goal.invariant-loop-t
invariant-loop-t l =
    (s : Setting) → arms_then (codes_of s l.todos.items) (arms s (written_label s (around_view l.around).label) (stands_each (around_view l.around) (statements (map statement (drop l.t-index l.list)))))
    ≡ arms s (written_label s (around_view l.around).label) (stands_each (around_view l.around) (statements (map statement l.list)))
