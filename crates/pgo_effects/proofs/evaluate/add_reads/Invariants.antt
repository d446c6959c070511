use Rattle.std.proofs.Common.{◌≡◌}
use Rattle.pgo_sections.specs.Access.{after}
use Rattle.pgo_sections.specs.Code.{Code}
use Rattle.pgo_rewrite.specs.Views.{read_views}
use Rattle.pgo_effects.specs.Pieces.{code_with}
use Rattle.pgo_effects.proofs.evaluate.add_reads.Given as goal

abbrev pub invariant-loop-read : goal.invariant-loop-read
invariant-loop-read l =
    (c : Code) → code_with l.effects.items (after (read_views l.read-iterator.rest.items) c) ≡ code_with l.initial.effects.items (after (read_views l.fn.reads.items) c)
