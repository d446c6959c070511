use Rattle.pgo_syntax.specs.StatementSize.{height}
use Rattle.pgo_syntax.specs.StatementView.{statement}
use Rattle.pgo_labels.proofs.needs_label.+jumps.Given as goal

abbrev pub decreases-jumps : goal.decreases-jumps
decreases-jumps l = height (statement l.s.now)
