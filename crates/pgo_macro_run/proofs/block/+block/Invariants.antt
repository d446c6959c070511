use Rattle.std.proofs.Common.{◌≡◌, ◌+◌, ◌*◌, drop, map}
use Rattle.pgo_syntax.specs.Statement.{labeled}
use Rattle.pgo_syntax.specs.StatementSize.{height, labeled_height}
use Rattle.pgo_syntax.specs.StatementView.{statement, labeled_pair}
use Rattle.pgo_resource.specs.Picked.{attempt_words, words_of}
use Rattle.pgo_macro_run.specs.AroundView.{given_of, env_of, now_of}
use Rattle.pgo_macro_run.specs.NextView.{weight}
use Rattle.pgo_macro_run.specs.Runs as runs
use Rattle.pgo_macro_run.proofs.block.+block.Given as goal

abbrev pub decreases-follow : goal.decreases-follow
decreases-follow l = weight l.next

abbrev pub decreases-run_rows : goal.decreases-run_rows
decreases-run_rows l = 3 * labeled_height (labeled l.b.now) + 2

abbrev pub decreases-run_statement : goal.decreases-run_statement
decreases-run_statement l = 3 * height (statement l.s.now) + 1

abbrev pub invariant-run_rows-loop-row : goal.invariant-run_rows-loop-row
invariant-run_rows-loop-row l =
    (words_of l.picks ≡ words_of l.initial.picks) × (attempt_words l.picks ≡ attempt_words l.initial.picks) × (l.names.items ≡ l.initial.names.items)
    × (runs.rows (given_of l.around (words_of l.initial.picks)) (labeled (map labeled_pair (drop l.row-index l.row-items))) (env_of l.initial.names.items) (now_of l.content l.picks)
    ≡ runs.rows (given_of l.around (words_of l.initial.picks)) (labeled (map labeled_pair l.row-items)) (env_of l.initial.names.items) (now_of l.initial.content l.initial.picks))
