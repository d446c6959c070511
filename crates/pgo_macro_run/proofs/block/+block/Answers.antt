use Rattle.std.proofs.Common.{◌≡◌, suc, ◌<◌, map, ap, arith}
use Rattle.pgo_syntax.specs.Statement.{labeled}
use Rattle.pgo_syntax.specs.StatementSize.{height, labeled_height}
use Rattle.pgo_syntax.specs.StatementView.{statement, labeled_pair}
use Rattle.pgo_resource.specs.Picked.{words_of}
use Rattle.pgo_macro_run.specs.AroundView.{given_of, env_of, now_of}
use Rattle.pgo_macro_run.specs.Runs as runs
use Rattle.pgo_macro_run.proofs.Arms.{low_row}
use Rattle.pgo_macro_run.proofs.block.+block.Goals as goal

pub follow-returns-in-Looped-clause-names : goal.follow-returns-in-Looped-clause-names
follow-returns-in-Looped-clause-names t c =
    c.jumped.ensures.names c.run_statement-in-Looped.new.names.items c.args.names.now.items c.run_statement-in-Looped.ensures.names

pub follow-returns-in-Looped-clause-ended : goal.follow-returns-in-Looped-clause-ended
follow-returns-in-Looped-clause-ended t c =
    rw c.in-Looped.is (c.jumped.ensures.ended
    (runs.run (given_of c.args.around.now (words_of c.args.picks.now)) (statement c.in-Looped.s.now) (env_of c.args.names.now.items) (now_of c.args.content.now c.args.picks.now))
    c.run_statement-in-Looped.new.content c.run_statement-in-Looped.new.picks c.run_statement-in-Looped.ensures.ended)

pub run_rows-run_statement-requires : goal.run_rows-run_statement-requires
run_rows-run_statement-requires t c =
    let rows = c.as_slice-row-items.result.now in
    let low : height (statement c.row-item.result.statement) < suc (labeled_height (labeled (map labeled_pair rows))) = low_row _ _ _ (omega arith) c.row-item.is in
    let same : labeled_height (labeled (map labeled_pair rows)) ≡ labeled_height (labeled c.args.b.now) = ap (λ l. labeled_height (labeled l)) c.as_slice-row-items.ensures in
    (omega arith, tt)
