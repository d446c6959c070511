use Rattle.std.proofs.Common.{sym, ◌∙◌}
use Rattle.pgo_bundle.specs.View.{logged_entry_view}
use Rattle.pgo_show_text.proofs.Walks.{ahead_on, all_on, here_of}
use Rattle.pgo_show_text.proofs.walk.walk_over.Goals as goal

pub returns-in-None : goal.returns-in-None
returns-in-None c =
    let s = c.args.start.now in let es = c.args.entries.now in let k = c.loop-count.count in let t = c.loop-count.state in let i = c.loop-count.invariant in
    let step = sym c.in_ok-behind.ensures ∙ c.in-None.is in
    record {
      last = sym (all_on (λ e. e.entry) logged_entry_view s t _ es k c.index-entries-count.result c.loop-count-test.true c.index-entries-count.is step i.last);
      kept = c.in_ok-keep.ensures s _ i.kept (here_of s t _ _ k i.ahead);
    }

pub loop-count-preserved : goal.loop-count-preserved
loop-count-preserved c =
    let s = c.args.start.now in let es = c.args.entries.now in let k = c.loop-count.count in let t = c.loop-count.state in let i = c.loop-count.invariant in
    let step = sym c.in_ok-behind.ensures ∙ c.in-Some.is in
    record {
      last = all_on (λ e. e.entry) logged_entry_view s t _ es k c.index-entries-count.result c.loop-count-test.true c.index-entries-count.is step i.last;
      ahead = ahead_on (λ e. e.entry) logged_entry_view s t _ es k c.index-entries-count.result c.loop-count-test.true c.index-entries-count.is step i.ahead;
      kept = c.in_ok-keep.ensures s _ i.kept (here_of s t _ _ k i.ahead);
    }
