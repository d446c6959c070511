-- What the loop keeps: the lines so far, with those of the entries that are left, are all.
use Rattle.std.proofs.Common.{◌≡◌, map, drop}
use Rattle.pgo_bundle.specs.View.{logged_entry_view}
use Rattle.pgo_show_changes.specs.Changes as spec
use Rattle.pgo_show_changes.proofs.written.push_entries.Given as goal

abbrev pub invariant-loop-before : goal.invariant-loop-before
invariant-loop-before l =
    spec.with_entries l.word 0 (map logged_entry_view l.entries) l.fn.lines ≡ spec.with_entries l.word l.before (map logged_entry_view (drop l.before l.entries)) l.lines
