-- What the loop keeps: what is left to read gives the same.
use Rattle.std.proofs.Common.{◌≡◌, ◌-◌, ◌+◌, [], map}
use Rattle.pgo_bundle.specs.View.{logged_entry_view, version_view}
use Rattle.pgo_log_text.specs.Lines as spec
use Rattle.pgo_log_text.proofs.entries.entries.Given as goal

abbrev pub invariant-parts : goal.invariant-parts
invariant-parts l = spec.entries (version_view l.version) spec.most_parts 1 [] l.fn.cursor ≡ spec.entries (version_view l.version) (spec.most_parts - l.count) (l.count + 1) (map logged_entry_view l.entries) l.cursor

abbrev pub decreases-parts : goal.decreases-parts
decreases-parts l = spec.most_parts - l.count
