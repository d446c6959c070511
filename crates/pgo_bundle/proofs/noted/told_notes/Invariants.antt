use Rattle.std.proofs.Common.{◌≡◌, ◌++◌, drop, map}
use Rattle.pgo_syntax.specs.RecordView.{note_view}
use Rattle.pgo_bundle.specs.Migrated.{all_told}
use Rattle.pgo_bundle.specs.View.{account_view}
use Rattle.pgo_bundle.proofs.noted.told_notes.Given as goal

abbrev pub invariant-loop-k : goal.invariant-loop-k
invariant-loop-k l = map note_view l.notes.items ++ all_told l.k (map account_view (drop l.k l.accounts)) ≡ all_told 0 (map account_view l.accounts)
