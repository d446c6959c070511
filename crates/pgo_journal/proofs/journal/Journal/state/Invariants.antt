use Rattle.std.proofs.Common.{◌≡◌, map}
use Rattle.std.specs.Prelude.{Some}
use Rattle.pgo_base.specs.View.{named_data}
use Rattle.pgo_model.specs.Log.{StateAt}
use Rattle.pgo_model.specs.LogView.{entry_view}
use Rattle.pgo_journal.proofs.journal.Journal.state.Given as goal

abbrev pub invariant-loop-e : goal.invariant-loop-e
invariant-loop-e l = StateAt l.self.start (map entry_view l.e-items) l.e-index ≡ Some (map named_data l.list.items)
