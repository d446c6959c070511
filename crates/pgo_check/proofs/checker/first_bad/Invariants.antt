use Rattle.std.proofs.Common.{◌≡◌, map}
use Rattle.pgo_base.specs.View.{data_of}
use Rattle.pgo_model.specs.LogView.{entry_view}
use Rattle.pgo_model.specs.ModuleView.{module_view}
use Rattle.pgo_check.proofs.Reached.{IsReached}
use Rattle.pgo_check.proofs.checker.first_bad.Given as goal

abbrev pub invariant-loop-i : goal.invariant-loop-i
invariant-loop-i l = record {
  reached : IsReached (module_view l.m.module.now) l.m.consts.now (map data_of l.ids) l.start (map entry_view l.entries) l.i l.before;
  same : l.behind ≡ l.before;
}
