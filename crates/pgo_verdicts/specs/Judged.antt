-- The verdict on a text.
use Rattle.std.specs.Prelude.{ℕ, List}
use Rattle.pgo_base.specs.Data.{Data}
use Rattle.pgo_base.specs.Lookup.{Name}
use Rattle.pgo_model.specs.Module.{Module}
use Rattle.pgo_bundle.specs.BundleLog.{BundleLog, checked_log}
use Rattle.pgo_check.specs.declared.verdict.Verdict.{Verdict}
use Rattle.pgo_check.specs.Verdict.{Decides}
use Rattle.pgo_log_text.specs.ReadBundle.{IsReadBundle, IsOnlyBundle}

-- the text is the bundle of one module, its constants and one log, and this is the verdict on the log
pub record Judged (text : List ℕ) (v : Verdict) : Type 0 where
  pub written_module : Module
  pub consts : List (Name × Data)
  pub log : BundleLog
  pub bundle : IsReadBundle text written_module consts log
  -- it is the bundle of nothing else
  pub only : IsOnlyBundle text written_module consts log
  pub decides : Decides written_module consts (checked_log log).ids (checked_log log).start (checked_log log).entries v
