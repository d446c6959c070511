-- The verdict on the bundle of a log that is a run, and on that of a run of a text.
use Rattle.std.proofs.Common.{◌≡◌, ℕ, List, length, ap, sym, ◌∙◌}
use Rattle.std.proofs.Math.Path.{transport}
use Rattle.std.proofs.lemmas.List.{length-map}
use Rattle.pgo_base.specs.Data.{Data}
use Rattle.pgo_base.specs.Lookup.{Name}
use Rattle.pgo_model.specs.Core.{Settings}
use Rattle.pgo_model.specs.Module.{Module}
use Rattle.pgo_model.specs.Log.{Log}
use Rattle.pgo_model.specs.IsRun.{IsRun}
use Rattle.pgo_check.specs.declared.verdict.Verdict.{Verdict}
use Rattle.pgo_check.specs.declared.verdict.Verdict.TheVariants.{Run, Bad}
use Rattle.pgo_check.specs.declared.verdict.Why.TheVariants.{NoInit, NoStep}
use Rattle.pgo_check.specs.Verdict.{Decides}
use Rattle.pgo_log_text.specs.ReadBundle.{IsReadBundle}
use Rattle.pgo_bundle.specs.BundleLog.{BundleLog, checked_log}
use Rattle.pgo_bundle.specs.RunLog.{entry_read, log_of, run_log}
use Rattle.pgo_translate.specs.ModuleOf.{module_of, constants_with}
use Rattle.pgo_execute.specs.Executes.{Executes}
use Rattle.pgo_execute.specs.Ran.{system}
use Rattle.pgo_execute.specs.Schedules.{Schedule}
use Rattle.pgo_verdicts.specs.Judged.{Judged}
use Rattle.pgo_verdicts.proofs.Once.{never_bad}

-- what is decided of a run
decided : (m : Module) (consts : List (Name × Data)) (l : Log) → IsRun m consts l.ids l.start l.entries → (v : Verdict)
    → Decides m consts l.ids l.start l.entries v → v ≡ Run (length l.entries)
decided m consts l run (Run n) h = ap Run h.0
decided m consts l run (Bad n NoInit) h = absurd (h.1 run.begins)
decided m consts l run (Bad n NoStep) h = absurd (never_bad m consts l run h.0 h.3)

-- a text that is the bundle of a run gets no other verdict
bundle_accepted : (text : List ℕ) (m : Module) (consts : List (Name × Data)) (l : BundleLog) → IsReadBundle text m consts l
    → IsRun m consts (checked_log l).ids (checked_log l).start (checked_log l).entries → (v : Verdict) → Judged text v → v ≡ Run (length (checked_log l).entries)
bundle_accepted text m consts l read run v j =
    let same = j.only m consts l read in
    decided m consts (checked_log l) run v
    (transport (λ i. Decides (sym same.0 i) (sym same.1 i) (checked_log (sym same.2 i)).ids (checked_log (sym same.2 i)).start (checked_log (sym same.2 i)).entries v) j.decides)

-- nor does what a run of a text writes
pub accepted : (text : List ℕ) (consts : List (Name × Data)) (settings : Settings) (schedule : Schedule) (status : ℕ) (written : List ℕ) (x : Executes text consts settings schedule status written)
    → checked_log (run_log (system x.spec consts) settings x.left status) ≡ log_of (system x.spec consts) x.left.entries → (v : Verdict) → Judged written v → v ≡ Run (length x.left.entries)
accepted text consts settings schedule status written x checked v j =
    bundle_accepted written (module_of x.spec) (constants_with x.spec consts) (run_log (system x.spec consts) settings x.left status) x.ran.is_read x.ran.read_run v j
    ∙ ap Run (ap (λ (l : Log). length l.entries) checked ∙ length-map x.left.entries entry_read)
