-- What the verdict on the bundle of a load gives.
use Rattle.std.proofs.Common.{◌≡◌, ℕ, List, length, sym, ◌∙◌, subst}
use Rattle.pgo_base.specs.Data.{Data}
use Rattle.pgo_base.specs.Lookup.{Name}
use Rattle.pgo_check.specs.declared.verdict.Verdict.{Verdict}
use Rattle.pgo_check.specs.declared.verdict.Verdict.TheVariants.{Run}
use Rattle.pgo_check.specs.Verdict.{Decides}
use Rattle.pgo_execute.specs.Schedules.{Rounds}
use Rattle.pgo_log_text.specs.ReadBundle.{IsReadBundle, IsOnlyBundle, IsNoBundle}
use Rattle.pgo_bundle.specs.BundleLog.{BundleLog, checked_log}
use Rattle.pgo_model.specs.Module.{Module}
use Rattle.pgo_verdicts.specs.Judged.{Judged}
use Rattle.pgo_verdicts.specs.Runs.{Runs}
use Rattle.pgo_load.specs.Load.{Loads, load_consts, load_settings, load_text}

-- the same text, and the same verdict
abbrev same_judged : (text written : List ℕ) (v w : Verdict) → text ≡ written → v ≡ w → Judged text v → Judged written w
same_judged text written v w e f j = record {
  written_module = j.written_module;
  consts = j.consts;
  log = j.log;
  bundle = subst (λ t. IsReadBundle t j.written_module j.consts j.log) e j.bundle;
  only = subst (λ t. IsOnlyBundle t j.written_module j.consts j.log) e j.only;
  decides = subst (λ u. Decides j.written_module j.consts (checked_log j.log).ids (checked_log j.log).start (checked_log j.log).entries u) f j.decides;
}

-- what is judged a run is one of the load
pub loads : (size status : ℕ) (text written : List ℕ) (v : Verdict) (n instances steps : ℕ) → text ≡ written
    → Runs (load_text size) (load_consts size) load_settings Rounds status written
    → (j : Judged text v) → n ≡ length j.log.accounts → v ≡ Run steps → instances ≡ n → Loads size instances steps
loads size status text written v n instances steps e runs j counted is same = record {
  status = status;
  written = written;
  runs = runs;
  judged = same_judged text written v (Run steps) e is j;
  instances_are = same ∙ counted;
}

-- the verdict on the bundle of a run of a load
pub run_verdict : (size status : ℕ) (text written : List ℕ) (v : Verdict) → text ≡ written
    → Runs (load_text size) (load_consts size) load_settings Rounds status written → Judged text v → (n : ℕ) × (v ≡ Run n)
run_verdict size status text written v e runs j = (_, runs.accepted v (same_judged text written v v e (λ i. v) j))

-- a bundle is read back
pub is_bundle : (text written : List ℕ) (m : Module) (consts : List (Name × Data)) (l : BundleLog) → text ≡ written → IsReadBundle written m consts l → IsNoBundle text → ⊥
is_bundle text written m consts l e read none = none m consts l (subst (λ t. IsReadBundle t m consts l) (sym e) read)
