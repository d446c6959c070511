-- The verdict on a bundle that is brought over.
use Rattle.std.proofs.Common.{◌≡◌, ℕ, List, sym, subst}
use Rattle.std.proofs.Math.Path.{transport}
use Rattle.pgo_model.specs.Log.{Log}
use Rattle.pgo_check.specs.declared.verdict.Verdict.{Verdict}
use Rattle.pgo_check.specs.Verdict.{Decides}
use Rattle.pgo_bundle.specs.BundleLog.{checked_log}
use Rattle.pgo_bundle.specs.Migrated.{migrated}
use Rattle.pgo_migrate.specs.Migrates.{Migrates}
use Rattle.pgo_verdicts.specs.Judged.{Judged}
use Rattle.pgo_verdicts.proofs.Once.{verdict_once}

-- what is checked of both logs is the same, and a log has one verdict
pub judged_alike : (text written : List ℕ) → Migrates text written → (v w : Verdict) → Judged text v → Judged written w → v ≡ w
judged_alike text written x v w j k =
    let a = j.only x.m x.consts x.log x.bundle in
    let b = k.only x.m x.consts (migrated x.log) x.reads in
    verdict_once x.m x.consts (checked_log x.log) v w
    (transport (λ i. Decides (sym a.0 i) (sym a.1 i) (checked_log (sym a.2 i)).ids (checked_log (sym a.2 i)).start (checked_log (sym a.2 i)).entries v) j.decides)
    (subst (λ (l : Log). Decides x.m x.consts l.ids l.start l.entries w) x.checked
    (transport (λ i. Decides (sym b.0 i) (sym b.1 i) (checked_log (sym b.2 i)).ids (checked_log (sym b.2 i)).start (checked_log (sym b.2 i)).entries w) k.decides))
