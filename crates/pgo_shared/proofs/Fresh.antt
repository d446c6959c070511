-- A board of a seat that has done nothing.
use Rattle.std.proofs.Common.{None, ◌≡◌, ℕ, ◌<◌, ◌≤◌, [], refl, sym, ap, ◌∙◌, subst}
use Rattle.std.proofs.lemmas.Option.{same_Some}
use Rattle.pgo_model.specs.Log.{Effect}
use Rattle.pgo_workers.specs.Grown.{IsFresh}
use Rattle.pgo_workers.specs.Sentences.{Runs}
use Rattle.pgo_workers.specs.View.{Shown, Told, World, Others, OtherNotes}
use Rattle.pgo_workers.specs.Worker.{Program}
use Rattle.pgo_table.specs.SeatViews.{no_history, SeatView, History, untold}
use Rattle.pgo_shared.specs.Rows.{rows}
use Rattle.pgo_shared.proofs.Boarding.{seen}

-- a board of a seat that has done nothing is one that a worker may be opened on
pub fresh_board : {S C : Type 0} (W : World S Effect) (P : Program S Effect) (Reaches : ℕ → ℕ → Type 0) (Good : S → Type 0) (runs : Runs W P Reaches Good) (M : C → Shown) (k : ℕ) (v : SeatView)
    → k < P.instances → v.me ≡ no_history k → v.holds ≡ [] → v.terms.steps ≡ P.steps → P.attempts ≤ v.terms.share → IsFresh W P Reaches Good runs k (seen M k v [] None)
fresh_board W P Reaches Good runs M k v near known none steps share = record {
  number = near;
  instance = refl;
  steps = steps;
  share = share;
  held = ap (λ hs. rows M hs []) none;
  others = subst (λ (a : History). Others k a.entries) (sym known) tt;
  other_notes = subst (λ (a : History). OtherNotes k a.notes) (sym known) tt;
  told = λ t e. let same : untold ≡ t = ap (λ (a : History). a.told) (sym known) ∙ same_Some v.me.told t e in
      (ap (λ (z : Told). z.refused) (sym same), ap (λ (z : Told). z.takes) (sym same), ap (λ (z : Told). z.passed) (sym same));
}
