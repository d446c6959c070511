-- A log has one verdict.
use Rattle.std.proofs.Common.{◌≡◌, ◌<◌, ◌⊎◌, inl, inr, ℕ, zero, suc, List, refl, sym, ap, ◌∙◌, arith}
use Rattle.pgo_base.specs.Data.{Data}
use Rattle.pgo_base.specs.Lookup.{Name}
use Rattle.pgo_model.specs.IsRun.{IsRun}
use Rattle.pgo_model.specs.Log.{Log}
use Rattle.pgo_model.specs.Module.{Module}
use Rattle.pgo_check.specs.declared.verdict.Verdict.{Verdict}
use Rattle.pgo_check.specs.declared.verdict.Verdict.TheVariants.{Run, Bad}
use Rattle.pgo_check.specs.declared.verdict.Why.TheVariants.{NoInit, NoStep}
use Rattle.pgo_check.specs.Verdict.{Decides, IsFirstBad}

in_order : (p q : ℕ) → (p < q) ⊎ ((p ≡ q) ⊎ (q < p))
in_order zero zero = inr (inl refl)
in_order zero (suc q) = inl (omega arith)
in_order (suc p) zero = inr (inr (omega arith))
in_order (suc p) (suc q) = go (in_order p q)
  where
    go : (p < q) ⊎ ((p ≡ q) ⊎ (q < p)) → (suc p < suc q) ⊎ ((suc p ≡ suc q) ⊎ (suc q < suc p))
    go (inl h) = inl (omega (arith, h))
    go (inr (inl e)) = inr (inl (ap suc e))
    go (inr (inr h)) = inr (inr (omega (arith, h)))

module _ (m : Module) (consts : List (Name × Data)) (l : Log) where
  abbrev First : ℕ → Type 0
  First p = IsFirstBad m consts l.ids l.start l.entries p

  -- a run has no first entry that is no step
  pub never_bad : IsRun m consts l.ids l.start l.entries → (p : ℕ) → First p → ⊥
  never_bad run p h = h.bad (run.steps p h.entry h.found)

  one_first : (p q : ℕ) → First p → First q → p ≡ q
  one_first p q h g = go (in_order p q)
    where
      go : (p < q) ⊎ ((p ≡ q) ⊎ (q < p)) → p ≡ q
      go (inl lt) = absurd (h.bad (g.earlier p lt h.entry h.found))
      go (inr (inl e)) = e
      go (inr (inr lt)) = absurd (g.bad (h.earlier q lt g.entry g.found))

  pub verdict_once : (v w : Verdict) → Decides m consts l.ids l.start l.entries v → Decides m consts l.ids l.start l.entries w → v ≡ w
  verdict_once (Run n) (Run k) h g = ap Run (h.0 ∙ sym g.0)
  verdict_once (Run n) (Bad k NoInit) h g = absurd (g.1 h.1.begins)
  verdict_once (Run n) (Bad k NoStep) h g = absurd (never_bad h.1 g.0 g.3)
  verdict_once (Bad n NoInit) (Run k) h g = absurd (h.1 g.1.begins)
  verdict_once (Bad n NoStep) (Run k) h g = absurd (never_bad g.1 h.0 h.3)
  verdict_once (Bad n NoInit) (Bad k NoInit) h g = ap (λ i. Bad i NoInit) (h.0 ∙ sym g.0)
  verdict_once (Bad n NoInit) (Bad k NoStep) h g = absurd (h.1 g.2)
  verdict_once (Bad n NoStep) (Bad k NoInit) h g = absurd (g.1 h.2)
  verdict_once (Bad n NoStep) (Bad k NoStep) h g = ap (λ i. Bad i NoStep) (h.1 ∙ ap suc (one_first h.0 g.0 h.3 g.3) ∙ sym g.1)
