-- The walk of a worker's attempt begins at an access or an end, in each turn.
use Rattle.std.proofs.Common.{◌≡◌, Bool, true, false, refl, sym, subst}
use Rattle.std.specs.Prelude.{if◌then◌else◌}
use Rattle.pgo_model.specs.Machine.{is_empty}
use Rattle.pgo_workers.specs.Walk.{goes_back, settled_stays}
use Rattle.pgo_workers.specs.View.{View, World}
use Rattle.pgo_workers.specs.Worker.{Program, Phase, Resting, Walking, Giving, Worker, Turn, Turned, TIdle, TGave, TTook, THeld, TOperated, TReadied, TDown, TCommitted, TFull, TNoted, TJournal}

abbrev pub Settled : Phase → Type 0
Settled Resting = Unit {0}
Settled (Walking c j) = goes_back c ≡ false
Settled Giving = Unit {0}

pub settled_finished : (b : Bool) → Settled (if b then Resting else Giving)
settled_finished true = tt
settled_finished false = tt

module _ {S D : Type 0} (W : World S D) (P : Program S D) where
  pub settled_kept : (w : Worker) (b : View D) (v : Worker) (c : View D) (t : Turn) → Turned W P w b v c t → Settled w.phase → Settled v.phase
  settled_kept w b v c t (TIdle ended worker board answer) h = subst (λ (u : Worker). Settled u.phase) (sym worker) h
  settled_kept w b v c t (TGave r rs giving first gives worker answer) h = subst (λ (u : Worker). Settled u.phase) (sym worker) (settled_finished (is_empty rs))
  settled_kept w b v c t (TTook on r leave rest next new takes worker answer) h = subst (λ (u : Worker). Settled u.phase) (sym worker) refl
  settled_kept w b v c t (THeld on r i leave rest next new d take board worker answer) h = subst (λ (u : Worker). Settled u.phase) (sym worker) (settled_finished (is_empty w.taken))
  settled_kept w b v c t (TOperated on r leave rest next i held board worker answer) h = subst (λ (u : Worker). Settled u.phase) (sym worker) (settled_stays (rest i.content.current))
  settled_kept w b v c t (TReadied on o ps next r at i held up board worker answer) h = subst (λ (u : Worker). Settled u.phase) (sym worker) refl
  settled_kept w b v c t (TDown on o ps next r at i held down board worker answer) h = subst (λ (u : Worker). Settled u.phase) (sym worker) (settled_finished (is_empty w.taken))
  settled_kept w b v c t (TCommitted on o ps next at n d commits board worker answer) h = subst (λ (u : Worker). Settled u.phase) (sym worker) (settled_finished (is_empty w.taken))
  settled_kept w b v c t (TFull on o ps next at n d full board worker answer) h = subst (λ (u : Worker). Settled u.phase) (sym worker) (settled_finished (is_empty w.taken))
  settled_kept w b v c t (TNoted on kind next n d notes board worker answer) h = subst (λ (u : Worker). Settled u.phase) (sym worker) (settled_finished (is_empty w.taken))
  settled_kept w b v c t (TJournal on e next at i d held board worker answer) h = subst (λ (u : Worker). Settled u.phase) (sym worker) (settled_finished (is_empty w.taken))
