-- What a load made, and why it stopped.
use Rattle.std.proofs.Common.{◌≡◌, inl, inr, ℕ, List, Option, Some, None, Result, Ok, Err, IfOk, IfErr, sym, ◌∙◌, ap, subst, arith}
use Rattle.pgo_accept.specs.Refusals.{RefusedWith}
use Rattle.pgo_load.specs.Load.{load_consts, load_text}
use Rattle.pgo_front.specs.declared.output.Output.{Output}
use Rattle.pgo_front.specs.declared.ended.Ended.{Ended}
use Rattle.pgo_front.specs.declared.status.Status.{Status}
use Rattle.pgo_front.specs.declared.status.Status.TheVariants as status
use Rattle.pgo_front.specs.Asked.{LoadsOnly}
use Rattle.pgo_front.specs.Statuses.{number_of}
use Rattle.pgo_front.specs.Answers.{IsRefusal, RefusesSpec, Stops}
use Rattle.pgo_front.specs.Makes.{HasLine, HasOwnLine, MakesAsked, MakesLoad, StopsSpec}

module _ (words : List (List ℕ)) (input : Option (List ℕ)) (size : ℕ) (asks : LoadsOnly words size) where
  pub load_made : (r : Result Output Ended) → IfOk r (MakesLoad size) → IfOk r (λ m. m.status ≡ status.Fine) → IfOk r (MakesAsked words input)
  load_made (Ok m) h fine =
      inr (inr (inr (inl (
        fine,
        record {
          size = size;
          asks = asks.0;
          no_others = asks.1;
          instances = h.instances;
          steps = h.steps;
          loads = h.loads;
          written_is = h.line_is;
        },
      ))))
  load_made (Err e) h fine = tt

  pub load_stopped : (before now : ℕ) (s : Status) → StopsSpec (load_text size) (load_consts size) s → Stops words input before now s
  load_stopped before now s (inl h) =
      subst (Stops words input before now) (sym h.0) (inr (inr (record { size = size; asks = asks.0; no_others = asks.1; refused = h.1 })))
  load_stopped before now s (inr e) = subst (Stops words input before now) (sym e) tt

  refused_line : (s : Status) (line : Option (List ℕ)) → HasLine (RefusedWith (load_text size) (load_consts size)) s line → HasLine (RefusesSpec words input) s line
  refused_line s None h = h
  refused_line s (Some l) h = (h.0, inr (record { size = size; asks = asks.0; refused = h.1 }))

  -- it says no line of a bundle
  no_bundle : (s : Status) → StopsSpec (load_text size) (load_consts size) s → s ≡ status.BadBundle → ⊥
  no_bundle s (inl h) e = let n : 11 ≡ 31 = ap number_of (sym h.0 ∙ e) in omega (arith, n)
  no_bundle s (inr h) e = let n : 40 ≡ 31 = ap number_of (sym h ∙ e) in omega (arith, n)

  pub load_lines : (r : Result Output Ended) → IfErr r (λ e. StopsSpec (load_text size) (load_consts size) e.status)
      → IfErr r (λ e. HasLine (RefusedWith (load_text size) (load_consts size)) e.status e.line) → IfErr r (λ e. HasOwnLine words input (RefusesSpec words input) e.status e.line)
  load_lines (Ok m) stops lines = tt
  load_lines (Err e) stops lines = inl (refused_line e.status e.line lines, no_bundle e.status stops)

pub load_refuses : (size : ℕ) (s : Status) → StopsSpec (load_text size) (load_consts size) s → IsRefusal s
load_refuses size s (inl h) = subst IsRefusal (sym h.0) tt
load_refuses size s (inr e) = subst IsRefusal (sym e) tt

-- without memory there is no line
pub no_memory_lines : (R : (line : List ℕ) → Type 0) (r : Result Output Ended) → IfErr r (λ e. e.status ≡ status.NoMemory) → IfErr r (λ e. e.line ≡ None)
    → IfErr r (λ e. HasLine R e.status e.line)
no_memory_lines R (Ok m) stopped none = tt
no_memory_lines R (Err e) stopped none =
    subst (HasLine R e.status) (sym none) (λ f. let n : 40 ≡ 11 = ap number_of (sym stopped ∙ f) in omega (arith, n))
