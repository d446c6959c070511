-- A board just opened is fresh.
use Rattle.std.proofs.Common.{ℕ, [], None, refl, arith}
use Rattle.pgo_model.specs.Core.{Settings}
use Rattle.pgo_model.specs.System.{System}
use Rattle.pgo_section.specs.Turns.{IsFresh}

pub fresh : (y : System) (s : Settings) (k n : ℕ)
    → IsFresh y s k (record { instance = k; resources = n; steps = s.steps; share = s.attempts; held = []; entries = []; notes = []; told = None; last = None })
fresh y s k n = record {
  instance = refl;
  steps = refl;
  share = omega arith;
  held = refl;
  others = tt;
  other_notes = tt;
  told = λ t e. absurd (grind (arith, e));
  room = omega arith;
}
