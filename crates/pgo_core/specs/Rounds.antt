-- The turns that rounds make, in the machine.
use Rattle.std.specs.Prelude.{◌≡◌, ◌++◌, ◌∷◌, [], ℕ, zero, suc, List, length, if◌then◌else◌}
use Rattle.pgo_model.specs.Core.{Settings, rules_of}
use Rattle.pgo_model.specs.Machine.{has_ended}
use Rattle.pgo_model.specs.System.{System}
use Rattle.pgo_core.specs.Cores.{turned}

-- the turns of n instances from number k on, after the turns `done`: one of each that hasn't ended, made before the next
-- instance is looked at
abbrev pub round_from : System → Settings → List ℕ → ℕ → ℕ → List ℕ
round_from y settings done k zero = []
round_from y settings done k (suc n) =
    if has_ended (rules_of y settings) (turned y settings done) k then round_from y settings done (suc k) n
    else k ∷ round_from y settings (done ++ (k ∷ [])) (suc k) n

-- the turns of a round after these
abbrev pub round_after : System → Settings → List ℕ → List ℕ
round_after y settings done = round_from y settings done 0 (length y.members)

-- the turns of rounds after `done`, up to where a round has none
pub data AreRounds (y : System) (settings : Settings) : List ℕ → List ℕ → Type 0 where
  over : (done : List ℕ) → round_after y settings done ≡ [] → AreRounds y settings done []
  more : (done rest : List ℕ) → (round_after y settings done ≡ [] → ⊥) → AreRounds y settings (done ++ round_after y settings done) rest → AreRounds y settings done (round_after y settings done ++ rest)
