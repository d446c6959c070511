-- What the law of the core machine asks of a system.
use Rattle.std.specs.Prelude.{◌≡◌, ℕ, List, [], ◌∷◌, Some}
use Rattle.pgo_base.specs.Lookup.{Vars}
use Rattle.pgo_model.specs.Accounts.{Fits}
use Rattle.pgo_model.specs.Choice.{Seeded, words_of}
use Rattle.pgo_model.specs.Core.{Settings, Reaches, number_among, rules_of}
use Rattle.pgo_model.specs.Machine.{nth}
use Rattle.pgo_model.specs.System.{System, Resource, Touched}
use Rattle.pgo_model.specs.SystemState.{IsSystemState}

-- each of these reads and writes is of one of the resources
abbrev pub AreOfResources : List Resource → List Touched → Type 0
AreOfResources rs [] = Unit {0}
AreOfResources rs (c ∷ cs) = ((n : ℕ) × (number_among rs c ≡ Some n)) × AreOfResources rs cs

-- the machine's premises at the system's rules, of its states; resources stand at their numbers; and on a state a section
-- reads and writes nothing but resources
pub record SystemFits (y : System) (settings : Settings) : Type 0 where
  pub rules : Fits (rules_of y settings) (Reaches y) (IsSystemState y)
  pub numbers : (n : ℕ) (r : Resource) → nth y.resources n ≡ Some r → r.number ≡ n
  pub resources : (k a : ℕ) (s : Vars) → IsSystemState y s → AreOfResources y.resources (y.sect k s (words_of (Seeded settings.seed k a))).trace
