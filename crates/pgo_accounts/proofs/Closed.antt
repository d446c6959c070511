-- What the law of closed boards asks of a bound specification whose states are kept.
use Rattle.std.proofs.Common.{◌≡◌, ℕ, arith}
use Rattle.pgo_base.specs.Lookup.{Vars}
use Rattle.pgo_model.specs.Accounts.{Fits, journal}
use Rattle.pgo_model.specs.Core.{Settings, Reaches, rules_of}
use Rattle.pgo_model.specs.MachineLists.{nth_below}
use Rattle.pgo_syntax.specs.declared.bound.Bound.{Bound}
use Rattle.pgo_bound.specs.Sound.{Sound}
use Rattle.pgo_meaning.specs.System.{system_of}
use Rattle.pgo_systems.specs.Premises.{IsGoodState}
use Rattle.pgo_accesses.specs.Programs.{tree_of}
use Rattle.pgo_section.specs.Programs.{IsGood, RunsSystem}
use Rattle.pgo_closed.specs.ClosedRuns.{ComesTo, AtStart, BySection}
use Rattle.pgo_closed.specs.SystemRuns.{SystemPremises, program, world}
use Rattle.pgo_accounts.proofs.Following.{few_resources}

module _ (b : Bound) (settings : Settings) (fits : Fits (rules_of (system_of b) settings) (Reaches (system_of b)) (IsGoodState b)) where
  -- each state that a run comes to is good
  comes : (t : Vars) → ComesTo (world (system_of b) (tree_of b) settings) (program (system_of b) (tree_of b) settings) t → IsGoodState b t
  comes t AtStart = fits.start
  comes t (BySection k a s _ prints before leads) = fits.kept k a s t prints (comes s before) leads

  -- the journal is no resource
  apart : Sound b → (k r : ℕ) → Reaches (system_of b) k r → r ≡ journal → ⊥
  apart sound k r reach e = let n = nth_below (system_of b).resources r reach.1 reach.3 in let few = few_resources b sound in omega (arith, n, few, e)

  pub premises : Sound b → ((t : Vars) → IsGoodState b t → IsGood (system_of b) t) → RunsSystem (system_of b) (tree_of b) settings → SystemPremises (system_of b) (tree_of b) settings
  premises sound good runs = record { runs = runs; good = λ t h. good t (comes t h); apart = apart sound }
