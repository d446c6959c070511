-- The settings of a run that its options give.
use Rattle.std.specs.Prelude.{◌≡◌, ◌<◌, ◌^◌, ℕ, List, [], ◌∷◌, Option, Some, None, codes, decimal}
use Rattle.pgo_model.specs.Core.{Settings}
use Rattle.pgo_words.specs.Failures.{FailuresOr}
use Rattle.pgo_words.specs.Options.{find_bytes}

-- the names of the options of `run` and of `step` that have values
abbrev pub run_options : List (List ℕ)
run_options = codes "--seed" ∷ (codes "--attempts" ∷ (codes "--steps" ∷ (codes "--fail" ∷ [])))

abbrev pub step_options : List (List ℕ)
step_options = codes "--turns" ∷ run_options

-- the default where no value is given, else the value's number, in digits without sign or leading zeros, which is below the limit
abbrev pub NumberOr : (default limit : ℕ) → Option (List ℕ) → ℕ → Type 0
NumberOr default limit None n = n ≡ default
NumberOr default limit (Some text) n = (text ≡ decimal n) × (n < limit)

-- a seed is below 2^64 and 0 where none is given; attempts and steps are at most 100,000 and 10,000 where none are given; the
-- pre-commits that fail are those of a list, none where none is given
pub record SettingsOf (options : List (List ℕ × List ℕ)) (s : Settings) : Type 0 where
  pub seed : NumberOr 0 (2 ^ 64) (find_bytes (codes "--seed") options) s.seed
  pub attempts : NumberOr 10000 100001 (find_bytes (codes "--attempts") options) s.attempts
  pub steps : NumberOr 10000 100001 (find_bytes (codes "--steps") options) s.steps
  pub down : FailuresOr (find_bytes (codes "--fail") options) s.down

-- the settings where no options are given
abbrev pub default_settings : Settings
default_settings = record { seed = 0; attempts = 10000; steps = 10000; down = [] }
