-- Pre-commits that are set to fail and whose refusals can be written.
use Rattle.std.specs.Prelude.{◌≡◌, ◌<◌, ◌^◌, ℕ, true}
use Rattle.pgo_model.specs.Core.{Settings, is_listed}

-- the number of each pre-commit that is set to fail is below 2^32
abbrev pub DownsShort : Settings → Type 0
DownsShort settings = (r o : ℕ) → is_listed settings.down r o ≡ true → o < 2 ^ 32
