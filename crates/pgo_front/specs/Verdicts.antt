-- What `pgo check` says of a bundle.
use Rattle.std.specs.Prelude.{ℕ, List, ◌++◌, codes, decimal}
use Rattle.pgo_model.specs.ModuleText.{line}
use Rattle.pgo_check.specs.declared.verdict.Verdict.{Verdict}
use Rattle.pgo_check.specs.declared.verdict.Verdict.TheVariants.{Run, Bad}
use Rattle.pgo_check.specs.declared.verdict.Why.{Why}
use Rattle.pgo_check.specs.declared.verdict.Why.TheVariants.{NoInit, NoStep}

-- the most bytes of a bundle
abbrev pub most_bundle_bytes : ℕ
most_bundle_bytes = 268435456

abbrev pub why_text : Why → List ℕ
why_text NoInit = codes "NoInit"
why_text NoStep = codes "NoStep"

-- `run steps`, or `bad at why`
abbrev pub verdict_line : Verdict → List ℕ
verdict_line (Run n) = line (codes "run " ++ decimal n)
verdict_line (Bad n w) = line (codes "bad " ++ decimal n ++ codes " " ++ why_text w)

-- `pgo: bundle at line n`, where a text is no bundle
abbrev pub bundle_line : ℕ → List ℕ
bundle_line n = codes "pgo: bundle at line " ++ (decimal n ++ codes "\n")

abbrev pub IsRunVerdict : Verdict → Type 0
IsRunVerdict (Run n) = Unit {0}
IsRunVerdict (Bad n w) = ⊥

abbrev pub IsBadVerdict : Verdict → Type 0
IsBadVerdict (Run n) = ⊥
IsBadVerdict (Bad n w) = Unit {0}
