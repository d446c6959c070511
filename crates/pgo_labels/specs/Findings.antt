-- What a rule finds: a place, and the refusal there.
use Rattle.std.specs.Prelude.{ℕ}
use Rattle.pgo_base.specs.Lookup.{Name}
use Rattle.pgo_labels.specs.declared.errors.LabelError.{LabelError}
use Rattle.pgo_labels.specs.declared.errors.LabelError.TheVariants as errors
use Rattle.pgo_labels.specs.declared.finding.Finding.{Finding}
use Rattle.pgo_labels.specs.declared.finding.Rule.{Rule}
use Rattle.pgo_labels.specs.declared.finding.Rule.TheVariants.{NeedsLabel, LabelHere, UnknownLabel, LabelTwice, ReservedDone, YieldRule, TooManyLabels}

abbrev pub found_at : ℕ → LabelError → Finding
found_at p e = record { place = p; error = e }

-- the refusal of a rule, of the names that it shows
abbrev pub error_of : Rule → Name → Name → LabelError
error_of NeedsLabel owner label = errors.NeedsLabel owner label
error_of LabelHere owner label = errors.LabelHere owner label
error_of UnknownLabel owner label = errors.UnknownLabel owner label
error_of LabelTwice owner label = errors.LabelTwice owner label
error_of ReservedDone owner label = errors.ReservedDone owner
error_of YieldRule owner label = errors.YieldRule owner
error_of TooManyLabels owner label = errors.TooManyLabels owner
