-- What breaks a rule.
use Rattle.std.specs.Prelude.{ℕ, Bool, if◌then◌else◌, List, [], ◌∷◌, ◌++◌, Option, option_map}
use Rattle.pgo_base.specs.Lookup.{Name}
use Rattle.pgo_syntax.specs.declared.name.PlacedName.{PlacedName}
use Rattle.pgo_syntax.specs.Least.{least}
use Rattle.pgo_uses.specs.declared.uses.Use.{Use}
use Rattle.pgo_scope.specs.declared.errors.ScopeError.{ScopeError}
use Rattle.pgo_scope.specs.declared.errors.ScopeError.TheVariants as errors
use Rattle.pgo_scope.specs.declared.finding.Finding.{Finding}
use Rattle.pgo_scope.specs.declared.finding.Cause.{Cause}
use Rattle.pgo_scope.specs.declared.finding.Cause.TheVariants as causes

-- the error about a name
abbrev pub error_about : Cause → Name → ScopeError
error_about causes.Unknown x = errors.Unknown x
error_about causes.Twice x = errors.Twice x
error_about causes.GlobalInArchetype x = errors.GlobalInArchetype x
error_about causes.AssignedNotRef x = errors.AssignedNotRef x
error_about causes.MappedReadHere x = errors.MappedReadHere x
error_about causes.DoubleUnderscore x = errors.DoubleUnderscore x
error_about causes.UnknownModule x = errors.UnknownModule x

-- one finding where the test holds
abbrev pub found_if : Bool → ℕ → ScopeError → List Finding
found_if b p e = if b then record { place = p; error = e } ∷ [] else []

-- these findings where the test holds
abbrev pub found_where : Bool → List Finding → List Finding
found_where b fs = if b then fs else []

-- the first one in the text; of one place, the one that is listed first
abbrev pub earliest : List Finding → Option ScopeError
earliest fs = option_map (λ f. f.error) (least (λ f. f.place) fs)
