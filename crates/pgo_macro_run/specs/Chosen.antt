-- Which branch of an `if` is taken: none where a condition before it has no truth value.
use Rattle.std.specs.Prelude.{Option, Some, None, option_and_then, if◌then◌else◌}
use Rattle.pgo_base.specs.Data.{Data}
use Rattle.pgo_base.specs.Tree.{Tree}
use Rattle.pgo_model.specs.Operators.{truth_of}
use Rattle.pgo_syntax.specs.Statement.{Statement, GuardedStatements, no_guarded, more_guarded}

-- by what a condition's value is
abbrev pub chosen : (Tree → Option Data) → GuardedStatements → Option (Option Statement)
chosen value no_guarded = Some None
chosen value (more_guarded p e t bs) = option_and_then (λ b. if b then Some (Some t) else chosen value bs) (truth_of (value e))
