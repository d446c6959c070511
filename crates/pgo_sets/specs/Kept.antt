-- The members that pass a test, or those that fail it.
use Rattle.std.specs.Prelude.{Bool, true, false, not}

-- whether a test comes out as is wanted
abbrev pub same_truth : Bool → Bool → Bool
same_truth true b = b
same_truth false b = not b
