-- Which variables are meant, as a test on their owners and names.
use Rattle.std.specs.Prelude.{Bool, Option}
use Rattle.pgo_base.specs.Lookup.{Name}
use Rattle.pgo_places.specs.declared.variables.Meant.{Meant}
use Rattle.pgo_places.specs.declared.variables.Meant.TheVariants as meanings
use Rattle.pgo_places.specs.Stands.{is_global, is_global_named, is_own_named}

abbrev pub test_of : Meant → Option Name → Name → Bool
test_of meanings.Globals = is_global
test_of (meanings.GlobalNamed x) = is_global_named x.now
test_of (meanings.OwnNamed x) = is_own_named x.now
