-- The definitions of `define`.
use Rattle.std.specs.Prelude.{List, [], Option, Some, None}
use Rattle.pgo_syntax.specs.declared.declaration.Definition.{Definition}

-- none where it doesn't stand
abbrev pub define_of : Option (List Definition) → List Definition
define_of None = []
define_of (Some ds) = ds
