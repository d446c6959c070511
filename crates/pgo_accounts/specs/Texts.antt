-- What the texts of specifications give: literals are integers of 64 bits, and macros have neither `goto`s nor `while`s.
use Rattle.std.specs.Prelude.{◌≡◌, []}
use Rattle.pgo_syntax.specs.Statement.{labeled}
use Rattle.pgo_syntax.specs.declared.macros.Macro.{Macro}
use Rattle.pgo_syntax.specs.declared.spec.Spec.{Spec}
use Rattle.pgo_systems.specs.Counted.{counted}
use Rattle.pgo_systems.specs.Gotos.{gotos_among, NoneAmong}
use Rattle.pgo_systems.specs.StatementLiterals.{SpecificationWithin}

-- no `goto` stands in a macro, and no `while` without a label
abbrev pub NeverJumps : Macro → Type 0
NeverJumps m = (gotos_among (labeled m.body) ≡ []) × NoneAmong (labeled m.body)

-- each literal of the specification is an integer of 64 bits: those from which the start is made, and those in statements
abbrev pub AllLiteralsFit : Spec → Type 0
AllLiteralsFit = SpecificationWithin counted
