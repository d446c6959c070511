-- What the calls of this crate answer, beside the functions on lists.
use Rattle.std.specs.Prelude.{◌≡◌, Option, Some, None, Result, Ok, Err}
use Rattle.pgo_lexer.specs.declared.errors.TextStop.{TextStop}
use Rattle.pgo_lexer.specs.declared.errors.TextStop.TheVariants.{Syntax, NoMemory}

-- what is returned is what the function gives, unless memory runs out
abbrev pub Gives : {A : Type 0} → Option A → Result A TextStop → Type 0
Gives outcome (Ok a) = outcome ≡ Some a
Gives outcome (Err (Syntax offset)) = outcome ≡ None
Gives outcome (Err NoMemory) = Unit {0}

abbrev pub IsSyntax : TextStop → Type 0
IsSyntax (Syntax offset) = Unit {0}
IsSyntax NoMemory = ⊥

-- a result with what was made beside it
abbrev pub ok_as : {A B : Type 0} → B → Result A TextStop → Result B TextStop
ok_as b (Ok a) = Ok b
ok_as b (Err stop) = Err stop
