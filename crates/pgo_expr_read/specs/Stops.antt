-- What a reader's refusal becomes where another rule refuses too.
use Rattle.std.specs.Prelude.{◌≡◌, Bool, true, false, Result, Ok, Err, IsErrAnd}
use Rattle.pgo_lexer.specs.declared.errors.TextStop.{TextStop}
use Rattle.pgo_lexer.specs.declared.errors.TextStop.TheVariants.{Syntax, NoMemory}
use Rattle.pgo_lexer.specs.Answers.{IsSyntax}
pub use Rattle.pgo_lexer.specs.Offsets.{IsWithin}

-- both are refusals of the text, or both want of memory
abbrev pub IsAsSevere : TextStop → TextStop → Type 0
IsAsSevere (Syntax n) (Syntax m) = Unit {0}
IsAsSevere NoMemory NoMemory = Unit {0}
IsAsSevere _ _ = ⊥

-- what was read is the answer where it may stand, and the text is refused where it may not. A refusal stays one, and so does
-- want of memory
abbrev pub IsKeptIf : {A : Type 0} → Result A TextStop → (may_stand : Bool) → Result A TextStop → Type 0
IsKeptIf (Ok a) true result = result ≡ Ok a
IsKeptIf (Ok a) false result = IsErrAnd result IsSyntax
IsKeptIf (Err (Syntax n)) may_stand result = IsErrAnd result IsSyntax
IsKeptIf (Err NoMemory) may_stand result = result ≡ Err NoMemory
