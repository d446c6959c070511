-- What an answer says of a refusal and of what is made.
use Rattle.std.specs.Prelude.{◌≡◌, Option, Some, None, Result, Ok, Err}
use Rattle.pgo_heads.specs.declared.errors.BindError.{BindError}
use Rattle.pgo_heads.specs.declared.errors.BindError.TheVariants as errors

-- an error is the refusal; want of memory says nothing
abbrev pub Refuses : Option BindError → BindError → Type 0
Refuses o errors.NoMemory = Unit {0}
Refuses o e = o ≡ Some e

-- what is made comes where nothing is refused
abbrev pub Answers : {A : Type 0} → Option BindError → A → Result A BindError → Type 0
Answers o b (Ok r) = (o ≡ None) × (r ≡ b)
Answers o b (Err e) = Refuses o e

-- nothing is refused, or this is
abbrev pub Passes : {A : Type 0} → Option BindError → Result A BindError → Type 0
Passes o (Ok r) = o ≡ None
Passes o (Err e) = Refuses o e
