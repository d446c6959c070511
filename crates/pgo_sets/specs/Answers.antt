-- What an answer says of a meaning: a value is that value, NoValue says that there is none, and want of memory says
-- nothing.
use Rattle.std.specs.Prelude.{◌≡◌, Option, Some, None, Result, Ok, Err}
use Rattle.pgo_base.specs.Data.{Data}
use Rattle.pgo_base.specs.View.{data_of}
use Rattle.pgo_base.specs.declared.value.Value.{Value}
use Rattle.pgo_sets.specs.declared.errors.EvalStop.{EvalStop}
use Rattle.pgo_sets.specs.declared.errors.EvalStop.TheVariants.{NoValue, NoMemory}

abbrev pub Answers : Result Value EvalStop → Option Data → Type 0
Answers (Ok v) o = o ≡ Some (data_of v)
Answers (Err NoValue) o = o ≡ None
Answers (Err NoMemory) o = Unit {0}
