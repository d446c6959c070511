-- What a call that stopped says of another meaning.
use Rattle.std.proofs.Common.{◌≡◌, Option, None, Err}
use Rattle.pgo_base.specs.Data.{Data}
use Rattle.pgo_sets.specs.Answers.{Answers}
use Rattle.pgo_sets.specs.declared.errors.EvalStop.{EvalStop}
use Rattle.pgo_sets.specs.declared.errors.EvalStop.TheVariants.{NoValue, NoMemory}

pub stopped : (e : EvalStop) (o p : Option Data) → (o ≡ None → p ≡ None) → Answers (Err e) o → Answers (Err e) p
stopped NoValue o p f h = f h
stopped NoMemory o p f h = tt
