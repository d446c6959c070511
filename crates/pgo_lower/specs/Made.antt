-- Instructions in memory, as steps without the blocks that they don't run.
use Rattle.std.specs.Prelude.{List, map}
use Rattle.pgo_code.specs.See.{step_of}
use Rattle.pgo_code.specs.Steps.{Step}
use Rattle.pgo_code.specs.declared.instruction.Instruction.{Instruction}
use Rattle.pgo_lower.specs.Lowered.{bare}

abbrev pub step_here : Instruction → Step
step_here i = bare (step_of i)

abbrev pub steps_here : List Instruction → List Step
steps_here is = map step_here is
