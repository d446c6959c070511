-- What reading a text answers.
use Rattle.std.specs.Prelude.{◌≡◌, ◌≤◌, ℕ, List, length, Result, Ok, Err}
use Rattle.pgo_base.specs.Data.{Data}
use Rattle.pgo_base.specs.View.{data_of}
use Rattle.pgo_base.specs.declared.value.Value.{Value}
use Rattle.pgo_value_text.specs.declared.errors.ValueStop.{ValueStop}
use Rattle.pgo_value_text.specs.declared.errors.ValueStop.TheVariants.{Bad, NoMemory}

-- the answer is this value, unless there is no memory
abbrev pub IsOnly : Data → Result Value ValueStop → Type 0
IsOnly d (Ok v) = d ≡ data_of v
IsOnly d (Err (Bad offset)) = ⊥
IsOnly d (Err NoMemory) = Unit {0}

-- an offset is one of the text, or its end
abbrev pub IsWithin : List ℕ → ValueStop → Type 0
IsWithin text (Bad offset) = offset ≤ length text
IsWithin text NoMemory = Unit {0}
