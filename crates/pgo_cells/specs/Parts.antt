-- Reads and writes of a content, or of its part at an index.
use Rattle.std.specs.Prelude.{List, Option, Some, option_map, unwrap_or, Result}
use Rattle.pgo_base.specs.Data.{Data}
use Rattle.pgo_base.specs.View.{data_of}
use Rattle.pgo_base.specs.declared.module.Defined.{Defined}
use Rattle.pgo_base.specs.declared.value.Value.{Value}
use Rattle.pgo_model.specs.Operators.{except}
use Rattle.pgo_model.specs.Options.{on}
use Rattle.pgo_syntax.specs.declared.bound.Mapping.{Mapping}
use Rattle.pgo_workers.specs.Operations.{read_of, write_of}
use Rattle.pgo_resource.specs.Picked.{words_of}
use Rattle.pgo_resource.specs.declared.picks.Picks.{Picks}
use Rattle.pgo_resource.specs.declared.resource.OpStop.{OpStop}
use Rattle.pgo_macro_run.specs.Answers.{EndsSo}

-- the content behind, which is v where there is no other
abbrev pub new_of : Data → Option Value → Data
new_of v r = unwrap_or (option_map data_of r) v

-- a value, and the content behind the read, which is v where it was not assigned
abbrev pub part_view : Data → Value × Option Value → Data × Data
part_view v r = (data_of r.0, new_of v r.1)

abbrev pub PartRead : Mapping → List Defined → (id : Data) → (at : Option Data) → (v : Data) → Picks → Picks → Result (Value × Option Value) OpStop → Type 0
PartRead m ds id at v p q r = EndsSo (part_view v) (read_of m ds id at (words_of p) v) p q r

abbrev pub PartWritten : Mapping → List Defined → (id : Data) → (at : Option Data) → (x v : Data) → Picks → Picks → Result Value OpStop → Type 0
PartWritten m ds id at x v p q r = EndsSo data_of (write_of m ds id at x (words_of p) v) p q r

-- v with another part at i, where there is one
abbrev pub put_of : Data → Data → Option Data → Option Data
put_of v i o = on (Some v) o (λ new. except v i new)
