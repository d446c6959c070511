-- The meaning of a mapping macro: what its `read` and its `write` do on a content.
use Rattle.std.specs.Prelude.{List, [], map, Option, None}
use Rattle.pgo_base.specs.Data.{Data}
use Rattle.pgo_base.specs.declared.module.Defined.{Defined}
use Rattle.pgo_model.specs.ModuleView.{defined_view}
use Rattle.pgo_model.specs.System.{Words}
use Rattle.pgo_model.specs.Val.{meanings}
use Rattle.pgo_syntax.specs.declared.bound.Mapping.{Mapping}
use Rattle.pgo_sections.specs.Exec.{MacroEnd}
use Rattle.pgo_sections.specs.SectionRun.{ChoiceMade}
use Rattle.pgo_sections.specs.Macros.{block_read, block_write}
use Rattle.pgo_meaning.specs.Parameters.{reads_by, writes_by}

-- With these definitions and this `self`, a read on the old content gives the value, and the new content where the block assigned
-- it, and all choices that are made then, the newest first: those of before, each of which has used a word, and its own. Or it
-- stops, Blocked, NoValue or AssertFails, with the choices made.
abbrev pub MacRead : Mapping → List Defined → Data → Data → Words → List ChoiceMade → MacroEnd (Data × Option Data)
MacRead m ds id old d choices = block_read (reads_by m) (meanings (map defined_view ds) [] None) id old d choices

-- a write of v on the old content gives the new content
abbrev pub MacWrite : Mapping → List Defined → Data → Data → Data → Words → List ChoiceMade → MacroEnd Data
MacWrite m ds id old v d choices = block_write (writes_by m) (meanings (map defined_view ds) [] None) id old v d choices
