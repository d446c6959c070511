-- What definitions mean where there are no variables.
use Rattle.std.specs.Prelude.{List, [], map, None}
use Rattle.pgo_base.specs.declared.module.Defined.{Defined}
use Rattle.pgo_model.specs.ModuleView.{defined_view}
use Rattle.pgo_model.specs.Val.{Meaning, meanings}

abbrev pub meant : List Defined → List Meaning
meant ds = meanings (map defined_view ds) [] None
