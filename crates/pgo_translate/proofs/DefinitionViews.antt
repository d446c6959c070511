-- Definitions as they lie in memory, as those of the module.
use Rattle.std.proofs.Common.{◌≡◌, List, ◌++◌, map, ap, ◌∙◌}
use Rattle.pgo_base.specs.declared.module.Defined.{Defined}
use Rattle.pgo_bound.specs.StartNames.{map-append}
use Rattle.pgo_bound.specs.Values.{meant}
use Rattle.pgo_model.specs.ModuleView.{defined_view}
use Rattle.pgo_syntax.specs.declared.declaration.Definition.{Definition}
use Rattle.pgo_translate.proofs.ByProcess.{map_map}
use Rattle.pgo_translate.specs.ModuleOf.{definitions_of}

pub definitions_are : (ds es : List Definition) (list : List Defined) → list ≡ map meant ds ++ map meant es → map defined_view list ≡ definitions_of ds ++ definitions_of es
definitions_are ds es list e =
    ap (map defined_view) e ∙ map-append defined_view (map meant ds) (map meant es)
    ∙ (λ i. map_map meant defined_view ds i ++ map_map meant defined_view es i)
