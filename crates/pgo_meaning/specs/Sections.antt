-- The section of each label of a process.
use Rattle.std.specs.Prelude.{List, []}
use Rattle.pgo_base.specs.Lookup.{Name}
use Rattle.pgo_model.specs.Written.{done}
use Rattle.pgo_syntax.specs.Statement.{labeled}
use Rattle.pgo_syntax.specs.declared.archetype.Archetype.{Archetype}
use Rattle.pgo_syntax.specs.declared.bound.Binding.{Binding}
use Rattle.pgo_syntax.specs.declared.macros.Macro.{Macro}
use Rattle.pgo_sections.specs.Code.{Code, Goto}
use Rattle.pgo_meaning.specs.MacrosPlaced.{placed_among, bodies}
use Rattle.pgo_meaning.specs.Labels.{within_order}
use Rattle.pgo_meaning.specs.Parameters.{setting_of}

-- each label of a process by its written name, with its section, in the order of the text
abbrev pub sections_of : List Macro → Name → Archetype → List Binding → List (Name × Code)
sections_of ms p a bs = within_order (setting_of p a bs) [] (placed_among (bodies ms) (labeled a.body)) (Goto done)
