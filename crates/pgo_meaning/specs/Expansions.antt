-- The expansion of each label of a process, and of a specification.
use Rattle.std.specs.Prelude.{List, [], map}
use Rattle.std.specs.List.{flat_map}
use Rattle.pgo_base.specs.Lookup.{Name}
use Rattle.pgo_model.specs.Options.{on}
use Rattle.pgo_syntax.specs.declared.archetype.Archetype.{Archetype}
use Rattle.pgo_syntax.specs.declared.bound.Binding.{Binding}
use Rattle.pgo_syntax.specs.declared.macros.Macro.{Macro}
use Rattle.pgo_syntax.specs.declared.process.Process.{Process}
use Rattle.pgo_syntax.specs.declared.spec.Spec.{Spec}
use Rattle.pgo_bound.specs.Runs.{archetype_named, bindings_of, run_with}
use Rattle.pgo_bound.specs.State.{variables_of}
use Rattle.pgo_sections.specs.Expansion.{Expansion}
use Rattle.pgo_meaning.specs.Parameters.{places_of}
use Rattle.pgo_sections.specs.Expand.{expansion}
use Rattle.pgo_meaning.specs.Sections.{sections_of}

-- each label of a process by its written name, with its expansion, in the order of the text; vs: the variables in their order
abbrev pub expansions_of : List Name → List Macro → Name → Archetype → List Binding → List (Name × Expansion)
expansions_of vs ms p a bs = map (λ c. (c.0, expansion vs (places_of p a bs) c.1)) (sections_of ms p a bs)

-- what a process binds its archetype's parameters to, whatever its identifiers are
abbrev pub process_bindings : Spec → Process → Archetype → List Binding
process_bindings s p a = bindings_of s (run_with [] p a)

abbrev pub process_expansions : Spec → Process → List (Name × Expansion)
process_expansions s p =
    on [] (archetype_named p.archetype.name s.archetypes) (λ a. expansions_of (variables_of s) s.macros p.name.name a (process_bindings s p a))

-- the expanded trees of a specification, process by process
abbrev pub trees_of : Spec → List (Name × Expansion)
trees_of s = flat_map (process_expansions s) s.processes
