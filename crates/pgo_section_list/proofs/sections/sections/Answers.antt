use Rattle.std.proofs.Common.{◌++◌, map, ap, ◌∙◌, []}
use Rattle.pgo_model.specs.Written.{done}
use Rattle.pgo_syntax.specs.Statement.{labeled}
use Rattle.pgo_syntax.specs.declared.archetype.Archetype.{Archetype}
use Rattle.pgo_sections.specs.Code.{Goto}
use Rattle.pgo_meaning.specs.MacrosPlaced.{bodies}
use Rattle.pgo_meaning.specs.Parameters.{setting_of}
use Rattle.pgo_section_list.specs.Sections.{all_sections, block_items, in_sequence, section_view, see}
use Rattle.pgo_effects.specs.Todos.{codes_of}
use Rattle.pgo_section_list.proofs.SectionLaws.{block_sections}
use Rattle.pgo_section_list.proofs.sections.sections.Goals as goal

pub returns : goal.returns
returns c =
    let s = setting_of c.args.process.now c.args.archetype.now c.args.bindings.now in let ms = c.args.macros.now in
    c.in_ok-gather.ensures
    ∙ (λ i. map (section_view s) (c.new-sections.ensures.items i) ++ all_sections s (bodies ms) [] (in_sequence (codes_of s (c.new.ensures.items i)) (Goto done)) (map see (c.as_slice-2.ensures.value i)))
    ∙ ap (all_sections s (bodies ms) [] (Goto done)) (c.in_ok-inners.ensures ∙ ap (λ b. block_items (labeled b)) (c.as_slice.ensures ∙ ap (λ (a : Archetype). a.body) c.archetype.ensures))
    ∙ block_sections s ms c.requires (labeled c.args.archetype.now.body) [] (Goto done)
