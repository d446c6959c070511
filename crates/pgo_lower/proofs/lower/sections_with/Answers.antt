use Rattle.std.proofs.Common.{◌≡◌, ◌∙◌, map, ap, sym}
use Rattle.std.proofs.lemmas.Result.{IfOk-weaker}
use Rattle.pgo_meaning.specs.Parameters.{setting_of}
use Rattle.pgo_meaning.specs.Sections.{sections_of}
use Rattle.pgo_section_list.specs.Sections.{section_view}
use Rattle.pgo_lower.specs.Agree.{bare_section, lowered_section}
use Rattle.pgo_lower.specs.Globals.{whole_in, by_element_in, tables_in}
use Rattle.pgo_lower.proofs.lower.sections_with.Goals as goal

pub returns : goal.returns
returns c =
    let b = c.args.globals.now.bound.now in
    let i = c.args.i.now in
    let t = tables_in b i in
    let same : c.in_ok-indexed.indexed ≡ i.archetype = c.in_ok-indexed.ensures in
    let bound : c.in_ok-bindings.bindings ≡ i.bindings = c.in_ok-bindings.ensures ∙ c.as_slice.ensures in
    let list = c.in_ok-listed.listed.items in
    let lower = map (lowered_section t) in
    IfOk-weaker c.all_sections.result _ (λ v. map bare_section v.items ≡ lower (sections_of b.spec.macros i.process i.archetype i.bindings))
    (λ _ h. h
    ∙ (λ z. map (lowered_section (record { targets = c.requires.slots z; whole = whole_in b; by_element = by_element_in b })) (map (section_view (setting_of i.process (same z) (bound z))) list))
    ∙ (λ z. lower (map (section_view (setting_of i.process (sym same z) (sym bound z))) list))
    ∙ ap lower c.in_ok-listed.ensures
    ∙ (λ z. lower (sections_of (c.requires.macros z) i.process (same z) (bound z))))
    c.all_sections.ensures
