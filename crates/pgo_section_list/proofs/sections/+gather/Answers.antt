use Rattle.std.proofs.Common.{◌≡◌, ◌<◌, ◌≤◌, ◌+◌, ◌++◌, ◌∷◌, map, drop, refl, ap, sym, ◌∙◌, arith}
use Rattle.pgo_syntax.specs.StatementSize.{height}
use Rattle.pgo_syntax.specs.StatementView.{statement}
use Rattle.pgo_section_list.specs.Sections.{follow_code, label_above, section_view, see, source_sections}
use Rattle.pgo_effects.specs.SettingView.{setting_view}
use Rattle.pgo_effects.proofs.Rests.{first_of_rest}
use Rattle.pgo_section_list.proofs.SectionLaws.{heights, at_height, list_low, gathered}
use Rattle.pgo_section_list.proofs.sections.+gather.Goals as goal

pub gather-requires : goal.gather-requires
gather-requires t c =
    let at : height (see c.inner-item.result).1 ≤ heights (map see c.args.list.now) = at_height _ _ _ (omega arith) c.inner-item.is in
    let low : heights (map see c.as_slice.result.now) < height (statement c.statement.result.now) = list_low _ _ _ c.as_slice.ensures.value c.in_ok-inners.ensures in
    let same : height (statement c.statement.result.now) ≡ height (see c.inner-item.result).1 = ap height c.statement.ensures in
    (omega arith, c.requires)

pub loop-inner-preserved : goal.loop-inner-preserved
loop-inner-preserved t c =
    let s = setting_view c.args.source.setting in let l = label_above s c.args.label in let f = follow_code s c.args.follow.now in
    let n = c.loop-inner.inner-index in let xs = c.args.list.now in let x = c.inner-item.result in
    let d : drop n xs ≡ x ∷ drop (n + 1) xs = first_of_rest xs n (n + 1) x refl (omega arith) c.inner-item.is in
    gathered s c.args.source.macros.now c.requires l (label_above s c.label_or.result) f (follow_code s c.in_ok-next.next) (see x) (statement c.statement.result.now) (map see c.as_slice.result.now) (map see (drop (n + 1) xs))
    (map (section_view s) c.loop-inner.sections.items) (map (section_view s) c.add_own.new.sections.items) (map (section_view s) c.gather.new.sections.items)
    c.in_ok-add_own.ensures c.in_ok-gather.ensures (c.label_or.ensures s) (c.in_ok-next.ensures s) (ap (map see) c.as_slice.ensures.value ∙ c.in_ok-inners.ensures) c.statement.ensures
    ∙ ap (λ zs. map (section_view s) c.loop-inner.sections.items ++ source_sections c.args.source l f (map see zs)) (sym d)
    ∙ c.loop-inner.invariant
