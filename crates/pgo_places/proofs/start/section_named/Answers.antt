-- The section that has the label.
use Rattle.std.proofs.Common.{◌≡◌, ◌<◌, true, get_or, length, ◌∙◌, arith}
use Rattle.pgo_base.specs.Lookup.{same_name}
use Rattle.pgo_places.proofs.LabelSections.{found_section}
use Rattle.pgo_places.proofs.start.section_named.Goals as goal

pub returns-then-is : goal.returns-then-is
returns-then-is c =
    let xs = c.args.sections.now in let i = c.loop-i.i in let d = c.index-sections-i.result in
    let lt : i < length xs = omega arith in
    let h : same_name c.args.label.now (get_or xs i d).label ≡ true = (let e1 = c.if-is.ensures in let e2 = c.index-sections-i.is in cc) in
    found_section xs i d c.args.label.now lt h ∙ c.loop-i.invariant
