use Rattle.std.proofs.Common.{◌≡◌, true, false, Some, ap, ◌∙◌}
use Rattle.std.specs.Prelude.{if◌then◌else◌, option_map}
use Rattle.pgo_base.specs.Lookup.{find}
use Rattle.pgo_uses.specs.Names.{has_row}
use Rattle.pgo_measure.specs.Heights.{assigned_height, place_change}
use Rattle.pgo_measure.proofs.RowLaws.{change_by}
use Rattle.pgo_measure.proofs.heights.height_of_change.Goals as goal

pub returns-then-has : goal.returns-then-has
returns-then-has c gs cs e f =
    let x = c.args.x.now in
    let height : c.height_of_assignment.result ≡ assigned_height gs x = c.height_of_assignment.ensures gs e in
    ap Some height ∙ change_by cs x (assigned_height gs x) true (c.if-has.ensures ∙ ap (has_row x) f)
    ∙ ap (λ b. if b then Some place_change else option_map (λ y. assigned_height gs x) (find x cs)) c.if-is_pc.ensures

pub returns-else-has : goal.returns-else-has
returns-else-has c gs cs e f =
    let x = c.args.x.now in
    change_by cs x (assigned_height gs x) false (c.if-has.ensures ∙ ap (has_row x) f)
    ∙ ap (λ b. if b then Some place_change else option_map (λ y. assigned_height gs x) (find x cs)) c.if-is_pc.ensures
