use Rattle.std.proofs.Common.{ap, ◌∙◌}
use Rattle.std.specs.Prelude.{Some, None, if◌then◌else◌}
use Rattle.pgo_base.specs.Lookup.{same_name}
use Rattle.pgo_base.proofs.LastRows.{last_behind, last_or_first}
use Rattle.pgo_base.proofs.bindings.last_of.Goals as goal

pub returns-in-Some : goal.returns-in-Some
returns-in-Some g c = c.row_at.ensures ∙ last_behind g.T.Named.name_of c.args.name.now c.args.first.now c.args.rest.now c.in-Some.i c.in-Some.ensures

pub returns-then-is : goal.returns-then-is
returns-then-is g c =
    ap (λ b. if b then Some c.args.first.now else None) (c.if-is.ensures ∙ ap (same_name c.args.name.now) c.name.ensures)
    ∙ last_or_first g.T.Named.name_of c.args.name.now c.args.first.now c.args.rest.now c.in-None.ensures

pub returns-else-is : goal.returns-else-is
returns-else-is g c =
    ap (λ b. if b then Some c.args.first.now else None) (c.if-is.ensures ∙ ap (same_name c.args.name.now) c.name.ensures)
    ∙ last_or_first g.T.Named.name_of c.args.name.now c.args.first.now c.args.rest.now c.in-None.ensures
