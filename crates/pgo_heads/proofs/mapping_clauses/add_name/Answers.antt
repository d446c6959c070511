use Rattle.std.proofs.Common.{ap, sym, ◌∙◌}
use Rattle.pgo_model.specs.Names.{same_name-is}
use Rattle.pgo_bound.specs.Runs.{is_of_name}
use Rattle.pgo_heads.specs.NameMaps.{found}
use Rattle.pgo_heads.specs.Spoken.{one_more, clauses_under}
use Rattle.pgo_heads.proofs.SpokenLaws.{name_more}
use Rattle.pgo_heads.proofs.mapping_clauses.add_name.Goals as goal

pub returns-in_ok-set-in-Global : goal.returns-in_ok-set-in-Global
returns-in_ok-set-in-Global c =
    let before = found c.args.known.now in
    let name = c.in-Global.name.name in
    λ x.
    name_more x name c.args.clause.now _ (before x) _ (before name) (c.in_ok-set-in-Global.ensures.noted x)
    (λ i. (c.args.clause.now, c.contains-several.ensures i))
    (λ h. ap before (sym (same_name-is x name h)))
    ∙ ap (λ t. one_more (is_of_name x t) c.args.clause.now (clauses_under c.args.known.now x)) (sym c.in-Global.is)
