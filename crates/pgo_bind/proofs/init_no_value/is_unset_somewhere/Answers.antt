use Rattle.std.proofs.Common.{map, ap, sym, ◌∙◌}
use Rattle.pgo_base.specs.View.{data_of}
use Rattle.pgo_bound.specs.Values.{is_unset}
use Rattle.pgo_heads.specs.Refusals.{is_unset_somewhere}
use Rattle.pgo_heads.specs.Views.{start_view}
use Rattle.pgo_heads.proofs.Firsts.{any_constant}
use Rattle.pgo_bind.proofs.init_no_value.is_unset_somewhere.Goals as goal

pub returns-in-Some : goal.returns-in-Some
returns-in-Some c =
    let s = start_view c.args.start.now in
    c.is_unset.ensures
    ∙ any_constant (is_unset 255 s) (data_of c.in-Some._first.now) (map data_of c.in-Some._rest.now)
    ∙ ap (λ vs. is_unset_somewhere s (map data_of vs)) (sym c.in-Some.ensures.cases.0)
