use Rattle.std.proofs.Common.{ℕ, map, option_map, subst}
use Rattle.pgo_base.specs.Lookup.{Name}
use Rattle.pgo_heads.specs.Answers.{Passes}
use Rattle.pgo_heads.specs.Refusals.{first, bad_mappings}
use Rattle.pgo_heads.specs.Views.{run_view}
use Rattle.pgo_heads.specs.declared.errors.BindError.TheVariants as errors
use Rattle.pgo_heads.proofs.bad_mapping.mappings_fit.Goals as goal

pub returns : goal.returns
returns c =
    subst (λ gs. Passes (option_map (λ (p : Name × ℕ). errors.BadMapping p.0 p.1) (first (bad_mappings gs (map run_view c.args.runs.now)))) c.all_fit.result) c.in_ok-named.ensures c.all_fit.ensures
