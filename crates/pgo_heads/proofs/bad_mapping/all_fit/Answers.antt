use Rattle.std.proofs.Common.{◌+◌, ℕ, map, drop, Some, option_map, ap, sym, ◌∙◌}
use Rattle.pgo_base.specs.Lookup.{Name}
use Rattle.pgo_heads.specs.declared.errors.BindError.TheVariants as errors
use Rattle.pgo_heads.specs.Refusals.{first, bad_places, bad_mappings}
use Rattle.pgo_heads.specs.Views.{run_view}
use Rattle.pgo_heads.proofs.Firsts.{first_found, first_none}
use Rattle.pgo_heads.proofs.Numbered.{drop_step}
use Rattle.pgo_heads.proofs.bad_mapping.all_fit.Goals as goal

pub returns-in-Some : goal.returns-in-Some
returns-in-Some c =
    let gs = c.args.globals.now in
    let r = run_view c.r-item.result in
    let rest = map run_view (drop (c.loop-r.r-index + 1) c.args.runs.now) in
    let found = c.loop-r.invariant
    ∙ ap (λ rs. first (bad_mappings gs (map run_view rs))) (drop_step c.args.runs.now c.loop-r.r-index c.r-item.result c.loop-r-test.true c.r-item.is)
    ∙ first_found (λ (n : ℕ). (r.process.name.name, n)) (bad_places gs r) (bad_mappings gs rest) c.in-Some.place (sym c.in_ok-found.ensures ∙ c.in-Some.is) in
    ap (option_map (λ (p : Name × ℕ). errors.BadMapping p.0 p.1)) found
    ∙ (λ i. Some (errors.BadMapping (sym c.in_ok-copy-in-Some.ensures i) c.in-Some.place))

pub loop-r-preserved : goal.loop-r-preserved
loop-r-preserved c =
    let gs = c.args.globals.now in
    let r = run_view c.r-item.result in
    let rest = map run_view (drop (c.loop-r.r-index + 1) c.args.runs.now) in
    c.loop-r.invariant
    ∙ ap (λ rs. first (bad_mappings gs (map run_view rs))) (drop_step c.args.runs.now c.loop-r.r-index c.r-item.result c.loop-r-test.true c.r-item.is)
    ∙ first_none (λ (n : ℕ). (r.process.name.name, n)) (bad_places gs r) (bad_mappings gs rest) (sym c.in_ok-found.ensures ∙ c.in-None.is)
