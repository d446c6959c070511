use Rattle.std.proofs.Common.{◌≡◌, ◌-◌, ◌∙◌, List, None, Some, map, take, drop, ap, subst}
use Rattle.pgo_base.specs.View.{data_of}
use Rattle.pgo_model.specs.Log.{Effect}
use Rattle.pgo_model.specs.LogView.{entry_view}
use Rattle.pgo_model.specs.Machine.{Entry}
use Rattle.pgo_model.specs.ModuleView.{module_view}
use Rattle.pgo_check.specs.Verdict.{Finds}
use Rattle.pgo_check_par.proofs.Joins.{finds_part, map_drop, map_take}
use Rattle.pgo_check_par.proofs.checker.first_bad_in.Goals as goal

pub returns-in-None : goal.returns-in-None
returns-in-None c s at =
    let m = module_view c.args.look.now.m.now.module.now in let consts = c.args.look.now.m.now.consts.now in let ids = map data_of c.args.look.now.ids.now in
    let es = c.args.look.now.entries.now in let p = c.args.part.now in
    let l : map entry_view c.between-entries.result.now ≡ take (p.to - p.from) (drop p.from (map entry_view es)) =
    ap (map entry_view) c.between-entries.ensures ∙ map_take entry_view (p.to - p.from) (drop p.from es) ∙ ap (take (p.to - p.from)) (map_drop entry_view p.from es) in
    let found = subst (λ o. Finds m consts ids p.start (map entry_view c.between-entries.result.now) o) c.in-None.is c.in_ok-first_bad.ensures.found in
    finds_part m consts ids s (map entry_view es) p.start p.from p.to None c.requires.within.0 at (subst (λ (l : List (Entry Effect)). Finds m consts ids p.start l None) l found)

pub returns-in-Some : goal.returns-in-Some
returns-in-Some c s at =
    let m = module_view c.args.look.now.m.now.module.now in let consts = c.args.look.now.m.now.consts.now in let ids = map data_of c.args.look.now.ids.now in
    let es = c.args.look.now.entries.now in let p = c.args.part.now in
    let l : map entry_view c.between-entries.result.now ≡ take (p.to - p.from) (drop p.from (map entry_view es)) =
    ap (map entry_view) c.between-entries.ensures ∙ map_take entry_view (p.to - p.from) (drop p.from es) ∙ ap (take (p.to - p.from)) (map_drop entry_view p.from es) in
    let found = subst (λ o. Finds m consts ids p.start (map entry_view c.between-entries.result.now) o) c.in-Some.is c.in_ok-first_bad.ensures.found in
    finds_part m consts ids s (map entry_view es) p.start p.from p.to (Some c.in-Some.place) c.requires.within.0 at (subst (λ (l : List (Entry Effect)). Finds m consts ids p.start l (Some c.in-Some.place)) l found)
