use Rattle.std.proofs.Common.{◌≤◌, ◌∙◌, List, All, IfOk, length, map, ap, sym, subst}
use Rattle.std.proofs.lemmas.List.Elements.{All-from_recursion}
use Rattle.std.proofs.lemmas.Result.{IfOk-weaker}
use Rattle.std.specs.List.{AllZip}
use Rattle.pgo_base.specs.View.{data_of}
use Rattle.pgo_model.specs.LogView.{entry_view}
use Rattle.pgo_model.specs.ModuleView.{module_view}
use Rattle.pgo_check.specs.Verdict.{Finds}
use Rattle.pgo_check_par.specs.Parts.{FindsAt, FoundBy, scanned}
use Rattle.pgo_check_par.specs.declared.parts.Part.{Part}
use Rattle.pgo_check_par.proofs.Joins.{finds_all, finds_end, follow_all, placed}
use Rattle.pgo_check_par.proofs.checker.first_bad_by_parts.Goals as goal

pub returns : goal.returns
returns g c =
    let look = c.args.look.now in
    let m = module_view look.m.now.module.now in
    let consts = look.m.now.consts.now in
    let ids = map data_of look.ids.now in
    let s = c.args.start.now in
    let l = map entry_view look.entries.now in
    let parts = c.in_ok-parts.ensures in
    let each = subst (λ (ps : List Part). AllZip (FoundBy m consts ids s l) ps c.in_ok-found.found.items) c.as_slice.ensures.value (c.in_ok-found.ensures s) in
    let least = finds_all m consts ids s l 0 c.in_ok-parts.parts.items parts.last c.in_ok-found.found.items parts.follow each in
    let here = subst (λ r. IfOk r (FindsAt m consts ids s l 0 parts.last)) (sym (c.first_found.ensures ∙ ap scanned c.as_slice-2.ensures.value)) least in
    let found = IfOk-weaker c.first_found.result _ (Finds m consts ids s l) (λ o h. finds_end m consts ids s l c.in_ok-parts.parts.items o parts h) here in
    record {
      found = found;
      within = IfOk-weaker c.first_found.result _ _ (λ o h. placed m consts ids s look.entries.now o h) found;
    }

pub all_found-requires-clause-within : goal.all_found-requires-clause-within
all_found-requires-clause-within g c κs within =
    let entries = c.args.look.now.entries.now in
    let parts = c.in_ok-parts.ensures in
    subst (λ (ps : List Part). All (λ (p : Part). (p.from ≤ p.to) × (p.to ≤ length entries)) ps) (sym c.as_slice.ensures.value)
    (All-from_recursion (λ (p : Part). (p.from ≤ p.to) × (p.to ≤ length entries)) c.in_ok-parts.parts.items (follow_all c.args.start.now entries 0 c.in_ok-parts.parts.items parts.last parts.follow))
