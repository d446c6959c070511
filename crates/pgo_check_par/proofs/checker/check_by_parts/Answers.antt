use Rattle.std.proofs.Common.{◌≡◌, length, map, ap, sym, ◌∙◌, rules, arith}
use Rattle.std.specs.Prelude.{IsTrue}
use Rattle.std.proofs.lemmas.Grind.{common_steps}
use Rattle.std.proofs.lemmas.List.{length-map}
use Rattle.pgo_base.specs.View.{data_of}
use Rattle.pgo_model.specs.LogView.{entry_view}
use Rattle.pgo_model.specs.ModuleView.{module_view}
use Rattle.pgo_check.specs.declared.verdict.Verdict.TheVariants.{Run}
use Rattle.pgo_check.proofs.Reached.{is_run}
use Rattle.pgo_check_par.proofs.checker.check_by_parts.Goals as goal

pub returns-in-None-clause-decides : goal.returns-in-None-clause-decides
returns-in-None-clause-decides g c =
    let log = c.args.log.now in
    let m = c.in_ok-m.m in
    let begins : IsTrue c.in_ok-begins.field-0 = first_of (search rules, grind (arith, common_steps)) in
    let run = is_run (module_view c.args.m.now) (module_view m.module.now) c.args.consts.now m.consts.now log.ids (map data_of c.as_slice.result.now) log.start (map entry_view log.entries) (map entry_view c.as_slice-entries.result.now) (ap module_view c.in_ok-m.ensures.of_module) c.in_ok-m.ensures.under c.as_slice.ensures (ap (map entry_view) c.as_slice-entries.ensures) (c.in_ok-begins.ensures.0 begins) (rw c.in-None.is at c.in_ok-first_bad_by_parts.ensures.found) in
    let count : length c.as_slice-entries.result.now ≡ length (map entry_view log.entries) = ap length c.as_slice-entries.ensures ∙ sym (length-map log.entries entry_view) in
    (count, run)

pub returns-in-None-clause-exact : goal.returns-in-None-clause-exact
returns-in-None-clause-exact g c =
    let log = c.args.log.now in
    let m = c.in_ok-m.m in
    let begins : IsTrue c.in_ok-begins.field-0 = first_of (search rules, grind (arith, common_steps)) in
    let run = is_run (module_view c.args.m.now) (module_view m.module.now) c.args.consts.now m.consts.now log.ids (map data_of c.as_slice.result.now) log.start (map entry_view log.entries) (map entry_view c.as_slice-entries.result.now) (ap module_view c.in_ok-m.ensures.of_module) c.in_ok-m.ensures.under c.as_slice.ensures (ap (map entry_view) c.as_slice-entries.ensures) (c.in_ok-begins.ensures.0 begins) (rw c.in-None.is at c.in_ok-first_bad_by_parts.ensures.found) in
    let count : length c.as_slice-entries.result.now ≡ length (map entry_view log.entries) = ap length c.as_slice-entries.ensures ∙ sym (length-map log.entries entry_view) in
    (λ r. ap Run count, λ h. run)
