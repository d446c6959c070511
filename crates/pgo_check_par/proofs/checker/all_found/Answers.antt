use denote.Param.Send.{sendable}
use Rattle.std.proofs.Common.{◌∙◌, map, ap, subst}
use Rattle.std.proofs.Crossing.{crosses}
use Rattle.std.specs.List.{AllZip}
use Rattle.rayon.proofs.ListFacts.{IfOk-then}
use Rattle.rayon.proofs.ToStd.{slice-AllZip}
use Rattle.pgo_base.specs.View.{data_of}
use Rattle.pgo_model.specs.LogView.{entry_view}
use Rattle.pgo_model.specs.ModuleView.{module_view}
use Rattle.pgo_check_par.specs.Parts.{FoundBy}
use Rattle.pgo_check_par.proofs.Crossing_pgo_check_par.{part_sync}
use Rattle.pgo_check_par.proofs.Joins.{zip_weaker}
use Rattle.pgo_check_par.proofs.Shared.{look_sync}
use Rattle.pgo_check_par.proofs.checker.all_found.Goals as goal

pub map-requires-send-F : goal.map-requires-send-F
map-requires-send-F g c κs within = search (sendable, crosses, look_sync) depth 40

pub map-requires-sync-F : goal.map-requires-sync-F
map-requires-sync-F g c κs within = search (sendable, crosses, look_sync) depth 40

pub collect-requires-send-Self : goal.collect-requires-send-Self
collect-requires-send-Self g c κs within = search (sendable, crosses, part_sync, look_sync) depth 60

pub returns : goal.returns
returns g c s =
    let look = c.map.result.f.1.now in
    let slice = ap (λ it. it.base.slice.now) c.map.ensures.base ∙ ap (λ it. it.slice.now) c.with_min_len.ensures.base ∙ c.par_iter.ensures in
    IfOk-then c.collect.result _ _ c.collect.ensures (λ v h.
    let chain = h.1 in
    subst (λ z. AllZip (FoundBy (module_view z.1.now.m.now.module.now) z.1.now.m.now.consts.now (map data_of z.1.now.ids.now) s (map entry_view z.1.now.entries.now)) c.args.parts.now v.items) c.map.ensures.f
    (rw h.2 (slice-AllZip chain.0 c.args.parts.now (chain.1 ∙ slice) (FoundBy (module_view look.m.now.module.now) look.m.now.consts.now (map data_of look.ids.now) s (map entry_view look.entries.now)) h.0 (zip_weaker _ _ chain.0 h.0 (λ x y f. f s) chain.2))))
