use Rattle.std.proofs.Common.{◌≤◌, refl, sym, ap, subst}
use Rattle.std.specs.List.{list_all}
use Rattle.std.specs.Prelude.{vec_capacity}
use Rattle.pgo_syntax.specs.ManyLeaves.{tells_many}
use Rattle.pgo_syntax.specs.RecordView.{settings_view}
use Rattle.pgo_section.specs.Programs.{RunsSystem}
use Rattle.pgo_section.specs.Turns.{IsFresh}
use Rattle.pgo_section.proofs.Opens.{opens}
use Rattle.pgo_section.proofs.worker.Worker.open.Goals as goal

pub returns-clause-meets : goal.returns-clause-meets
returns-clause-meets g c =
    let y = g.S.Sections.system c.args.sections.now in let tree = g.S.Sections.tree c.args.sections.now in let walk = g.S.Sections.walk c.args.sections.now in
    let same = c.in_ok-settings.ensures.same in
    λ b runs fresh. opens y tree walk _ b c.in_ok-records.ensures.items c.in_ok-taken.ensures.items c.requires.own refl refl refl
    (subst (λ s. RunsSystem y tree (settings_view s)) (sym same) runs) (subst (λ s. IsFresh y (settings_view s) c.args.instance b) (sym same) fresh)
    (record { instance = c.requires.instance; records = c.in_ok-records.ensures.capacity; taken = subst (λ n. n ≤ vec_capacity c.in_ok-taken.taken) c.requires.resources c.in_ok-taken.ensures.capacity; told = ap (list_all tells_many) c.in_ok-records.ensures.items; listed = c.in_ok-settings.ensures.listed })
