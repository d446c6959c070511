use Rattle.std.proofs.Common.{◌≡◌, ◌<◌, true, false, map, length, ap, sym, subst, ◌∙◌}
use Rattle.std.proofs.lemmas.Bool.{ltb-true}
use Rattle.std.specs.Prelude.{Some}
use Rattle.pgo_base.specs.States.{AreAlike}
use Rattle.pgo_base.specs.View.{data_of}
use Rattle.pgo_model.specs.Log.{After}
use Rattle.pgo_model.specs.LogView.{change_view, entry_view}
use Rattle.pgo_model.specs.Machine.{nth}
use Rattle.pgo_model.specs.ModuleView.{module_view}
use Rattle.pgo_check.specs.Elsewhere.{noted_all}
use Rattle.pgo_check.specs.Placed.{ArePlaces}
use Rattle.pgo_check.proofs.Elsewhere.{alike}
use Rattle.pgo_check.proofs.Reached.{id_at, one_step, no_step, went}
use Rattle.pgo_check.proofs.states.step.Goals as goal

pub after-requires : goal.after-requires
after-requires c = subst (λ z. ArePlaces z c.args.look.now.places.now) (sym c.requires.same) c.requires.fits.places

pub returns-then-is_one : goal.returns-then-is_one
returns-then-is_one c =
    let s = c.args.s.now in
    let n : c.args.e.now.instance < length c.args.look.now.ids.now = ltb-true c.args.e.now.instance (length c.args.look.now.ids.now) (sym c.in-Some.ensures.lookup.0) in
    let h : nth (map data_of c.args.look.now.ids.now) c.args.e.now.instance ≡ Some (data_of c.in-Some.id.now) = id_at c.args.look.now.ids.now c.args.e.now.instance c.in-Some.id.now n c.in-Some.ensures.lookup.1 in
    let g : After s (entry_view c.args.e.now).change ≡ Some c.in-Some-2.t =
    ap (λ z. After z (entry_view c.args.e.now).change) (sym c.requires.same) ∙ sym c.in_ok-t.ensures ∙ c.in-Some-2.is in
    one_step (module_view c.args.look.now.m.now.module.now) c.args.look.now.m.now.consts.now (map data_of c.args.look.now.ids.now) s (entry_view c.args.e.now) (data_of c.in-Some.id.now) c.in-Some-2.t h g (c.in_ok-is_one.ensures.0 c.if-is_one.true)

pub returns-else-is_one : goal.returns-else-is_one
returns-else-is_one c =
    let s = c.args.s.now in
    let n : c.args.e.now.instance < length c.args.look.now.ids.now = ltb-true c.args.e.now.instance (length c.args.look.now.ids.now) (sym c.in-Some.ensures.lookup.0) in
    let h : nth (map data_of c.args.look.now.ids.now) c.args.e.now.instance ≡ Some (data_of c.in-Some.id.now) = id_at c.args.look.now.ids.now c.args.e.now.instance c.in-Some.id.now n c.in-Some.ensures.lookup.1 in
    let g : After s (entry_view c.args.e.now).change ≡ Some c.in-Some-2.t =
    ap (λ z. After z (entry_view c.args.e.now).change) (sym c.requires.same) ∙ sym c.in_ok-t.ensures ∙ c.in-Some-2.is in
    no_step (module_view c.args.look.now.m.now.module.now) c.args.look.now.m.now.consts.now (map data_of c.args.look.now.ids.now) s (entry_view c.args.e.now) (data_of c.in-Some.id.now) c.in-Some-2.t h g (λ a. absurd (let k : true ≡ false = sym (c.in_ok-is_one.ensures.1 a) ∙ c.if-is_one.false in cc))

pub is_step-requires-clause-alike : goal.is_step-requires-clause-alike
is_step-requires-clause-alike c =
    let s = c.args.s.now in
    let e = (entry_view c.args.e.now).change in
    let t = c.in-Some-2.t in
    let g : After s e ≡ Some t =
    ap (λ z. After z e) (sym c.requires.same) ∙ sym c.in_ok-t.ensures ∙ c.in-Some-2.is in
    let kept : c.note_all.new.kept ≡ noted_all false c.args.look.now.places.now e.changes c.args.kept.now =
    c.note_all.ensures ∙ ap (λ cs. noted_all false c.args.look.now.places.now (map change_view cs) c.args.kept.now) c.as_slice-changes.ensures in
    subst (AreAlike s (Some t)) (sym kept) (alike s t c.args.look.now.places.now e.changes c.args.kept.now c.requires.fits.places (went s e t g))
