use Rattle.std.proofs.Common.{◌≡◌, map, ap, sym, ◌∙◌}
use Rattle.std.specs.Prelude.{Some, None}
use Rattle.pgo_base.specs.View.{named_data}
use Rattle.pgo_model.specs.LogView.{change_view}
use Rattle.pgo_model.specs.Variables.{store}
use Rattle.pgo_model.specs.Steps.{place_in}
use Rattle.pgo_journal.specs.States.{put_found}
use Rattle.pgo_model.proofs.Places.{place_none, placed_at}
use Rattle.pgo_journal.proofs.states.put.Goals as goal

pub returns-in_default : goal.returns-in_default
returns-in_default c =
    let x = c.args.c.now.component.variable in
    let s = map named_data c.args.list.now.items in
    let e : place_in x s ≡ None = ap (λ l. place_in x (map named_data l)) (sym c.deref.ensures.value) ∙ sym c.in_default.ensures.place in
    sym (ap (put_found (change_view c.args.c.now) s) (place_none x s e))

pub returns : goal.returns
returns c =
    let x = c.args.c.now.component.variable in
    let list = c.args.list.now.items in
    let s = map named_data list in
    let v = c.in_ok-v.v in
    let e : place_in x s ≡ Some c.in-Some.i = ap (λ l. place_in x (map named_data l)) (sym c.deref.ensures.value) ∙ sym c.in-Some.ensures.place in
    let q = placed_at x list c.in-Some.i c.index.result.now e c.index.ensures in
    let p = placed_at x list c.in-Some.i c.index_mut.result.now e c.index_mut.ensures.value in
    sym (p.1 v) ∙ ap (λ d. store x d s) c.in_ok-v.ensures ∙ sym (ap (put_found (change_view c.args.c.now) s) q.0)
