use Rattle.std.proofs.Common.{◌≡◌, map, take, subst, ap, sym, ◌∙◌, arith}
use Rattle.std.specs.Prelude.{Some}
use Rattle.pgo_base.specs.View.{named_data}
use Rattle.pgo_model.specs.LogView.{change_view, entry_view}
use Rattle.pgo_journal.specs.Journal.{last_state}
use Rattle.pgo_journal.specs.States.{put_all}
use Rattle.pgo_journal.proofs.Reached.{put_more, taken_length, taken_state, taken_is}
use Rattle.pgo_journal.proofs.journal.Journal.state.Goals as goal

pub loop-e-preserved : goal.loop-e-preserved
loop-e-preserved c =
    let j = c.args.self.now in
    let es = c.deref.result.now in
    let n = c.args.i in
    let b = map named_data c.loop-e.list.items in
    let same : map entry_view es ≡ j.entries = ap (map entry_view) c.deref.ensures.value ∙ ap (λ j. j.entries) c.self.view_is in
    let r = subst (λ j. last_state j ≡ Some c.self.invariant.state) c.self.view_is c.self.invariant.reached in
    let w = taken_state j es n same c.requires c.self.invariant.state r in
    let l = taken_length j es n same c.requires in
    put_more j.start b w.0 (take n es) n c.loop-e.e-index c.e-item.result w.1 (omega (arith, l, c.loop-e-test.true)) c.loop-e-test.true c.e-item.is c.loop-e.invariant
    ∙ ap Some (ap (λ l. put_all (map change_view l) b) (sym c.as_slice.ensures) ∙ sym c.in_ok-put_all.ensures)

pub returns : goal.returns
returns c =
    let j = c.args.self.now in
    let es = c.deref.result.now in
    let n = c.args.i in
    let same : map entry_view es ≡ j.entries = ap (map entry_view) c.deref.ensures.value ∙ ap (λ j. j.entries) c.self.view_is in
    let l = taken_length j es n same c.requires in
    taken_is j es n same c.requires c.loop-e.e-index _ (omega (arith, l, c.loop-e-test.false, c.loop-e.auto.e-index-end)) c.loop-e.invariant
    ∙ ap Some (sym c.from_vec.ensures)
