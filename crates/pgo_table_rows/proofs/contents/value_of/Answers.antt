use Rattle.std.proofs.Common.{◌∙◌, refl, sym, ap}
use Rattle.std.proofs.lemmas.Result.{IfOk-weaker}
use Rattle.pgo_starts.specs.ContentView.{content_shown}
use Rattle.pgo_section.proofs.Boards.{some_is, same_board}
use Rattle.pgo_shared.specs.SeatBoards.{shows_of, shown_of, puts_inside}
use Rattle.pgo_workers.specs.View.{Shown}
use Rattle.pgo_table_rows.proofs.contents.value_of.Goals as goal

pub returns-clause-shows : goal.returns-clause-shows
returns-clause-shows c =
    let s = c.args.board.now in let x = c.content.result.now in let h = some_is _ c.requires in
    same_board (shows_of s) _ c.args.r (content_shown x) (content_shown x) h.0 h.1 (shown_of s c.args.r x h.0 c.content.ensures.value h.1) refl (puts_inside s c.args.r x c.requires)

pub returns-clause-value : goal.returns-clause-value
returns-clause-value c =
    IfOk-weaker c.value.result _ _ (λ v e h at. e ∙ ap (λ (z : Shown). z.current) (sym (shown_of c.args.board.now c.args.r c.content.result.now h c.content.ensures.value at))) c.value.ensures
