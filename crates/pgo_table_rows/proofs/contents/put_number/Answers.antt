use Rattle.std.proofs.Common.{◌∙◌, sym, ap}
use Rattle.pgo_starts.specs.ContentView.{content_shown}
use Rattle.pgo_shared.specs.SeatBoards.{shown_of, puts_inside}
use Rattle.pgo_workers.specs.View.{Shown}
use Rattle.pgo_table_rows.proofs.contents.put_number.Goals as goal

pub returns-clause-shows : goal.returns-clause-shows
returns-clause-shows c h at =
    let s = c.args.board.now in let new = c.write_number.new.cell in
    (content_shown new, c.write_number.ensures ∙ ap (λ (z : Shown). record z { current = (content_shown new).current }) (sym (shown_of s c.args.r c.content.result.now h c.content.ensures.value at)), puts_inside s c.args.r new c.requires)
