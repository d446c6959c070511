use Rattle.std.proofs.Common.{◌∙◌, sym, ap}
use Rattle.pgo_shared.specs.SeatBoards.{shows_of, shown_of, puts_inside}
use Rattle.pgo_workers.specs.View.{Shown, with_content}
use Rattle.pgo_workers.specs.Worker.{with_held}
use Rattle.pgo_table_rows.proofs.contents.put_back.Goals as goal

pub returns-clause-shows : goal.returns-clause-shows
returns-clause-shows c h at =
    let s = c.args.board.now in let b = shows_of s in
    puts_inside s c.args.r c.abort.new.self c.requires
    ∙ ap (λ (x : Shown). with_held (with_content c.args.r x b.held) b) (c.abort.ensures ∙ ap (λ (z : Shown). record z { current = z.base }) (sym (shown_of s c.args.r c.content.result.now h c.content.ensures.value at)))
