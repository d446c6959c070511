-- That a content of a run and a cell answer alike.
use Rattle.std.specs.Prelude.{◌≡◌, List}
use Rattle.pgo_cells.specs.CellView.{cell_view}
use Rattle.pgo_cells.specs.declared.cell.Cell.{Cell}
use Rattle.pgo_resource.specs.declared.picks.Picks.{Picks}
use Rattle.pgo_mailbox.specs.Alike.{Call, Answer, AllMade, SamePicks}
use Rattle.pgo_starts.specs.ContentView.{content_shown}
use Rattle.pgo_starts.specs.declared.content.Content.{Content}

-- of a cell or a mailbox, and a cell that shows the same, every list of calls has the same answers, and they show the same behind it
abbrev pub ContentsAlike : Type 0
ContentsAlike = (cs : List Call) (a a' : Content) (c c' : Cell) (p p' q q' : Picks) (as' bs : List Answer) → content_shown a ≡ cell_view c → SamePicks p q
    → AllMade cs (content_shown a) (content_shown a') p p' as' → AllMade cs (cell_view c) (cell_view c') q q' bs
    → (as' ≡ bs) × (content_shown a' ≡ cell_view c') × SamePicks p' q'
