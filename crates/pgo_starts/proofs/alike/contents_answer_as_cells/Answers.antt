use Rattle.std.proofs.Common.{sym, subst}
use Rattle.pgo_cells.specs.CellView.{cell_view}
use Rattle.pgo_mailbox.specs.Alike.{AllMade}
use Rattle.pgo_mailbox.proofs.AlikeLaws.{all_alike}
use Rattle.pgo_starts.specs.ContentView.{content_shown}
use Rattle.pgo_starts.proofs.alike.contents_answer_as_cells.Goals as goal

pub returns : goal.returns
returns c = λ cs a a' d d' p p' q q' as' bs e w h k.
    all_alike cs (content_shown a) (content_shown a') (cell_view d') p p' q q' w as' bs h (subst (λ s. AllMade cs s (cell_view d') q q' bs) (sym e) k)
