-- What a content of a run shows.
use Rattle.pgo_cells.specs.CellView.{cell_view}
use Rattle.pgo_mailbox.specs.BoxView.{box_view}
use Rattle.pgo_workers.specs.View.{Shown}
use Rattle.pgo_starts.specs.declared.content.Content.{Content}
use Rattle.pgo_starts.specs.declared.content.Content.TheVariants as contents

abbrev pub content_shown : Content → Shown
content_shown (contents.Cell c) = cell_view c
content_shown (contents.Mailbox b) = box_view b
