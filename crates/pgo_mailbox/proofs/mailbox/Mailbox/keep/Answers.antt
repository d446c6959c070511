use Rattle.pgo_cells.specs.CellView.{cell_view}
use Rattle.pgo_mailbox.specs.BoxView.{box_view}
use Rattle.pgo_mailbox.proofs.Boxes.{kept_same}
use Rattle.pgo_mailbox.proofs.mailbox.Mailbox.keep.Goals as goal

pub returns-else-is_changed-clause-ok : goal.returns-else-is_changed-clause-ok
returns-else-is_changed-clause-ok c = kept_same (box_view c.args.self.now) (cell_view c.args.cell.now) c.requires c.is_changed.result c.if-is_changed.false c.is_changed.ensures
