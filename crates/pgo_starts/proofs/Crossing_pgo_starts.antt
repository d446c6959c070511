-- Threads may share and be sent these rows: written by tools/crossing_rows from the fields.
use denote.Enum.Declared.{shape as shape_of}
use denote.Param.Send.{IsSend, recorded_send, enum_send}
use Rattle.pgo_starts.specs.contracts.content.Content as content_row
use Rattle.pgo_starts.proofs.Crossing_pgo_cells.{cell_field_send}
use Rattle.pgo_starts.proofs.Crossing_pgo_mailbox.{mailbox_field_send}

pub content_row_field_send : IsSend (content_row.the_field).row
content_row_field_send = enum_send (shape_of content_row.the_type) ((cell_field_send, tt), ((mailbox_field_send, tt), tt))

pub content_row_send : IsSend content_row.the_row
content_row_send = recorded_send _ _ _ content_row.the_type.to_one content_row_field_send
