-- Threads may share and be sent these rows: written by tools/crossing_rows from the fields.
use denote.Struct.Declared.{shape}
use denote.Enum.Declared.{shape as shape_of}
use denote.Param.Send.{IsSend, sendable, struct_send, recorded_send, view_send, enum_send}
use Rattle.std.proofs.Crossing.{crosses}
use Rattle.pgo_mailbox.specs.contracts.mailbox.Content as content
use Rattle.pgo_mailbox.specs.contracts.mailbox.Mailbox as mailbox
use Rattle.pgo_mailbox.specs.contracts.queue.Queue as queue
use Rattle.pgo_mailbox.specs.contracts.queue.Queue.TheInside as queue_inside
use Rattle.pgo_starts.proofs.Crossing_pgo_base.{value_send, value_field_send}
use Rattle.pgo_starts.proofs.Crossing_pgo_base.{option_field_send, u64_send, usize_send}

pub queue_send : IsSend queue.the_row
queue_send = view_send _ _ _ _ _ (recorded_send _ _ _ queue_inside.the_type.to_one (struct_send (shape queue_inside.the_type) (search (sendable, crosses, value_field_send, value_send) depth 20, (usize_send, (usize_send, tt)))))

pub content_field_send : IsSend (content.the_field).row
content_field_send = enum_send (shape_of content.the_type) ((queue_send, tt), ((value_field_send, (option_field_send _ value_send, tt)), tt))

pub content_send : IsSend content.the_row
content_send = recorded_send _ _ _ content.the_type.to_one content_field_send

pub mailbox_field_send : IsSend (mailbox.the_field).row
mailbox_field_send = struct_send (shape mailbox.the_type) (content_field_send, (u64_send, tt))

pub mailbox_send : IsSend mailbox.the_row
mailbox_send = recorded_send _ _ _ mailbox.the_type.to_one mailbox_field_send
