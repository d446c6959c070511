-- A client may be sent to a thread.
use denote.Ref.{NamedLft}
use denote.Struct.Declared.{shape}
use denote.Param.Send.{IsSend, sendable, shr_send, struct_send, recorded_send}
use Rattle.std.proofs.Crossing.{crosses, Vec-send}
use Rattle.std.specs.contracts.option.Option as option
use Rattle.atomic_table.proofs.shared.Seat.TheSendSync as seat_kit
use Rattle.pgo_resource.specs.declared.resource.Resource.{Ghosts}
use Rattle.pgo_syntax.proofs.records.Refusal.TheSendSync as refusal_kit
use Rattle.pgo_table.specs.contracts.slots.Stored as stored
use Rattle.pgo_shared.proofs.Crossing_pgo_base.{option_field_send, option_send, u32_send}
use Rattle.pgo_shared.proofs.Sent.{stored_send, shared_sync}
use Rattle.pgo_shared.specs.contracts.instance_seat.InstanceSeat as instance_seat
use Rattle.pgo_shared.specs.contracts.seat_board.SeatBoard as seat_board
use Rattle.pgo_starts.proofs.Crossing_pgo_starts.{content_row_send}
use Rattle.pgo_starts.specs.contracts.content.Content as content
use Rattle.pgo_table_rows.specs.contracts.client.Client as client
use Rattle.pgo_table_rows.proofs.Crossing_pgo_resource.{board_layout_sync}

slot_send : IsSend (option.the_row (stored.the_row content.the_row))
slot_send = option_send (stored.the_row content.the_row) (stored_send content.the_row content_row_send)

module _ (g : Ghosts content.the_row.Denot) where
  instance_seat_field_send : IsSend (instance_seat.the_field content.the_row g).row
  instance_seat_field_send = struct_send (shape (instance_seat.the_type content.the_row g)) (search (sendable, crosses, seat_kit.the_send, slot_send) depth 20, (u32_send, (Vec-send _ u32_send, tt)))

  board_field_send : (a : NamedLft) → IsSend (seat_board.the_field a content.the_row g).row
  board_field_send a = struct_send (shape (seat_board.the_type a content.the_row g)) (shr_send _ _ _ (shared_sync content.the_row content_row_send g), (instance_seat_field_send, (Vec-send _ content_row_send, (option_field_send _ refusal_kit.the_send, tt))))

pub client_send : (a b : NamedLft) → IsSend (client.the_row a b)
client_send a b = recorded_send _ _ _ (client.the_type a b).to_one (struct_send (shape (client.the_type a b)) (board_field_send _ a, (shr_send _ _ _ board_layout_sync, (u32_send, (u32_send, (u32_send, (Vec-send _ u32_send, tt)))))))
