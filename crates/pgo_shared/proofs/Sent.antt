-- A seat's board may be sent to a thread where the contents may.
use denote.RattleType.{RattleType}
use denote.Ref.{NamedLft}
use denote.Struct.Declared.{shape}
use denote.Builtin
use denote.Enum.Declared.{shape as shape_of}
use denote.Param.Send.{IsSend, IsSync, sendable, plain_sync, shr_send, struct_send, struct_sync, recorded_send, recorded_sync, enum_send}
use Rattle.std.proofs.Crossing.{crosses, Vec-send}
use Rattle.std.specs.contracts.option.Option as option
use Rattle.atomic_table.proofs.owned.Table.TheSendSync as table_kit
use Rattle.atomic_table.proofs.shared.Seat.TheSendSync as seat_kit
use Rattle.pgo_resource.specs.declared.resource.Resource.{Ghosts}
use Rattle.pgo_syntax.proofs.records.Refusal.TheSendSync as refusal_kit
use Rattle.pgo_table.specs.contracts.slots.Stored as stored
use Rattle.pgo_shared.specs.contracts.instance_seat.InstanceSeat as instance_seat
use Rattle.pgo_shared.specs.contracts.seat_board.SeatBoard as seat_board
use Rattle.pgo_shared.specs.contracts.shared.Shared as shared
use Rattle.pgo_shared.proofs.Crossing_pgo_base.{option_field_send, option_send, u32_send}
use Rattle.pgo_shared.proofs.Crossing_pgo_journal.{journal_send}

usize_sync : IsSync denote.Builtin.usize
usize_sync = plain_sync _ _ _ _ _

module _ (R : RattleType) (r : IsSend R) where
  pub stored_send : IsSend (stored.the_row R)
  stored_send = recorded_send _ _ _ (stored.the_type R).to_one (enum_send (shape_of (stored.the_type R)) ((r, tt), ((journal_send, tt), tt)))

  slot_send : IsSend (option.the_row (stored.the_row R))
  slot_send = option_send (stored.the_row R) stored_send

  module _ (g : Ghosts R.Denot) where
    pub shared_sync : IsSync (shared.the_row R g)
    shared_sync = recorded_sync _ _ _ (shared.the_type R g).to_one (struct_sync (shape (shared.the_type R g)) (search (sendable, crosses, table_kit.the_field_sync, slot_send) depth 20, (usize_sync, tt)))

    instance_seat_field_send : IsSend (instance_seat.the_field R g).row
    instance_seat_field_send = struct_send (shape (instance_seat.the_type R g)) (search (sendable, crosses, seat_kit.the_send, slot_send) depth 20, (u32_send, (Vec-send _ u32_send, tt)))

    pub board_send : (a : NamedLft) → IsSend (seat_board.the_row a R g)
    board_send a = recorded_send _ _ _ (seat_board.the_type a R g).to_one (struct_send (shape (seat_board.the_type a R g)) (shr_send _ _ _ shared_sync, (instance_seat_field_send, (Vec-send _ r, (option_field_send _ refusal_kit.the_send, tt)))))
