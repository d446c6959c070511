-- Threads may share and be sent these rows: written by tools/crossing_rows from the fields.
use denote.Ref.{NamedLft}
use denote.Struct.Declared.{shape}
use denote.Param.Send.{IsSend, IsSync, struct_send, struct_sync, recorded_send, recorded_sync}
use Rattle.std.proofs.Crossing.{Vec-send, Vec-sync, Arc-send, Arc-sync}
use Rattle.pgo_base.proofs.text.Text.TheSendSync as text_kit
use Rattle.pgo_places.proofs.place.Finish.TheSendSync as finish_kit
use Rattle.pgo_places.specs.contracts.attempt.Attempt as attempt
use Rattle.pgo_places.specs.contracts.place.Place as place
use Rattle.pgo_places.specs.contracts.program.Runnable as runnable
use Rattle.pgo_places.specs.contracts.stand.Fixed as fixed
use Rattle.pgo_places.specs.contracts.stand.Stand as stand
use Rattle.pgo_resource.proofs.picks.Picks.TheSendSync as picks_kit
use Rattle.pgo_execute.proofs.Crossing_pgo_base.{value_field_sync, value_send, value_field_send, named_value_send, state_send}
use Rattle.pgo_execute.proofs.Crossing_pgo_code.{program_field_sync}
use Rattle.pgo_execute.proofs.Crossing_pgo_base.{option_sync, option_field_send, option_send, u32_send, usize_send}

pub fixed_field_send : IsSend (fixed.the_field).row
fixed_field_send = struct_send (shape fixed.the_type) (text_kit.the_send, (value_field_send, (Vec-send _ (option_send _ text_kit.the_send), tt)))

pub fixed_send : IsSend fixed.the_row
fixed_send = recorded_send _ _ _ fixed.the_type.to_one fixed_field_send

pub fixed_field_sync : IsSync (fixed.the_field).row
fixed_field_sync = struct_sync (shape fixed.the_type) (text_kit.the_sync, (value_field_sync, (Vec-sync _ (option_sync _ text_kit.the_sync), tt)))

pub fixed_sync : IsSync fixed.the_row
fixed_sync = recorded_sync _ _ _ fixed.the_type.to_one fixed_field_sync

pub runnable_field_sync : (a : NamedLft) → IsSync (runnable.the_field a).row
runnable_field_sync a = struct_sync (shape (runnable.the_type a)) (program_field_sync a, (Vec-sync _ (Arc-sync _ fixed_send fixed_sync), tt))

pub runnable_sync : (a : NamedLft) → IsSync (runnable.the_row a)
runnable_sync a = recorded_sync _ _ _ (runnable.the_type a).to_one (runnable_field_sync a)

pub stand_field_send : IsSend (stand.the_field).row
stand_field_send = struct_send (shape stand.the_type) (usize_send, (option_field_send _ value_send, (Vec-send _ named_value_send, (Vec-send _ named_value_send, (state_send, (Vec-send _ u32_send, (picks_kit.the_field_send, (Vec-send _ value_send, tt))))))))

pub stand_send : IsSend stand.the_row
stand_send = recorded_send _ _ _ stand.the_type.to_one stand_field_send

pub place_field_send : IsSend (place.the_field).row
place_field_send = struct_send (shape place.the_type) (usize_send, (usize_send, (usize_send, (usize_send, (option_field_send _ finish_kit.the_send, (Arc-send _ fixed_send fixed_sync, (stand_field_send, tt)))))))

pub place_send : IsSend place.the_row
place_send = recorded_send _ _ _ place.the_type.to_one place_field_send

pub attempt_field_send : IsSend (attempt.the_field).row
attempt_field_send = struct_send (shape attempt.the_type) (place_field_send, (state_send, (u32_send, tt)))

pub attempt_send : IsSend attempt.the_row
attempt_send = recorded_send _ _ _ attempt.the_type.to_one attempt_field_send
