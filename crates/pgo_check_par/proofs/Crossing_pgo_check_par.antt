-- Threads may share and be sent these rows: written by tools/crossing_rows from the fields.
use denote.Struct.Declared.{shape}
use denote.Param.Send.{IsSync, struct_sync, recorded_sync}
use Rattle.pgo_check_par.specs.contracts.parts.Part as part
use Rattle.pgo_check_par.proofs.Crossing_pgo_base.{state_sync}
use Rattle.pgo_check_par.proofs.Crossing_pgo_base.{usize_sync}

pub part_field_sync : IsSync (part.the_field).row
part_field_sync = struct_sync (shape part.the_type) (state_sync, (usize_sync, (usize_sync, tt)))

pub part_sync : IsSync part.the_row
part_sync = recorded_sync _ _ _ part.the_type.to_one part_field_sync
