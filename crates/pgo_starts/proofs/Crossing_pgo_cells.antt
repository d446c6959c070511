-- Threads may share and be sent these rows: written by tools/crossing_rows from the fields.
use denote.Struct.Declared.{shape}
use denote.Param.Send.{IsSend, struct_send, recorded_send}
use Rattle.pgo_cells.specs.contracts.cell.Cell as cell
use Rattle.pgo_starts.proofs.Crossing_pgo_base.{value_send, value_field_send}
use Rattle.pgo_starts.proofs.Crossing_pgo_base.{option_field_send, u64_send}

pub cell_field_send : IsSend (cell.the_field).row
cell_field_send = struct_send (shape cell.the_type) (value_field_send, (option_field_send _ value_send, (u64_send, tt)))

pub cell_send : IsSend cell.the_row
cell_send = recorded_send _ _ _ cell.the_type.to_one cell_field_send
