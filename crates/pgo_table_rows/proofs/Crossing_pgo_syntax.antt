-- Threads may share and be sent these rows: written by tools/crossing_rows from the fields.
use denote.Struct.Declared.{shape}
use denote.Param.Send.{IsSync, struct_sync, recorded_sync}
use Rattle.pgo_base.proofs.text.Text.TheSendSync as text_kit
use Rattle.pgo_syntax.specs.contracts.bound.Resource as resource
use Rattle.pgo_table_rows.proofs.Crossing_pgo_base.{value_sync}
use Rattle.pgo_table_rows.proofs.Crossing_pgo_base.{option_field_sync, u32_sync}

pub resource_field_sync : IsSync (resource.the_field).row
resource_field_sync = struct_sync (shape resource.the_type) (u32_sync, (text_kit.the_sync, (option_field_sync _ value_sync, tt)))

pub resource_sync : IsSync resource.the_row
resource_sync = recorded_sync _ _ _ resource.the_type.to_one resource_field_sync
