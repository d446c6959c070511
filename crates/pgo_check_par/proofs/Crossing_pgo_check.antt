-- Threads may share and be sent these rows: written by tools/crossing_rows from the fields.
use denote.Ref.{NamedLft}
use denote.Struct.Declared.{shape}
use denote.Param.Send.{IsSync, shr_sync, struct_sync, recorded_sync}
use Rattle.pgo_base.proofs.name_map.NameMap.TheSendSync as name_map_kit
use Rattle.pgo_base.proofs.text.Text.TheSendSync as text_kit
use Rattle.pgo_check.specs.contracts.definitions.Assigned as assigned
use Rattle.pgo_check_par.proofs.Crossing_pgo_base.{sub_sync, defs_sync, module_row_sync, consts_sync, state_sync}

pub assigned_field_sync : (a : NamedLft) → IsSync (assigned.the_field a).row
assigned_field_sync a = struct_sync (shape (assigned.the_type a)) (shr_sync _ _ _ module_row_sync, (shr_sync _ _ _ consts_sync, (shr_sync _ _ _ state_sync, (defs_sync, (defs_sync, (name_map_kit.the_field_sync _ (shr_sync _ _ _ sub_sync), (text_kit.the_sync, tt)))))))

pub assigned_sync : (a : NamedLft) → IsSync (assigned.the_row a)
assigned_sync a = recorded_sync _ _ _ (assigned.the_type a).to_one (assigned_field_sync a)
