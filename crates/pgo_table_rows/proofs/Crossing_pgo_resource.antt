-- Threads may share and be sent these rows: written by tools/crossing_rows from the fields.
use denote.Struct.Declared.{shape}
use denote.Param.Send.{IsSync, struct_sync, recorded_sync}
use Rattle.pgo_base.proofs.items.Items.TheSendSync as items_kit
use Rattle.pgo_base.proofs.text.Text.TheSendSync as text_kit
use Rattle.pgo_resource.specs.contracts.layout.BoardLayout as board_layout
use Rattle.pgo_resource.specs.contracts.layout.Member as member
use Rattle.pgo_resource.proofs.layout.OwnNames.TheSendSync as own_names_kit
use Rattle.pgo_table_rows.proofs.Crossing_pgo_base.{value_field_sync, state_sync}
use Rattle.pgo_table_rows.proofs.Crossing_pgo_syntax.{resource_sync}

pub member_field_sync : IsSync (member.the_field).row
member_field_sync = struct_sync (shape member.the_type) (value_field_sync, (text_kit.the_sync, tt))

pub member_sync : IsSync member.the_row
member_sync = recorded_sync _ _ _ member.the_type.to_one member_field_sync

pub board_layout_field_sync : IsSync (board_layout.the_field).row
board_layout_field_sync = struct_sync (shape board_layout.the_type) (state_sync, (items_kit.the_sync _ resource_sync, (items_kit.the_sync _ member_sync, (items_kit.the_sync _ own_names_kit.the_sync, tt))))

pub board_layout_sync : IsSync board_layout.the_row
board_layout_sync = recorded_sync _ _ _ board_layout.the_type.to_one board_layout_field_sync
