-- Threads may share and be sent these rows: written by tools/crossing_rows from the fields.
use denote.RattleType.{RattleType}
use denote.Struct.Declared.{shape}
use denote.Enum.Declared.{shape as shape_of}
use denote.Param.Send.{IsSend, sendable, plain_send, struct_send, recorded_send, view_send, enum_send}
use Rattle.std.proofs.Crossing.{crosses, Vec-send}
use Rattle.pgo_base.proofs.extent.Extent.TheSendSync as extent_kit
use Rattle.pgo_base.proofs.items.Items.TheSendSync as items_kit
use Rattle.pgo_base.specs.contracts.log.Change as change
use Rattle.pgo_base.specs.contracts.log.Component as component
use Rattle.pgo_base.specs.contracts.log.Entry as entry
use Rattle.pgo_base.proofs.log.Owner.TheSendSync as owner_kit
use Rattle.pgo_base.specs.contracts.log.Values as values
use Rattle.pgo_base.specs.contracts.log.Values.TheInside as values_inside
use Rattle.pgo_base.specs.contracts.scope.State as state
use Rattle.pgo_base.specs.contracts.scope.State.TheInside as state_inside
use Rattle.pgo_base.proofs.text.Text.TheSendSync as text_kit
use Rattle.pgo_base.specs.contracts.value.Fun as fun
use Rattle.pgo_base.proofs.value.Fun.TheLaws.TheKnot as fun_knot
use Rattle.pgo_base.specs.contracts.value.Set as set
use Rattle.pgo_base.specs.contracts.value.Value as value
use mathlib.Core.List.{[], ◌∷◌}
use denote.Struct.Tuple.{Tuple, tuple_type}
use denote.Builtin
use Rattle.std.specs.contracts.option.Option as option

pub option_field_send : (T : RattleType) → IsSend T → IsSend (option.the_field T).row
option_field_send T s = enum_send (shape_of (option.the_type T)) (tt, ((s, tt), tt))

pub option_send : (T : RattleType) → IsSend T → IsSend (option.the_row T)
option_send T s = recorded_send _ _ _ (option.the_type T).to_one (option_field_send T s)

pub bool_send : IsSend denote.Builtin.bool
bool_send = plain_send _ _ _ _ _

pub i64_send : IsSend denote.Builtin.i64
i64_send = plain_send _ _ _ _ _

pub u32_send : IsSend denote.Builtin.u32
u32_send = plain_send _ _ _ _ _

pub tuple2_send : (T0 T1 : RattleType) → IsSend T0 → IsSend T1 → IsSend (Tuple (T0 ∷ T1 ∷ []))
tuple2_send T0 T1 t0 t1 = let R = tuple_type (T0 ∷ T1 ∷ []) in recorded_send _ _ _ R.to_one (struct_send (shape R) (t0, (t1, tt)))

pub set_send : IsSend set.the_row
set_send = search (sendable, crosses, fun_knot.crosses, extent_kit.the_send, extent_kit.the_sync, text_kit.the_send, text_kit.the_sync) depth 30

pub fun_send : IsSend fun.the_row
fun_send = search (sendable, crosses, fun_knot.crosses, extent_kit.the_send, extent_kit.the_sync, text_kit.the_send, text_kit.the_sync) depth 30

pub value_field_send : IsSend (value.the_field).row
value_field_send = enum_send (shape_of value.the_type) ((bool_send, tt), ((i64_send, tt), ((text_kit.the_send, tt), ((text_kit.the_send, tt), ((set_send, tt), ((fun_send, tt), tt))))))

pub value_send : IsSend value.the_row
value_send = recorded_send _ _ _ value.the_type.to_one value_field_send

pub state_send : IsSend state.the_row
state_send = view_send _ _ _ _ _ (recorded_send _ _ _ state_inside.the_type.to_one (struct_send (shape state_inside.the_type) (Vec-send _ (tuple2_send _ _ text_kit.the_send value_send), (bool_send, tt))))

pub component_field_send : IsSend (component.the_field).row
component_field_send = struct_send (shape component.the_type) (text_kit.the_send, (option_field_send _ value_send, (owner_kit.the_field_send, tt)))

pub component_send : IsSend component.the_row
component_send = recorded_send _ _ _ component.the_type.to_one component_field_send

pub change_field_send : IsSend (change.the_field).row
change_field_send = struct_send (shape change.the_type) (component_field_send, (value_field_send, tt))

pub change_send : IsSend change.the_row
change_send = recorded_send _ _ _ change.the_type.to_one change_field_send

pub values_send : IsSend values.the_row
values_send = view_send _ _ _ _ _ (recorded_send _ _ _ values_inside.the_type.to_one (struct_send (shape values_inside.the_type) (Vec-send _ value_send, tt)))

pub entry_field_send : IsSend (entry.the_field).row
entry_field_send = struct_send (shape entry.the_type) (u32_send, (u32_send, (text_kit.the_send, (text_kit.the_send, (items_kit.the_send _ change_send, (values_send, tt))))))

pub entry_send : IsSend entry.the_row
entry_send = recorded_send _ _ _ entry.the_type.to_one entry_field_send
