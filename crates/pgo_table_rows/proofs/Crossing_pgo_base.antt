-- Threads may share and be sent these rows: written by tools/crossing_rows from the fields.
use denote.RattleType.{RattleType}
use denote.Struct.Declared.{shape}
use denote.Enum.Declared.{shape as shape_of}
use denote.Param.Send.{IsSend, IsSync, sendable, plain_send, plain_sync, struct_sync, recorded_send, recorded_sync, view_sync, enum_send, enum_sync}
use Rattle.std.proofs.Crossing.{crosses, Vec-sync}
use Rattle.pgo_base.proofs.extent.Extent.TheSendSync as extent_kit
use Rattle.pgo_base.specs.contracts.scope.State as state
use Rattle.pgo_base.specs.contracts.scope.State.TheInside as state_inside
use Rattle.pgo_base.proofs.text.Text.TheSendSync as text_kit
use Rattle.pgo_base.specs.contracts.value.Fun as fun
use Rattle.pgo_base.proofs.value.Fun.TheLaws.TheKnot as fun_knot
use Rattle.pgo_base.specs.contracts.value.Set as set
use Rattle.pgo_base.specs.contracts.value.Value as value
use mathlib.Core.List.{[], ◌∷◌}
use denote.Struct.Tuple.{Tuple, tuple_type}
use denote.Builtin
use Rattle.std.specs.contracts.option.Option as option

pub option_field_sync : (T : RattleType) → IsSync T → IsSync (option.the_field T).row
option_field_sync T s = enum_sync (shape_of (option.the_type T)) (tt, ((s, tt), tt))

pub option_sync : (T : RattleType) → IsSync T → IsSync (option.the_row T)
option_sync T s = recorded_sync _ _ _ (option.the_type T).to_one (option_field_sync T s)

pub option_field_send : (T : RattleType) → IsSend T → IsSend (option.the_field T).row
option_field_send T s = enum_send (shape_of (option.the_type T)) (tt, ((s, tt), tt))

pub option_send : (T : RattleType) → IsSend T → IsSend (option.the_row T)
option_send T s = recorded_send _ _ _ (option.the_type T).to_one (option_field_send T s)

pub bool_sync : IsSync denote.Builtin.bool
bool_sync = plain_sync _ _ _ _ _

pub i64_sync : IsSync denote.Builtin.i64
i64_sync = plain_sync _ _ _ _ _

pub u32_sync : IsSync denote.Builtin.u32
u32_sync = plain_sync _ _ _ _ _

pub tuple2_sync : (T0 T1 : RattleType) → IsSync T0 → IsSync T1 → IsSync (Tuple (T0 ∷ T1 ∷ []))
tuple2_sync T0 T1 t0 t1 = let R = tuple_type (T0 ∷ T1 ∷ []) in recorded_sync _ _ _ R.to_one (struct_sync (shape R) (t0, (t1, tt)))

pub bool_send : IsSend denote.Builtin.bool
bool_send = plain_send _ _ _ _ _

pub i64_send : IsSend denote.Builtin.i64
i64_send = plain_send _ _ _ _ _

pub u64_send : IsSend denote.Builtin.u64
u64_send = plain_send _ _ _ _ _

pub set_send : IsSend set.the_row
set_send = search (sendable, crosses, fun_knot.crosses, extent_kit.the_send, extent_kit.the_sync, text_kit.the_send, text_kit.the_sync) depth 30

pub fun_send : IsSend fun.the_row
fun_send = search (sendable, crosses, fun_knot.crosses, extent_kit.the_send, extent_kit.the_sync, text_kit.the_send, text_kit.the_sync) depth 30

pub value_field_send : IsSend (value.the_field).row
value_field_send = enum_send (shape_of value.the_type) ((bool_send, tt), ((i64_send, tt), ((text_kit.the_send, tt), ((text_kit.the_send, tt), ((set_send, tt), ((fun_send, tt), tt))))))

pub value_send : IsSend value.the_row
value_send = recorded_send _ _ _ value.the_type.to_one value_field_send

pub set_sync : IsSync set.the_row
set_sync = search (sendable, crosses, fun_knot.crosses, extent_kit.the_send, extent_kit.the_sync, text_kit.the_send, text_kit.the_sync) depth 30

pub fun_sync : IsSync fun.the_row
fun_sync = search (sendable, crosses, fun_knot.crosses, extent_kit.the_send, extent_kit.the_sync, text_kit.the_send, text_kit.the_sync) depth 30

pub value_field_sync : IsSync (value.the_field).row
value_field_sync = enum_sync (shape_of value.the_type) ((bool_sync, tt), ((i64_sync, tt), ((text_kit.the_sync, tt), ((text_kit.the_sync, tt), ((set_sync, tt), ((fun_sync, tt), tt))))))

pub value_sync : IsSync value.the_row
value_sync = recorded_sync _ _ _ value.the_type.to_one value_field_sync

pub state_sync : IsSync state.the_row
state_sync = view_sync _ _ _ _ _ (recorded_sync _ _ _ state_inside.the_type.to_one (struct_sync (shape state_inside.the_type) (Vec-sync _ (tuple2_sync _ _ text_kit.the_sync value_sync), (bool_sync, tt))))
