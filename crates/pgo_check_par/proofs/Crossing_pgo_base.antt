-- Threads may share and be sent these rows: written by tools/crossing_rows from the fields.
use denote.RattleType.{RattleType}
use denote.Struct.Declared.{shape}
use denote.Enum.Declared.{shape as shape_of}
use denote.Param.Send.{IsSync, sendable, plain_sync, struct_sync, recorded_sync, view_sync, enum_sync}
use Rattle.std.proofs.Crossing.{crosses, Vec-sync}
use Rattle.pgo_base.specs.contracts.consts.Consts as consts
use Rattle.pgo_base.specs.contracts.consts.Consts.TheInside as consts_inside
use Rattle.pgo_base.proofs.expr.Arms.TheLaws.TheKnot as arms_knot
use Rattle.pgo_base.proofs.expr.Infix.TheSendSync as infix_kit
use Rattle.pgo_base.proofs.expr.Prefix.TheSendSync as prefix_kit
use Rattle.pgo_base.proofs.expr.Quantifier.TheSendSync as quantifier_kit
use Rattle.pgo_base.specs.contracts.expr.Sub as sub
use Rattle.pgo_base.proofs.expr.Word.TheSendSync as word_kit
use Rattle.pgo_base.proofs.extent.Extent.TheSendSync as extent_kit
use Rattle.pgo_base.proofs.items.Items.TheSendSync as items_kit
use Rattle.pgo_base.specs.contracts.log.Change as change
use Rattle.pgo_base.specs.contracts.log.Component as component
use Rattle.pgo_base.specs.contracts.log.Entry as entry
use Rattle.pgo_base.proofs.log.Owner.TheSendSync as owner_kit
use Rattle.pgo_base.specs.contracts.log.Values as values
use Rattle.pgo_base.specs.contracts.log.Values.TheInside as values_inside
use Rattle.pgo_base.specs.contracts.module.Action as action
use Rattle.pgo_base.specs.contracts.module.Actions as actions
use Rattle.pgo_base.specs.contracts.module.Actions.TheInside as actions_inside
use Rattle.pgo_base.specs.contracts.module.Defined as defined
use Rattle.pgo_base.specs.contracts.module.Defs as defs
use Rattle.pgo_base.specs.contracts.module.Defs.TheInside as defs_inside
use Rattle.pgo_base.specs.contracts.module.Module as module_row
use Rattle.pgo_base.specs.contracts.module.WrittenProcess as written_process
use Rattle.pgo_base.proofs.name_map.NameMap.TheSendSync as name_map_kit
use Rattle.pgo_base.specs.contracts.scope.State as state
use Rattle.pgo_base.specs.contracts.scope.State.TheInside as state_inside
use Rattle.pgo_base.proofs.text.Text.TheSendSync as text_kit
use Rattle.pgo_base.specs.contracts.value.Fun as fun
use Rattle.pgo_base.proofs.value.Fun.TheLaws.TheKnot as fun_knot
use Rattle.pgo_base.specs.contracts.value.Set as set
use Rattle.pgo_base.specs.contracts.value.Value as value
use mathlib.Core.List.{[], ◌∷◌}
use denote.Struct.Tuple.{Tuple, tuple_type}
use denote.Builtin
use Rattle.std.specs.contracts.option.Option as option

pub option_field_sync : (T : RattleType) → IsSync T → IsSync (option.the_field T).row
option_field_sync T s = enum_sync (shape_of (option.the_type T)) (tt, ((s, tt), tt))

pub option_sync : (T : RattleType) → IsSync T → IsSync (option.the_row T)
option_sync T s = recorded_sync _ _ _ (option.the_type T).to_one (option_field_sync T s)

pub bool_sync : IsSync denote.Builtin.bool
bool_sync = plain_sync _ _ _ _ _

pub i64_sync : IsSync denote.Builtin.i64
i64_sync = plain_sync _ _ _ _ _

pub u32_sync : IsSync denote.Builtin.u32
u32_sync = plain_sync _ _ _ _ _

pub usize_sync : IsSync denote.Builtin.usize
usize_sync = plain_sync _ _ _ _ _

pub tuple2_sync : (T0 T1 : RattleType) → IsSync T0 → IsSync T1 → IsSync (Tuple (T0 ∷ T1 ∷ []))
tuple2_sync T0 T1 t0 t1 = let R = tuple_type (T0 ∷ T1 ∷ []) in recorded_sync _ _ _ R.to_one (struct_sync (shape R) (t0, (t1, tt)))

pub set_sync : IsSync set.the_row
set_sync = search (sendable, crosses, fun_knot.crosses, extent_kit.the_send, extent_kit.the_sync, text_kit.the_send, text_kit.the_sync) depth 30

pub fun_sync : IsSync fun.the_row
fun_sync = search (sendable, crosses, fun_knot.crosses, extent_kit.the_send, extent_kit.the_sync, text_kit.the_send, text_kit.the_sync) depth 30

pub value_field_sync : IsSync (value.the_field).row
value_field_sync = enum_sync (shape_of value.the_type) ((bool_sync, tt), ((i64_sync, tt), ((text_kit.the_sync, tt), ((text_kit.the_sync, tt), ((set_sync, tt), ((fun_sync, tt), tt))))))

pub value_sync : IsSync value.the_row
value_sync = recorded_sync _ _ _ value.the_type.to_one value_field_sync

pub sub_sync : IsSync sub.the_row
sub_sync = search (sendable, crosses, arms_knot.crosses, infix_kit.the_sync, items_kit.the_sync, prefix_kit.the_sync, quantifier_kit.the_sync, text_kit.the_sync, word_kit.the_sync) depth 30

pub defined_field_sync : IsSync (defined.the_field).row
defined_field_sync = enum_sync (shape_of defined.the_type) ((text_kit.the_sync, (value_field_sync, tt)), ((text_kit.the_sync, (items_kit.the_sync _ text_kit.the_sync, (sub_sync, tt))), tt))

pub defined_sync : IsSync defined.the_row
defined_sync = recorded_sync _ _ _ defined.the_type.to_one defined_field_sync

pub defs_sync : IsSync defs.the_row
defs_sync = view_sync _ _ _ _ _ (recorded_sync _ _ _ defs_inside.the_type.to_one (struct_sync (shape defs_inside.the_type) (Vec-sync _ defined_sync, (name_map_kit.the_field_sync _ usize_sync, tt))))

pub action_field_sync : IsSync (action.the_field).row
action_field_sync = struct_sync (shape action.the_type) (text_kit.the_sync, (sub_sync, tt))

pub action_sync : IsSync action.the_row
action_sync = recorded_sync _ _ _ action.the_type.to_one action_field_sync

pub actions_sync : IsSync actions.the_row
actions_sync = view_sync _ _ _ _ _ (recorded_sync _ _ _ actions_inside.the_type.to_one (struct_sync (shape actions_inside.the_type) (Vec-sync _ action_sync, tt)))

pub written_process_field_sync : IsSync (written_process.the_field).row
written_process_field_sync = struct_sync (shape written_process.the_type) (text_kit.the_sync, (sub_sync, (actions_sync, tt)))

pub written_process_sync : IsSync written_process.the_row
written_process_sync = recorded_sync _ _ _ written_process.the_type.to_one written_process_field_sync

pub module_row_field_sync : IsSync (module_row.the_field).row
module_row_field_sync = struct_sync (shape module_row.the_type) (text_kit.the_sync, (items_kit.the_sync _ text_kit.the_sync, (defs_sync, (items_kit.the_sync _ text_kit.the_sync, (sub_sync, (items_kit.the_sync _ written_process_sync, tt))))))

pub module_row_sync : IsSync module_row.the_row
module_row_sync = recorded_sync _ _ _ module_row.the_type.to_one module_row_field_sync

pub consts_sync : IsSync consts.the_row
consts_sync = view_sync _ _ _ _ _ (recorded_sync _ _ _ consts_inside.the_type.to_one (struct_sync (shape consts_inside.the_type) (Vec-sync _ (tuple2_sync _ _ text_kit.the_sync value_sync), tt)))

pub state_sync : IsSync state.the_row
state_sync = view_sync _ _ _ _ _ (recorded_sync _ _ _ state_inside.the_type.to_one (struct_sync (shape state_inside.the_type) (Vec-sync _ (tuple2_sync _ _ text_kit.the_sync value_sync), (bool_sync, tt))))

pub component_field_sync : IsSync (component.the_field).row
component_field_sync = struct_sync (shape component.the_type) (text_kit.the_sync, (option_field_sync _ value_sync, (owner_kit.the_field_sync, tt)))

pub component_sync : IsSync component.the_row
component_sync = recorded_sync _ _ _ component.the_type.to_one component_field_sync

pub change_field_sync : IsSync (change.the_field).row
change_field_sync = struct_sync (shape change.the_type) (component_field_sync, (value_field_sync, tt))

pub change_sync : IsSync change.the_row
change_sync = recorded_sync _ _ _ change.the_type.to_one change_field_sync

pub values_sync : IsSync values.the_row
values_sync = view_sync _ _ _ _ _ (recorded_sync _ _ _ values_inside.the_type.to_one (struct_sync (shape values_inside.the_type) (Vec-sync _ value_sync, tt)))

pub entry_field_sync : IsSync (entry.the_field).row
entry_field_sync = struct_sync (shape entry.the_type) (u32_sync, (u32_sync, (text_kit.the_sync, (text_kit.the_sync, (items_kit.the_sync _ change_sync, (values_sync, tt))))))

pub entry_sync : IsSync entry.the_row
entry_sync = recorded_sync _ _ _ entry.the_type.to_one entry_field_sync
