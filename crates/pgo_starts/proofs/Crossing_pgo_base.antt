-- Threads may share and be sent these rows: written by tools/crossing_rows from the fields.
use denote.RattleType.{RattleType}
use denote.Enum.Declared.{shape as shape_of}
use denote.Param.Send.{IsSend, sendable, plain_send, recorded_send, enum_send}
use Rattle.std.proofs.Crossing.{crosses}
use Rattle.pgo_base.proofs.extent.Extent.TheSendSync as extent_kit
use Rattle.pgo_base.proofs.text.Text.TheSendSync as text_kit
use Rattle.pgo_base.specs.contracts.value.Fun as fun
use Rattle.pgo_base.proofs.value.Fun.TheLaws.TheKnot as fun_knot
use Rattle.pgo_base.specs.contracts.value.Set as set
use Rattle.pgo_base.specs.contracts.value.Value as value
use denote.Builtin
use Rattle.std.specs.contracts.option.Option as option

pub option_field_send : (T : RattleType) → IsSend T → IsSend (option.the_field T).row
option_field_send T s = enum_send (shape_of (option.the_type T)) (tt, ((s, tt), tt))

pub option_send : (T : RattleType) → IsSend T → IsSend (option.the_row T)
option_send T s = recorded_send _ _ _ (option.the_type T).to_one (option_field_send T s)

pub bool_send : IsSend denote.Builtin.bool
bool_send = plain_send _ _ _ _ _

pub i64_send : IsSend denote.Builtin.i64
i64_send = plain_send _ _ _ _ _

pub u64_send : IsSend denote.Builtin.u64
u64_send = plain_send _ _ _ _ _

pub usize_send : IsSend denote.Builtin.usize
usize_send = plain_send _ _ _ _ _

pub set_send : IsSend set.the_row
set_send = search (sendable, crosses, fun_knot.crosses, extent_kit.the_send, extent_kit.the_sync, text_kit.the_send, text_kit.the_sync) depth 30

pub fun_send : IsSend fun.the_row
fun_send = search (sendable, crosses, fun_knot.crosses, extent_kit.the_send, extent_kit.the_sync, text_kit.the_send, text_kit.the_sync) depth 30

pub value_field_send : IsSend (value.the_field).row
value_field_send = enum_send (shape_of value.the_type) ((bool_send, tt), ((i64_send, tt), ((text_kit.the_send, tt), ((text_kit.the_send, tt), ((set_send, tt), ((fun_send, tt), tt))))))

pub value_send : IsSend value.the_row
value_send = recorded_send _ _ _ value.the_type.to_one value_field_send
