-- Threads may share and be sent these rows: written by tools/crossing_rows from the fields.
use denote.Ref.{NamedLft}
use denote.Struct.Declared.{shape}
use denote.Enum.Declared.{shape as shape_of}
use denote.Param.Send.{IsSync, shr_sync, struct_sync, recorded_sync, enum_sync}
use Rattle.std.proofs.Crossing.{Vec-sync}
use Rattle.std.proofs.MapsCrossing.{BTreeMap-sync}
use Rattle.pgo_base.proofs.name_map.NameMap.TheSendSync as name_map_kit
use Rattle.pgo_base.proofs.text.Text.TheSendSync as text_kit
use Rattle.pgo_base.specs.contracts.order.ValuePartialEq.TheImpl as value_eq
use Rattle.pgo_base.specs.contracts.order.ValuePartialOrd.TheImpl as value_partial_ord
use Rattle.pgo_code.specs.contracts.elements.Elements as elements
use Rattle.pgo_code.specs.contracts.instruction.Content as content
use Rattle.pgo_code.specs.contracts.instruction.Evaluation as evaluation
use Rattle.pgo_code.specs.contracts.instruction.Instruction as instruction
use Rattle.pgo_code.proofs.instruction.Target.TheSendSync as instruction_target_kit
use Rattle.pgo_code.proofs.instruction.Unmapped.TheSendSync as unmapped_kit
use Rattle.pgo_code.specs.contracts.program.Code as code
use Rattle.pgo_code.specs.contracts.program.Program as program
use Rattle.pgo_code.specs.contracts.program.Section as section
use Rattle.pgo_code.proofs.program.Variable.TheSendSync as variable_kit
use Rattle.pgo_execute.proofs.Crossing_pgo_base.{sub_sync, value_sync, defs_sync}
use Rattle.pgo_execute.proofs.Crossing_pgo_syntax.{bound_sync}
use Rattle.pgo_execute.proofs.Crossing_pgo_rewrite.{mapped_field_sync}
use Rattle.pgo_execute.proofs.Crossing_pgo_base.{option_field_sync, bool_sync, u32_sync, usize_sync}

pub elements_field_sync : IsSync (elements.the_field).row
elements_field_sync = struct_sync (shape elements.the_type) (name_map_kit.the_field_sync _ (BTreeMap-sync _ _ _ value_eq.ghosts value_partial_ord.ghosts value_sync u32_sync), tt)

pub elements_sync : IsSync elements.the_row
elements_sync = recorded_sync _ _ _ elements.the_type.to_one elements_field_sync

pub evaluation_field_sync : IsSync (evaluation.the_field).row
evaluation_field_sync = struct_sync (shape evaluation.the_type) (sub_sync, (Vec-sync _ unmapped_kit.the_sync, tt))

pub evaluation_sync : IsSync evaluation.the_row
evaluation_sync = recorded_sync _ _ _ evaluation.the_type.to_one evaluation_field_sync

pub content_field_sync : (a : NamedLft) → IsSync (content.the_field a).row
content_field_sync a = struct_sync (shape (content.the_type a)) (mapped_field_sync a, (bool_sync, (option_field_sync _ u32_sync, tt)))

pub content_sync : (a : NamedLft) → IsSync (content.the_row a)
content_sync a = recorded_sync _ _ _ (content.the_type a).to_one (content_field_sync a)

pub instruction_field_sync : (a : NamedLft) → IsSync (instruction.the_field a).row
instruction_field_sync a = enum_sync (shape_of (instruction.the_type a)) ((text_kit.the_sync, (evaluation_field_sync, tt)), ((text_kit.the_sync, (evaluation_field_sync, tt)), (tt, ((instruction_target_kit.the_field_sync, (text_kit.the_sync, tt)), ((instruction_target_kit.the_field_sync, (evaluation_field_sync, tt)), ((evaluation_field_sync, tt), ((evaluation_field_sync, tt), ((evaluation_field_sync, tt), ((evaluation_field_sync, (usize_sync, tt)), ((Vec-sync _ usize_sync, tt), ((usize_sync, tt), ((text_kit.the_sync, tt), ((text_kit.the_sync, (content_field_sync a, (option_field_sync _ text_kit.the_sync, tt))), ((content_field_sync a, (option_field_sync _ text_kit.the_sync, (text_kit.the_sync, tt))), (tt, tt)))))))))))))))

pub instruction_sync : (a : NamedLft) → IsSync (instruction.the_row a)
instruction_sync a = recorded_sync _ _ _ (instruction.the_type a).to_one (instruction_field_sync a)

pub section_field_sync : (a : NamedLft) → IsSync (section.the_field a).row
section_field_sync a = struct_sync (shape (section.the_type a)) (text_kit.the_sync, (Vec-sync _ (instruction_sync a), tt))

pub section_sync : (a : NamedLft) → IsSync (section.the_row a)
section_sync a = recorded_sync _ _ _ (section.the_type a).to_one (section_field_sync a)

pub code_field_sync : (a : NamedLft) → IsSync (code.the_field a).row
code_field_sync a = struct_sync (shape (code.the_type a)) (Vec-sync _ variable_kit.the_sync, (Vec-sync _ (section_sync a), tt))

pub code_sync : (a : NamedLft) → IsSync (code.the_row a)
code_sync a = recorded_sync _ _ _ (code.the_type a).to_one (code_field_sync a)

pub program_field_sync : (a : NamedLft) → IsSync (program.the_field a).row
program_field_sync a = struct_sync (shape (program.the_type a)) (shr_sync _ _ _ bound_sync, (defs_sync, (elements_field_sync, (Vec-sync _ (code_sync a), tt))))

pub program_sync : (a : NamedLft) → IsSync (program.the_row a)
program_sync a = recorded_sync _ _ _ (program.the_type a).to_one (program_field_sync a)
