-- Threads may share and be sent these rows: written by tools/crossing_rows from the fields.
use denote.Struct.Declared.{shape}
use denote.Enum.Declared.{shape as shape_of}
use denote.Param.Send.{IsSync, sendable, struct_sync, recorded_sync, enum_sync}
use Rattle.std.proofs.Crossing.{crosses}
use Rattle.pgo_base.proofs.items.Items.TheSendSync as items_kit
use Rattle.pgo_base.proofs.text.Text.TheSendSync as text_kit
use Rattle.pgo_syntax.specs.contracts.archetype.Archetype as archetype
use Rattle.pgo_syntax.proofs.archetype.Extent.TheSendSync as archetype_extent_kit
use Rattle.pgo_syntax.proofs.archetype.Parameter.TheSendSync as parameter_kit
use Rattle.pgo_syntax.specs.contracts.assignment.Assignment as assignment
use Rattle.pgo_syntax.specs.contracts.assignment.Left as left
use Rattle.pgo_syntax.specs.contracts.assignment.Step as step
use Rattle.pgo_syntax.specs.contracts.binding.Origin as origin
use Rattle.pgo_syntax.specs.contracts.binding.WithName as with_name
use Rattle.pgo_syntax.specs.contracts.bound.Binding as binding
use Rattle.pgo_syntax.specs.contracts.bound.Bound as bound
use Rattle.pgo_syntax.specs.contracts.bound.Instance as instance
use Rattle.pgo_syntax.specs.contracts.bound.Mapping as mapping
use Rattle.pgo_syntax.specs.contracts.bound.Resource as resource
use Rattle.pgo_syntax.specs.contracts.bound.Target as target
use Rattle.pgo_syntax.specs.contracts.declaration.Declaration as declaration
use Rattle.pgo_syntax.specs.contracts.declaration.Definition as definition
use Rattle.pgo_syntax.specs.contracts.macros.Macro as macro
use Rattle.pgo_syntax.specs.contracts.macros.MappingMacro as mapping_macro
use Rattle.pgo_syntax.proofs.name.PlacedName.TheSendSync as placed_name_kit
use Rattle.pgo_syntax.specs.contracts.process.Argument as argument
use Rattle.pgo_syntax.proofs.process.MappingClause.TheSendSync as mapping_clause_kit
use Rattle.pgo_syntax.specs.contracts.process.Process as process
use Rattle.pgo_syntax.specs.contracts.spec.Spec as spec
use Rattle.pgo_syntax.proofs.statement.Alternatives.TheLaws.TheKnot as alternatives_knot
use Rattle.pgo_syntax.specs.contracts.statement.Block as block
use Rattle.pgo_execute.proofs.Crossing_pgo_base.{sub_sync, exprs_sync, value_sync, value_field_sync, defs_sync, state_sync}
use Rattle.pgo_execute.proofs.Crossing_pgo_base.{option_field_sync, u32_sync}

pub definition_field_sync : IsSync (definition.the_field).row
definition_field_sync = struct_sync (shape definition.the_type) (placed_name_kit.the_field_sync, (items_kit.the_sync _ placed_name_kit.the_sync, (sub_sync, tt)))

pub definition_sync : IsSync definition.the_row
definition_sync = recorded_sync _ _ _ definition.the_type.to_one definition_field_sync

pub step_field_sync : IsSync (step.the_field).row
step_field_sync = enum_sync (shape_of step.the_type) ((sub_sync, tt), ((text_kit.the_sync, tt), tt))

pub step_sync : IsSync step.the_row
step_sync = recorded_sync _ _ _ step.the_type.to_one step_field_sync

pub left_field_sync : IsSync (left.the_field).row
left_field_sync = struct_sync (shape left.the_type) (placed_name_kit.the_field_sync, (items_kit.the_sync _ step_sync, tt))

pub left_sync : IsSync left.the_row
left_sync = recorded_sync _ _ _ left.the_type.to_one left_field_sync

pub assignment_field_sync : IsSync (assignment.the_field).row
assignment_field_sync = struct_sync (shape assignment.the_type) (left_field_sync, (sub_sync, tt))

pub assignment_sync : IsSync assignment.the_row
assignment_sync = recorded_sync _ _ _ assignment.the_type.to_one assignment_field_sync

pub origin_field_sync : IsSync (origin.the_field).row
origin_field_sync = enum_sync (shape_of origin.the_type) ((sub_sync, tt), ((sub_sync, tt), tt))

pub origin_sync : IsSync origin.the_row
origin_sync = recorded_sync _ _ _ origin.the_type.to_one origin_field_sync

pub with_name_field_sync : IsSync (with_name.the_field).row
with_name_field_sync = struct_sync (shape with_name.the_type) (placed_name_kit.the_field_sync, (origin_field_sync, tt))

pub with_name_sync : IsSync with_name.the_row
with_name_sync = recorded_sync _ _ _ with_name.the_type.to_one with_name_field_sync

pub block_sync : IsSync block.the_row
block_sync = search (sendable, crosses, alternatives_knot.crosses, assignment_sync, exprs_sync, items_kit.the_sync, placed_name_kit.the_sync, sub_sync, with_name_sync) depth 30

pub macro_field_sync : IsSync (macro.the_field).row
macro_field_sync = struct_sync (shape macro.the_type) (placed_name_kit.the_field_sync, (items_kit.the_sync _ placed_name_kit.the_sync, (block_sync, tt)))

pub macro_sync : IsSync macro.the_row
macro_sync = recorded_sync _ _ _ macro.the_type.to_one macro_field_sync

pub mapping_macro_field_sync : IsSync (mapping_macro.the_field).row
mapping_macro_field_sync = struct_sync (shape mapping_macro.the_type) (placed_name_kit.the_field_sync, (block_sync, (block_sync, tt)))

pub mapping_macro_sync : IsSync mapping_macro.the_row
mapping_macro_sync = recorded_sync _ _ _ mapping_macro.the_type.to_one mapping_macro_field_sync

pub declaration_field_sync : IsSync (declaration.the_field).row
declaration_field_sync = struct_sync (shape declaration.the_type) (placed_name_kit.the_field_sync, (option_field_sync _ origin_sync, tt))

pub declaration_sync : IsSync declaration.the_row
declaration_sync = recorded_sync _ _ _ declaration.the_type.to_one declaration_field_sync

pub archetype_field_sync : IsSync (archetype.the_field).row
archetype_field_sync = struct_sync (shape archetype.the_type) (placed_name_kit.the_field_sync, (items_kit.the_sync _ parameter_kit.the_sync, (items_kit.the_sync _ declaration_sync, (block_sync, tt))))

pub archetype_sync : IsSync archetype.the_row
archetype_sync = recorded_sync _ _ _ archetype.the_type.to_one archetype_field_sync

pub argument_field_sync : IsSync (argument.the_field).row
argument_field_sync = enum_sync (shape_of argument.the_type) ((u32_sync, (sub_sync, tt)), ((placed_name_kit.the_field_sync, (archetype_extent_kit.the_field_sync, tt)), tt))

pub argument_sync : IsSync argument.the_row
argument_sync = recorded_sync _ _ _ argument.the_type.to_one argument_field_sync

pub process_field_sync : IsSync (process.the_field).row
process_field_sync = struct_sync (shape process.the_type) (placed_name_kit.the_field_sync, (origin_field_sync, (placed_name_kit.the_field_sync, (items_kit.the_sync _ argument_sync, (items_kit.the_sync _ mapping_clause_kit.the_sync, tt)))))

pub process_sync : IsSync process.the_row
process_sync = recorded_sync _ _ _ process.the_type.to_one process_field_sync

pub spec_field_sync : IsSync (spec.the_field).row
spec_field_sync = struct_sync (shape spec.the_type) (placed_name_kit.the_field_sync, (items_kit.the_sync _ placed_name_kit.the_sync, (items_kit.the_sync _ placed_name_kit.the_sync, (items_kit.the_sync _ definition_sync, (placed_name_kit.the_field_sync, (option_field_sync _ (items_kit.the_sync _ definition_sync), (items_kit.the_sync _ macro_sync, (items_kit.the_sync _ mapping_macro_sync, (items_kit.the_sync _ archetype_sync, (items_kit.the_sync _ declaration_sync, (items_kit.the_sync _ process_sync, tt)))))))))))

pub spec_sync : IsSync spec.the_row
spec_sync = recorded_sync _ _ _ spec.the_type.to_one spec_field_sync

pub mapping_field_sync : IsSync (mapping.the_field).row
mapping_field_sync = enum_sync (shape_of mapping.the_type) (tt, ((mapping_macro_field_sync, tt), tt))

pub mapping_sync : IsSync mapping.the_row
mapping_sync = recorded_sync _ _ _ mapping.the_type.to_one mapping_field_sync

pub target_field_sync : IsSync (target.the_field).row
target_field_sync = enum_sync (shape_of target.the_type) ((sub_sync, tt), ((text_kit.the_sync, (archetype_extent_kit.the_field_sync, (option_field_sync _ mapping_sync, tt))), tt))

pub target_sync : IsSync target.the_row
target_sync = recorded_sync _ _ _ target.the_type.to_one target_field_sync

pub binding_field_sync : IsSync (binding.the_field).row
binding_field_sync = struct_sync (shape binding.the_type) (text_kit.the_sync, (target_field_sync, tt))

pub binding_sync : IsSync binding.the_row
binding_sync = recorded_sync _ _ _ binding.the_type.to_one binding_field_sync

pub instance_field_sync : IsSync (instance.the_field).row
instance_field_sync = struct_sync (shape instance.the_type) (u32_sync, (value_field_sync, (text_kit.the_sync, (archetype_field_sync, (items_kit.the_sync _ binding_sync, tt)))))

pub instance_sync : IsSync instance.the_row
instance_sync = recorded_sync _ _ _ instance.the_type.to_one instance_field_sync

pub resource_field_sync : IsSync (resource.the_field).row
resource_field_sync = struct_sync (shape resource.the_type) (u32_sync, (text_kit.the_sync, (option_field_sync _ value_sync, tt)))

pub resource_sync : IsSync resource.the_row
resource_sync = recorded_sync _ _ _ resource.the_type.to_one resource_field_sync

pub bound_field_sync : IsSync (bound.the_field).row
bound_field_sync = struct_sync (shape bound.the_type) (spec_field_sync, (defs_sync, (items_kit.the_sync _ instance_sync, (items_kit.the_sync _ resource_sync, (state_sync, tt)))))

pub bound_sync : IsSync bound.the_row
bound_sync = recorded_sync _ _ _ bound.the_type.to_one bound_field_sync
