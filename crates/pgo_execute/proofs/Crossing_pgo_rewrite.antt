-- Threads may share and be sent these rows: written by tools/crossing_rows from the fields.
use denote.Ref.{NamedLft}
use denote.Struct.Declared.{shape}
use denote.Param.Send.{IsSync, shr_sync, struct_sync, recorded_sync}
use Rattle.pgo_base.proofs.text.Text.TheSendSync as text_kit
use Rattle.pgo_rewrite.specs.contracts.mapped.Mapped as mapped
use Rattle.pgo_execute.proofs.Crossing_pgo_syntax.{mapping_sync}
use Rattle.pgo_execute.proofs.Crossing_pgo_base.{bool_sync}

pub mapped_field_sync : (a : NamedLft) → IsSync (mapped.the_field a).row
mapped_field_sync a = struct_sync (shape (mapped.the_type a)) (shr_sync _ _ _ text_kit.the_sync, (bool_sync, (shr_sync _ _ _ mapping_sync, tt)))

pub mapped_sync : (a : NamedLft) → IsSync (mapped.the_row a)
mapped_sync a = recorded_sync _ _ _ (mapped.the_type a).to_one (mapped_field_sync a)
