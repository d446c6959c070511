-- Threads may share and be sent these rows: written by tools/crossing_rows from the fields.
use denote.Struct.Declared.{shape}
use denote.Param.Send.{IsSend, struct_send, recorded_send, view_send, plain_send}
use Rattle.std.proofs.Crossing.{Vec-send}
use Rattle.pgo_journal.specs.contracts.journal.Journal as journal
use Rattle.pgo_journal.specs.contracts.journal.Journal.TheInside as journal_inside
use Rattle.pgo_syntax.proofs.records.Note.TheSendSync as note_kit
use Rattle.pgo_shared.proofs.Crossing_pgo_base.{state_send, entry_send}
use Rattle.pgo_shared.proofs.Crossing_pgo_base.{u32_send}

pub u64_send : IsSend denote.Builtin.u64
u64_send = plain_send _ _ _ _ _

pub journal_send : IsSend journal.the_row
journal_send = view_send _ _ _ _ _ (recorded_send _ _ _ journal_inside.the_type.to_one (struct_send (shape journal_inside.the_type) (state_send, (Vec-send _ entry_send, (Vec-send _ note_kit.the_send, (u32_send, (u64_send, tt)))))))
