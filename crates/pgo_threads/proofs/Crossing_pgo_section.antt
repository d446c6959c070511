-- Threads may share and be sent these rows: written by tools/crossing_rows from the fields.
use denote.RattleType.{RattleType}
use denote.Struct.Declared.{shape}
use denote.Param.Send.{IsSend, struct_send, recorded_send}
use Rattle.std.proofs.Crossing.{Vec-send}
use Rattle.pgo_section.specs.contracts.worker.Worker as worker
use Rattle.pgo_syntax.proofs.records.AttemptResult.TheSendSync as attempt_result_kit
use Rattle.pgo_syntax.proofs.records.Settings.TheSendSync as settings_kit
use Rattle.pgo_threads.proofs.Crossing_pgo_base.{state_send}
use Rattle.pgo_threads.proofs.Crossing_pgo_base.{option_field_send, bool_send, u32_send, usize_send}

pub worker_field_send : (P : RattleType) → IsSend P → IsSend (worker.the_field P).row
worker_field_send P p = struct_send (shape (worker.the_type P)) (u32_send, (settings_kit.the_field_send, (Vec-send _ attempt_result_kit.the_send, (state_send, (option_field_send _ p, (usize_send, (bool_send, (Vec-send _ u32_send, (bool_send, (bool_send, tt))))))))))

pub worker_send : (P : RattleType) → IsSend P → IsSend (worker.the_row P)
worker_send P p = recorded_send _ _ _ (worker.the_type P).to_one (worker_field_send P p)
