-- A job may be sent to a thread where what stands for a place and the board may.
use denote.RattleType.{RattleType}
use denote.Struct.Declared.{shape}
use denote.Param.Send.{IsSend, struct_send, recorded_send}
use Rattle.pgo_threads.specs.contracts.jobs.Job as job
use Rattle.pgo_threads.proofs.Crossing_pgo_base.{bool_send}
use Rattle.pgo_threads.proofs.Crossing_pgo_section.{worker_field_send}

pub job_send : (P B C : RattleType) → IsSend P → IsSend B → IsSend (job.the_row P B C)
job_send P B C p b = recorded_send _ _ _ (job.the_type P B C).to_one (struct_send (shape (job.the_type P B C)) (worker_field_send P p, (b, (bool_send, tt))))
