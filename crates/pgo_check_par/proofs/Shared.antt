-- Threads may share the entries of a log and what they are checked against.
use denote.Ref.{NamedLft}
use denote.Struct.Declared.{shape}
use denote.Param.Send.{IsSync, shr_sync, shr_slice_sync, struct_sync, recorded_sync}
use Rattle.pgo_check_par.specs.contracts.checker.Look as look
use Rattle.pgo_check_par.proofs.Crossing_pgo_base.{entry_sync, value_sync}
use Rattle.pgo_check_par.proofs.Crossing_pgo_check.{assigned_sync}

pub look_field_sync : (a m : NamedLft) → IsSync (look.the_field a m).row
look_field_sync a m = struct_sync (shape (look.the_type a m)) (shr_sync _ _ _ (assigned_sync m), (shr_slice_sync _ _ _ value_sync, (shr_slice_sync _ _ _ entry_sync, tt)))

pub look_sync : (a m : NamedLft) → IsSync (look.the_row a m)
look_sync a m = recorded_sync _ _ _ (look.the_type a m).to_one (look_field_sync a m)
