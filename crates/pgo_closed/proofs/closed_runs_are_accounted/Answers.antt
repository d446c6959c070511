use Rattle.std.proofs.Common.{Some, length}
use Rattle.std.specs.Prelude.{if◌then◌else◌, nat_eq}
use Rattle.pgo_model.specs.Core.{Reaches, Done, end_by, end_or_spent, is_at_done, rules_of}
use Rattle.pgo_model.specs.Machine.{state_at}
use Rattle.pgo_model.specs.MachineLists.{nth_below}
use Rattle.pgo_section.specs.Programs.{IsGood}
use Rattle.pgo_closed.specs.SystemRuns.{left, program, world}
use Rattle.pgo_closed.proofs.ClosedRuns as closed
use Rattle.pgo_closed.proofs.Ends.{has_end}
use Rattle.pgo_closed.proofs.closed_runs_are_accounted.Goals as goal

pub returns-clause-reached : goal.returns-clause-reached
returns-clause-reached c y tree settings entries notes ws bs told premises run p le = closed.reached (world y tree settings) (program y tree settings) (Reaches y) (IsGood y) premises entries notes ws bs told run p le

pub returns-clause-made : goal.returns-clause-made
returns-clause-made c y tree settings entries notes ws bs told premises run = closed.entries_made (world y tree settings) (program y tree settings) (Reaches y) (IsGood y) premises entries notes ws bs told run

pub returns-clause-accounts : goal.returns-clause-accounts
returns-clause-accounts c y tree settings entries notes ws bs told premises run k = closed.accounts (world y tree settings) (program y tree settings) (Reaches y) (IsGood y) premises entries notes ws bs told run k

pub returns-clause-joint : goal.returns-clause-joint
returns-clause-joint c y tree settings entries notes ws bs told premises run = closed.joint (world y tree settings) (program y tree settings) (Reaches y) (IsGood y) premises entries notes ws bs told run

pub returns-clause-ended : goal.returns-clause-ended
returns-clause-ended c y tree settings entries notes ws bs told premises run k i at_k =
    let f = left y tree settings entries notes ws in
    has_end (is_at_done y k (state_at (rules_of y settings) y.start entries (length entries))) (f.records k) (nat_eq (length (f.records k)) settings.attempts)
    (closed.has_end (world y tree settings) (program y tree settings) (Reaches y) (IsGood y) premises entries notes ws bs told run k (nth_below y.members k i at_k))

pub returns-clause-ends : goal.returns-clause-ends
returns-clause-ends c y tree settings entries notes ws bs told premises run k l =
    let is_done = closed.done_at_end (world y tree settings) (program y tree settings) (Reaches y) (IsGood y) premises entries notes ws bs told run k l in
    let same = closed.records_here (world y tree settings) (program y tree settings) (Reaches y) (IsGood y) premises entries notes ws bs told run k l in
    λ i. if is_done i then Some Done else end_or_spent (end_by (same i)) (nat_eq (length (same i)) settings.attempts)

pub returns-clause-undone : goal.returns-clause-undone
returns-clause-undone c y tree settings entries notes ws bs told premises run k e = closed.undone (world y tree settings) (program y tree settings) (Reaches y) (IsGood y) premises entries notes ws bs told run k e
