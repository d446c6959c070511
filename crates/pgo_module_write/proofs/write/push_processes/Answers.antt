use Rattle.pgo_model.specs.ModuleView.{process_view}
use Rattle.pgo_model.specs.ModuleText.{process_lines}
use Rattle.pgo_module_write.proofs.Joins.{each_seen}
use Rattle.pgo_module_write.proofs.write.push_processes.Goals as goal

pub loop-p-preserved : goal.loop-p-preserved
loop-p-preserved c =
    each_seen process_view process_lines c.args.processes.now c.loop-p.p-index c.p-item.result c.loop-p.bytes.items c.push_process.new.bytes.items _ c.loop-p-test.true c.p-item.is c.in_ok-push_process.ensures c.loop-p.invariant
