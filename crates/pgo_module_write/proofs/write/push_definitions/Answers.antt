use Rattle.pgo_model.specs.ModuleView.{defined_view}
use Rattle.pgo_model.specs.ModuleText.{defined_lines}
use Rattle.pgo_module_write.proofs.Joins.{each_seen}
use Rattle.pgo_module_write.proofs.write.push_definitions.Goals as goal

pub loop-d-preserved : goal.loop-d-preserved
loop-d-preserved c =
    each_seen defined_view defined_lines c.args.definitions.now c.loop-d.d-index c.d-item.result c.loop-d.bytes.items c.push_defined.new.bytes.items _ c.loop-d-test.true c.d-item.is c.in_ok-push_defined.ensures c.loop-d.invariant
