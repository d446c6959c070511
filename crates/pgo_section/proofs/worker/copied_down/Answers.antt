use Rattle.std.proofs.Common.{rules, arith}
use Rattle.std.proofs.lemmas.Grind.{common_steps}
use Rattle.pgo_section.proofs.worker.copied_down.Goals as goal

pub loop-pair-preserved : goal.loop-pair-preserved
loop-pair-preserved c = let items = c.in_ok-push_pair.ensures.items in record { same = first_of (search rules, grind (arith, common_steps)); listed = c.in_ok-push_pair.ensures.listed }
