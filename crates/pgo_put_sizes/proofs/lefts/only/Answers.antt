use Rattle.pgo_put_sizes.proofs.LeftLaws.{not_one}
use Rattle.pgo_put_sizes.proofs.lefts.only.Goals as goal

pub returns-else-items-eq1 : goal.returns-else-items-eq1
returns-else-items-eq1 c = not_one c.as_slice-items.result.now c.args.list.now c.as_slice-items.ensures c.if-items-eq1.false
