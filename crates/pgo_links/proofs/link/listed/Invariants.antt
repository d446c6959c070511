use Rattle.std.proofs.Common.{◌≡◌, drop}
use Rattle.pgo_model.specs.Core.{is_listed}
use Rattle.pgo_links.proofs.link.listed.Given as goal

abbrev pub invariant-loop-pair : goal.invariant-loop-pair
invariant-loop-pair l = is_listed l.pair-items l.resource l.number ≡ is_listed (drop l.pair-index l.pair-items) l.resource l.number
