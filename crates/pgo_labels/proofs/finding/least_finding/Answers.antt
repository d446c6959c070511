use Rattle.std.proofs.Common.{None, Some, ap, ◌∙◌}
use Rattle.pgo_labels.specs.Lent.{lent}
use Rattle.pgo_labels.proofs.Found.{found_least}
use Rattle.pgo_labels.proofs.finding.least_finding.Goals as goal

pub returns-in-None : goal.returns-in-None
returns-in-None c = found_least c.args.rule c.args.owner.now (lent c.args.names.now) None c.in-None.ensures

pub returns-in_ok-found-in-Some : goal.returns-in_ok-found-in-Some
returns-in_ok-found-in-Some c =
    ap Some c.in_ok-found-in-Some.ensures ∙ found_least c.args.rule c.args.owner.now (lent c.args.names.now) (Some c.in-Some.name.now) c.in-Some.ensures
