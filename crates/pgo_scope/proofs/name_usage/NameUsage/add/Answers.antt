use Rattle.std.proofs.Common.{◌≡◌, cond, ap, ◌∙◌}
use Rattle.std.specs.Prelude.{Some}
use Rattle.pgo_base.specs.Lookup.{same_name}
use Rattle.pgo_base.specs.NameMaps.{found}
use Rattle.pgo_scope.specs.NameUsage.{or_no_usage}
use Rattle.pgo_scope.specs.Usage.{either_usage}
use Rattle.pgo_scope.proofs.Gathering.{added}
use Rattle.pgo_scope.proofs.name_usage.NameUsage.add.Goals as goal

pub returns : goal.returns
returns c = λ p.
    let old = c.args.self.now.map in
    let name = c.args.name.now in
    let all : c.either_usage-all.result ≡ either_usage (or_no_usage (found old name)) c.args.usage = c.either_usage-all.ensures ∙ ap (λ v. either_usage v c.args.usage) c.of.ensures in
    added (found old) (found c.set.new.self p) name p c.args.usage
    (c.in_ok-set.ensures.noted p ∙ ap (λ w. cond (same_name p name) (Some w) (found old p)) all)
