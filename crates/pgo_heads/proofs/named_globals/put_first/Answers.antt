use Rattle.std.proofs.Common.{cond, Some, ap, ◌∙◌}
use Rattle.pgo_base.specs.Lookup.{same_name}
use Rattle.pgo_heads.specs.NameMaps.{found}
use Rattle.pgo_heads.proofs.named_globals.put_first.Goals as goal

pub returns : goal.returns
returns c = λ n.
    c.in_ok-set.ensures.noted n
    ∙ ap (λ v. cond (same_name n c.args.g.now.declaration.now.name.name) (Some v) (found c.args.known.now n)) c.has_no_elements.ensures
