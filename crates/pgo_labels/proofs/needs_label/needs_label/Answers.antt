use Rattle.std.proofs.Common.{[], None, Some, ap, ◌∙◌, sym}
use Rattle.pgo_labels.specs.declared.errors.LabelError.TheVariants.{NeedsLabel}
use Rattle.pgo_labels.specs.Findings.{found_at}
use Rattle.pgo_labels.specs.Labels.{labels}
use Rattle.pgo_labels.specs.Lent.{lent}
use Rattle.pgo_labels.specs.NeedsLabel as spec
use Rattle.pgo_labels.proofs.Found.{needed_least}
use Rattle.pgo_labels.proofs.needs_label.needs_label.Goals as goal

pub returns-in-None : goal.returns-in-None
returns-in-None c =
    needed_least c.args.a.now.name.name (labels c.args.a.now) (spec.missing c.args.a.now.name c.args.a.now.body) None (sym c.in-None.is ∙ c.in_ok-missing.ensures)

pub returns-in_ok-found-in-Some : goal.returns-in_ok-found-in-Some
returns-in_ok-found-in-Some c =
    let names = ap lent c.as_slice.ensures.value ∙ c.in_ok-labels-in-Some.ensures in
    let after = c.in_ok-after-in-Some.ensures ∙ ap (spec.last_before c.in-Some.place []) names in
    ap Some c.in_ok-found-in-Some.ensures
    ∙ ap (λ x. Some (found_at c.in-Some.place (NeedsLabel c.args.a.now.name.name x))) after
    ∙ needed_least c.args.a.now.name.name (labels c.args.a.now) (spec.missing c.args.a.now.name c.args.a.now.body) (Some c.in-Some.place) (sym c.in-Some.is ∙ c.in_ok-missing.ensures)
