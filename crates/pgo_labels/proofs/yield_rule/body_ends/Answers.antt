use Rattle.std.proofs.Common.{◌≡◌, ◌∙◌, map, ap, subst}
use Rattle.std.specs.Prelude.{IfOk}
use Rattle.pgo_syntax.specs.Statement.{labeled}
use Rattle.pgo_labels.specs.Parts.{see}
use Rattle.pgo_labels.specs.ItemEnds.{items_end}
use Rattle.pgo_labels.proofs.Ends.{labeled_end}
use Rattle.pgo_labels.proofs.yield_rule.body_ends.Goals as goal

pub returns : goal.returns
returns c =
    subst (λ x. IfOk c.row_ends.result (λ b. b ≡ x))
    (ap (λ l. items_end (map see l)) c.as_slice.ensures.value ∙ ap items_end c.in_ok-items.ensures ∙ labeled_end (labeled c.args.body.now))
    c.row_ends.ensures
