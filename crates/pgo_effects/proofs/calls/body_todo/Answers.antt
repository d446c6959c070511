use Rattle.std.proofs.Common.{ap, ◌∙◌, ◌∷◌}
use Rattle.pgo_syntax.specs.Statement.{labeled}
use Rattle.pgo_meaning.specs.MacrosPlaced.{placed_among, bodies}
use Rattle.pgo_meaning.specs.Statements.{in_order}
use Rattle.pgo_effects.specs.Around.{around_view, written_label}
use Rattle.pgo_effects.specs.Puts.{puts_among}
use Rattle.pgo_effects.proofs.calls.body_todo.Goals as goal

pub returns : goal.returns
returns c =
    let e = ap (λ v. v.items) c.in_ok-layers.ensures.ok ∙ c.in_ok-within.ensures ∙ ap (λ l. c.args.arguments ∷ l) (c.deref-2.ensures.value ∙ ap (λ v. v.items) c.deref.ensures) in
    λ s. let l = written_label s (around_view c.args.around.now).label in
    (λ i. in_order s l (puts_among (e i) (placed_among (bodies (c.in_ok-macros.ensures i)) (labeled (c.as_slice.ensures i)))))
