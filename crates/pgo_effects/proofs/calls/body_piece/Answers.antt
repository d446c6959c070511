use Rattle.std.proofs.Common.{◌≡◌, ap, ◌∙◌, map, take, List}
use Rattle.pgo_base.specs.ExprView.{tree}
use Rattle.pgo_syntax.specs.Statement.{labeled}
use Rattle.pgo_syntax.specs.declared.name.PlacedName.{PlacedName}
use Rattle.pgo_sections.specs.Code.{in_turn}
use Rattle.pgo_meaning.specs.MacrosPlaced.{handed, placed_among, bodies}
use Rattle.pgo_effects.specs.Around.{around_view}
use Rattle.pgo_effects.proofs.CallLaws.{body_code}
use Rattle.pgo_effects.proofs.calls.body_piece.Goals as goal

pub returns : goal.returns
returns c =
    let a = around_view c.args.around.now in let m = c.args.called.of.now in let ts = map tree c.args.list.now in
    let es = handed (map (λ p. p.name) m.params) ts in
    let ee : c.in_ok-arguments.arguments ≡ es = c.in_ok-arguments.ensures ∙ ap (λ (l : List PlacedName). handed (map (λ p. p.name) l) ts) c.as_slice.ensures in
    λ s n. c.last_alone.ensures s ∙ ap in_turn (c.in_ok-todos.ensures s) ∙ body_code s a n c.in_ok-arguments.arguments es (placed_among (bodies (take c.args.called.place c.args.around.now.macros)) (labeled m.body)) ee
