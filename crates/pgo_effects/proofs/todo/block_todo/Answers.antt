use Rattle.std.proofs.Common.{ap, ◌∙◌, [], map}
use Rattle.pgo_syntax.specs.Statement.{labeled}
use Rattle.pgo_syntax.specs.StatementView.{labeled_pair}
use Rattle.pgo_meaning.specs.MacrosPlaced.{bodies, placed_among}
use Rattle.pgo_meaning.specs.Parameters.{block_setting}
use Rattle.pgo_meaning.specs.Statements.{in_order}
use Rattle.pgo_effects.specs.declared.todo.Part.TheVariants.{Order}
use Rattle.pgo_effects.specs.Todos.{part_code}
use Rattle.pgo_effects.proofs.BodyLaws.{among_alone}
use Rattle.pgo_effects.proofs.todo.block_todo.Goals as goal

pub returns : goal.returns
returns c =
    let list = labeled (map labeled_pair c.args.list.now) in
    ap (λ a. part_code block_setting a (Order c.args.list)) c.in_ok-around.ensures
    ∙ ap (λ ms. in_order block_setting [] (placed_among (bodies ms) list)) c.in_ok-macros.ensures
    ∙ ap (in_order block_setting []) (among_alone list)
