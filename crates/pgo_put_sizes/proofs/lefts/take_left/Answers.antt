use Rattle.std.proofs.Common.{◌≡◌, ap, subst, sym, ◌∙◌}
use Rattle.std.specs.Prelude.{IfOk}
use Rattle.pgo_put_sizes.specs.Lefts.{name_nodes, steps_nodes}
use Rattle.pgo_put_sizes.proofs.LeftLaws.{left_is}
use Rattle.pgo_sizes.specs.Left.{left_after}
use Rattle.pgo_sizes.proofs.NodesIn.{less_left, both_left}
use Rattle.pgo_put_sizes.proofs.lefts.take_left.Goals as goal

pub returns-in-None : goal.returns-in-None
returns-in-None c =
    let ls = c.args.layers.now in let l = c.args.side.now in
    sym (less_left c.args.left (name_nodes ls l.name.name) (steps_nodes ls l.path) (sym c.in_ok-before.ensures ∙ c.in-None.is)) ∙ ap (left_after c.args.left) (left_is ls l)

pub returns-in-Some : goal.returns-in-Some
returns-in-Some c =
    let ls = c.args.layers.now in let l = c.args.side.now in
    subst (λ x. IfOk c.take_steps.result (λ o. o ≡ x))
    (ap (λ p. left_after c.in-Some.rest (steps_nodes ls p)) c.as_slice.ensures
    ∙ both_left c.args.left (name_nodes ls l.name.name) (steps_nodes ls l.path) c.in-Some.rest (sym c.in_ok-before.ensures ∙ c.in-Some.is) ∙ ap (left_after c.args.left) (left_is ls l))
    c.take_steps.ensures
