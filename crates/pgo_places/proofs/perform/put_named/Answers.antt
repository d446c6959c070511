-- What the name stands for.
use Rattle.std.proofs.Common.{◌≡◌, Some, ap, sym, ◌∙◌, map, reverse, subst}
use Rattle.std.specs.Prelude.{IsSome}
use Rattle.std.proofs.lemmas.Result.{IfOk-weaker}
use Rattle.pgo_base.specs.BindingsView.{named_view}
use Rattle.pgo_base.specs.View.{data_of}
use Rattle.pgo_sections.specs.BoundValues.{value_under}
use Rattle.pgo_places.specs.PlaceView.{stand_view, fixed_view}
use Rattle.pgo_places.proofs.Puts.{puts_assign}
use Rattle.pgo_places.proofs.perform.put_named.Goals as goal

pub returns-clause-performs : goal.returns-clause-performs
returns-clause-performs g c =
    let s = stand_view c.args.stand.now in let w = c.args.name.now in
    let under : value_under w s.env ≡ Some (data_of c.in_ok-value.value) =
    sym (c.value_there.ensures ∙ ap (λ xs. value_under w (reverse (map named_view xs))) c.deref.ensures.value) ∙ ap (λ v. Some (data_of v)) (sym c.in_ok-value.ensures) in
    IfOk-weaker c.put.result _ _
    (λ f h a. puts_assign a (fixed_view c.args.frame.fixed.now) s (Some c.args.resource) w (data_of c.in_ok-value.value) f (stand_view c.put.new.stand)
    (g.R.Resource.shows c.args.content.now).current (g.R.Resource.shows c.put.new.content).current under h)
    c.put.ensures.puts

pub value_there-requires : goal.value_there-requires
value_there-requires g c = subst (λ xs. IsSome (value_under c.args.name.now (reverse (map named_view xs)))) (sym c.deref.ensures.value) c.requires
