-- The choice that is made.
use Rattle.std.proofs.Common.{◌∷◌, ap, sym, ◌∙◌}
use Rattle.std.proofs.lemmas.Result.{IfOk-weaker}
use Rattle.pgo_resource.specs.Picked.{choices_of}
use Rattle.pgo_places.specs.PlaceView.{stand_view}
use Rattle.pgo_places.proofs.Picks.{choice_is}
use Rattle.pgo_places.proofs.stand.Stand.pick.Goals as goal

pub returns-clause-makes : goal.returns-clause-makes
returns-clause-makes c =
    let s = stand_view c.args.self.now in
    IfOk-weaker c.next_below.result _ _
    (λ i h. λ j. record s { first = c.next_below.ensures.first j; words = c.next_below.ensures.words j; progress = record s.progress { points = (h ∙ ap (λ x. x ∷ choices_of c.args.self.now.picks) (sym (choice_is c.args.n i c.requires))) j } })
    c.next_below.ensures.made
