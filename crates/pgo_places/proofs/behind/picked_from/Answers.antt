-- One of the members.
use Rattle.std.proofs.Common.{ap, ◌∙◌, sym, map, option_map}
use Rattle.pgo_base.specs.View.{data_of}
use Rattle.pgo_places.specs.PlaceView.{stand_view}
use Rattle.pgo_places.specs.Stands.{binding, resume}
use Rattle.pgo_places.proofs.Picks.{with_picked}
use Rattle.pgo_places.proofs.behind.picked_from.Goals as goal

pub returns-in_ok-bind-in-Some-clause-walk : goal.returns-in_ok-bind-in-Some-clause-walk
returns-in_ok-bind-in-Some-clause-walk c = λ a k n i is.
    with_picked a (map data_of c.args.members.now) (stand_view c.args.stand.now) (stand_view c.member.new.stand) (data_of c.in-Some.v) (λ x t. resume a k n is (binding c.args.name.now x t))
    (sym (ap (option_map data_of) c.in-Some.is) ∙ c.in_ok-found.ensures.member) c.in_ok-found.ensures.stand
    ∙ sym (ap (λ t. resume a k n is t) c.in_ok-bind-in-Some.ensures)
