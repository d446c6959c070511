-- One more of the reads is done.
use Rattle.std.proofs.Common.{ap, ◌∙◌}
use Rattle.pgo_places.specs.PlaceView.{stand_view, fixed_view}
use Rattle.pgo_places.specs.Stands.{Stand, looked}
use Rattle.pgo_places.proofs.Puts.{looks}
use Rattle.pgo_places.proofs.Readiness.{some_there}
use Rattle.pgo_places.proofs.perform.look.Goals as goal

pub returns-clause-performs : goal.returns-clause-performs
returns-clause-performs g c = λ a i xs h.
    let k = fixed_view c.args.frame.fixed.now in let s = stand_view c.args.stand.now in
    let r = some_there c.args.unmapped.now.resource c.requires.there in
    looks a k i s (stand_view c.look.new.self) c.args.unmapped.now.name c.args.unmapped.now.resource xs r.0 (g.R.Resource.shows c.args.content.now).current h r.1
    (c.in_ok-look.ensures ∙ ap (λ v. looked k c.args.unmapped.now.name v s) c.in_ok-value.ensures)

pub returns-clause-first : goal.returns-clause-first
returns-clause-first g c = ap (λ (s : Stand). s.first) c.in_ok-look.ensures
