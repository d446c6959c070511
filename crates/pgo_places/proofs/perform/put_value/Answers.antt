-- The value that stands ready.
use Rattle.std.proofs.Common.{◌≡◌, Some, ap, sym, ◌∙◌, option_map}
use Rattle.std.proofs.lemmas.Result.{IfOk-weaker}
use Rattle.pgo_base.specs.View.{data_of}
use Rattle.pgo_places.specs.PlaceView.{stand_view, fixed_view}
use Rattle.pgo_places.proofs.Puts.{puts_set}
use Rattle.pgo_places.proofs.Readiness.{nothing_there}
use Rattle.pgo_places.proofs.perform.put_value.Goals as goal

pub returns-clause-performs : goal.returns-clause-performs
returns-clause-performs g c =
    let s = stand_view c.args.stand.now in
    let ready : s.value ≡ Some (data_of c.in-Some.value) = ap (option_map data_of) (sym c.replace.ensures.value ∙ c.in-Some.is) in
    IfOk-weaker c.put.result _ _
    (λ f h a e. puts_set a (fixed_view c.args.frame.fixed.now) s (Some c.args.resource) e (data_of c.in-Some.value) f (stand_view c.put.new.stand)
    (g.R.Resource.shows c.args.content.now).current (g.R.Resource.shows c.put.new.content).current ready h)
    c.put.ensures.puts

pub unreachable-requires : goal.unreachable-requires
unreachable-requires g c = nothing_there (option_map data_of c.args.stand.now.value) (ap (option_map data_of) (sym c.in_default.ensures.value)) c.requires
