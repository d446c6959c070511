-- The value that stands ready.
use Rattle.std.proofs.Common.{◌≡◌, suc, ◌∷◌, Some, None, ap, sym, ◌∙◌, option_map}
use Rattle.pgo_base.specs.View.{data_of}
use Rattle.pgo_model.specs.Options.{on}
use Rattle.pgo_code.specs.Steps.{Own, Set}
use Rattle.pgo_places.specs.PlaceView.{stand_view, fixed_view}
use Rattle.pgo_places.specs.Stands.{assigned, onward, putting, resume}
use Rattle.pgo_places.proofs.Readiness.{nothing_there}
use Rattle.pgo_places.proofs.run.assign_ready.Goals as goal

pub returns-clause-walk : goal.returns-clause-walk
returns-clause-walk c = λ a e n is.
    let k = fixed_view c.args.frame.fixed.now in let s = stand_view c.args.stand.now in let y = c.args.own.now in let v = data_of c.in-Some.value in
    let ready : s.value ≡ Some v = ap (option_map data_of) (sym c.replace.ensures.value ∙ c.in-Some.is) in
    ap (λ o. on (resume a k (suc n) (Set (Own y) e ∷ is) (record s { value = None })) o (λ x. putting k (Own y) x (onward s) (resume a k n is))) ready
    ∙ ap (λ t. resume a k n is t) (sym (c.in_ok-assign.ensures ∙ ap (assigned k y v) c.onward.ensures))

pub unreachable-requires : goal.unreachable-requires
unreachable-requires c = nothing_there (option_map data_of c.args.stand.now.value) (ap (option_map data_of) (sym c.in_default.ensures.value)) c.requires
