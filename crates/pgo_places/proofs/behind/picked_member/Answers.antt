-- The members of a set.
use Rattle.std.proofs.Common.{◌≡◌, ap, ◌∙◌, sym, List, Some, option_map}
use Rattle.std.proofs.lemmas.Result.{IfOk-weaker}
use Rattle.std.specs.Prelude.{option_and_then}
use Rattle.pgo_base.specs.Data.{Data, set, items, members-items}
use Rattle.pgo_base.specs.View.{data_of}
use Rattle.pgo_model.specs.Operators.{members_of}
use Rattle.pgo_accesses.specs.Accesses.{with_value, with_member}
use Rattle.pgo_places.specs.PlaceView.{stand_view}
use Rattle.pgo_places.specs.Stands.{binding, going, resume, with_words}
use Rattle.pgo_places.proofs.behind.picked_member.Goals as goal

pub returns-in-Some-Set-clause-walk : goal.returns-in-Some-Set-clause-walk
returns-in-Some-Set-clause-walk c =
    let s = stand_view c.args.stand.now in
    let is-set : option_map data_of c.args.value ≡ Some (set (items c.in-Some-Set.set)) = ap (option_map data_of) (c.in-Some-Set.is ∙ ap (λ v. Some v) c.in-Some-Set.field-0-is) in
    IfOk-weaker c.picked_from.result _ _
    (λ f h a k n i is.
    let F = λ (ms : List Data). with_member (with_words s.words a) ms s.progress (λ v q. resume a k n is (binding c.args.name.now v (going q s))) in
    ap (λ o. with_value (option_and_then members_of o) F) is-set ∙ ap F (members-items c.in-Some-Set.set ∙ sym c.members.ensures) ∙ h a k n i is)
    c.picked_from.ensures.walk
