use Rattle.std.proofs.Common.{◌≡◌, ◌∙◌, ap, sym}
use Rattle.std.proofs.lemmas.Result.{IfOk-at_ok}
use Rattle.pgo_base.specs.ExprView.{tree}
use Rattle.pgo_effects.specs.Pieces.{code_with}
use Rattle.pgo_effects.specs.SettingView.{setting_view}
use Rattle.pgo_effects.proofs.AssignLaws.{place_bound}
use Rattle.pgo_effects.proofs.assign.bind_place.Goals as goal

pub returns : goal.returns
returns c =
    let r = c.in_ok-rest in let t = c.in_ok-value in let mid = c.evaluate_put.new.effects.items in
    let b = IfOk-at_ok _ (IfOk-at_ok _ t.ensures.second c.both-names.ensures.first) c.from_slice.ensures in
    let n = IfOk-at_ok _ (IfOk-at_ok _ t.ensures.second c.both-names.ensures.second) c.place.ensures in
    let v : r.rest ≡ t.value = cc (t.ensures.first) in
    place_bound (setting_view c.args.setting).mapped c.args.effects.now.items mid c.push.new.self.items c.args.base.now t.base t.name t.value (tree c.args.e.now) c.args.used r.k
    b n (λ f. ap (λ w. code_with mid (f (tree w) r.k)) (sym v) ∙ r.ensures f) c.in_ok-push.ensures.items
