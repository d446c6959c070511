use Rattle.std.proofs.Common.{◌≡◌, ℕ, ap, sym, ◌∙◌, map, [], List, arith}
use Rattle.std.proofs.lemmas.List.{nil_from_length}
use Rattle.std.proofs.lemmas.Result.{IfOk-weaker}
use Rattle.pgo_meaning.specs.Statements.{to_variable}
use Rattle.pgo_effects.specs.declared.assign.PathPart.{PathPart}
use Rattle.pgo_effects.specs.Assigned.{part_view}
use Rattle.pgo_effects.specs.PlaceView.{place_view}
use Rattle.pgo_effects.specs.SettingView.{setting_view}
use Rattle.pgo_effects.specs.Todos.{change_code}
use Rattle.pgo_effects.proofs.assign.to_variable.Goals as goal

pub returns-in-empty : goal.returns-in-empty
returns-in-empty c =
    let s = setting_view c.args.setting in let x = c.args.x.now in let v = place_view c.args.p in
    let none : c.args.path.now ≡ [] = nil_from_length c.args.path.now (omega (arith, c.in-empty.len_below)) in
    IfOk-weaker c.to_whole.result (λ r. (y : List ℕ) → change_code r ≡ to_variable s y [] c.args.w v) (λ r. change_code r ≡ to_variable s x (map part_view c.args.path.now) c.args.w v)
    (λ r h. h x ∙ ap (λ (l : List PathPart). to_variable s x (map part_view l) c.args.w v) (sym none)) c.to_whole.ensures
