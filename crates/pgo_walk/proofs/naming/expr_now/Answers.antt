use Rattle.std.proofs.Common.{◌≡◌, ◌∙◌, [], IfOk, subst}
use Rattle.pgo_base.specs.ExprView.{tree}
use Rattle.pgo_sections.specs.Replaced.{replaced}
use Rattle.pgo_walk.proofs.Named.{naming_law}
use Rattle.pgo_walk.specs.SettingPlaces.{places_in}
use Rattle.pgo_walk.proofs.naming.expr_now.Goals as goal

pub returns : goal.returns
returns c =
    subst (λ t. IfOk c.new.result (λ s. s ≡ t))
    (c.in_ok-substitute.ensures ∙ (λ i. replaced (λ under x. naming_law (places_in c.args.setting) c.args.renames.now c.args.current.now under x i) [] (tree c.args.e.now)))
    c.new.ensures
