use Rattle.std.proofs.Common.{◌≡◌, ◌∙◌, ap, sym}
use Rattle.std.proofs.lemmas.Result.{IfOk-at_ok}
use Rattle.pgo_base.specs.ExprView.{tree}
use Rattle.pgo_effects.specs.Pieces.{code_with}
use Rattle.pgo_effects.proofs.PieceLaws.{evaluated_by}
use Rattle.pgo_rewrite.specs.Views.{hoisted_view}
use Rattle.pgo_effects.proofs.evaluate.evaluate_put.Goals as goal

pub returns : goal.returns
returns c =
    let t = c.in_ok-rest in let h = c.in_ok-hoisted.hoisted in let es = c.add_reads-added.new.effects.items in
    let a = IfOk-at_ok _ t.ensures.second c.add_reads-added.ensures in
    let r : h.rest ≡ t.rest = cc (t.ensures.first) in
    λ f. ap (λ e. code_with es (f (tree e) h.used)) (sym r)
    ∙ evaluated_by c.args.effects.now.items es _ (tree c.args.e.now) c.args.used (hoisted_view h) c.in_ok-hoisted.ensures a f
