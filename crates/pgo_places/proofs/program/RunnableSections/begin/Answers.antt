-- The attempt in its box.
use Rattle.std.proofs.Common.{◌≡◌, ap, ◌∙◌}
use Rattle.std.proofs.lemmas.Result.{IfOk-weaker}
use Rattle.pgo_places.specs.PlaceWalk.{walk_in}
use Rattle.pgo_places.specs.Trees.{tree_in}
use Rattle.pgo_places.proofs.program.RunnableSections.begin.Goals as goal

pub returns : goal.returns
returns c =
    let p = c.args.self.now.program in
    IfOk-weaker c.boxed.result (λ b. b.value ≡ c.in_ok-begun.begun) (λ b. walk_in p b.value ≡ tree_in p c.args.seed c.args.instance c.args.attempt c.args.own.now)
    (λ b h. ap (walk_in p) h ∙ c.in_ok-begun.ensures) c.boxed.ensures
