use Rattle.std.proofs.Common.{◌∙◌, length, map, ap}
use Rattle.std.proofs.lemmas.Result.{IfOk-weaker}
use Rattle.std.proofs.lemmas.List.{length-map}
use Rattle.pgo_meaning.specs.System.{member_of}
use Rattle.pgo_workers.specs.Worlds.{Layout, own_in}
use Rattle.pgo_starts.proofs.own.all_own_in.Goals as goal

pub returns-clause-as_many : goal.returns-clause-as_many
returns-clause-as_many c =
    IfOk-weaker c.all_own.result _ _
    (λ v h. h ∙ ap (λ (y : Layout). length y.ids) c.in_ok-layout.ensures ∙ length-map (map member_of c.args.bound.now.instances) (λ i. i.id) ∙ length-map c.args.bound.now.instances member_of)
    c.all_own.ensures.many

pub returns-clause-owns : goal.returns-clause-owns
returns-clause-owns c =
    IfOk-weaker c.all_own.result _ _
    (λ v h k o e. h k o e ∙ ap (λ (y : Layout). own_in y c.args.s.now k) c.in_ok-layout.ensures)
    c.all_own.ensures.owns
