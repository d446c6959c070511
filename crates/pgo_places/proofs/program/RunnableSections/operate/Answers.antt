-- The place in its box.
use Rattle.std.proofs.Common.{sym, subst}
use Rattle.std.specs.Prelude.{OnOk}
use Rattle.pgo_resource.specs.Nexts.{IsTouch, LeadsOn}
use Rattle.pgo_places.specs.PlaceWalk.{walk_in}
use Rattle.pgo_places.specs.declared.attempt.Attempt.{Attempt}
use Rattle.pgo_places.proofs.program.RunnableSections.operate.Goals as goal

pub returns-clause-on : goal.returns-clause-on
returns-clause-on g c =
    let p = c.args.self.now.program in
    subst (λ (q : Attempt). OnOk c.operated_on.result (LeadsOn (walk_in p q) (walk_in p c.operated_on.new.attempt) (g.R.Resource.shows c.args.content.now).current (g.R.Resource.shows c.operated_on.new.content).current))
    c.deref_mut.ensures.value c.operated_on.ensures.on

pub operated_on-requires : goal.operated_on-requires
operated_on-requires g c =
    let p = c.args.self.now.program in
    subst (λ (q : Attempt). IsTouch (walk_in p q)) (sym c.deref_mut.ensures.value) c.requires.touch
