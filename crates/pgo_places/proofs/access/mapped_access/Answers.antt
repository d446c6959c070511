-- A mapped parameter is read or written.
use Rattle.std.proofs.Common.{sym, ap, ◌∙◌, subst}
use Rattle.pgo_code.specs.Steps.{Read, Write}
use Rattle.pgo_code.specs.See.{content_view}
use Rattle.pgo_places.specs.Flows.{StandsAt, access_to}
use Rattle.pgo_places.specs.PlaceView.{stand_view, fixed_view, attempt_view}
use Rattle.pgo_places.proofs.Standing.{mapped_read, mapped_write}
use Rattle.pgo_places.proofs.access.mapped_access.Goals as goal

pub returns-clause-read : goal.returns-clause-read
returns-clause-read c = λ w.
    let a = attempt_view c.args.frame.bound.now c.args.frame.fixed.now in let k = fixed_view c.args.frame.fixed.now in let s = stand_view c.args.stand.now in
    subst (λ x. StandsAt a k (Read w (content_view c.args.content.now) c.args.index.now) s x) (sym (c.access_to.ensures ∙ ap access_to c.mapped_resource.ensures))
    (mapped_read a k w (content_view c.args.content.now) c.args.index.now s)

pub returns-clause-write : goal.returns-clause-write
returns-clause-write c = λ w.
    let a = attempt_view c.args.frame.bound.now c.args.frame.fixed.now in let k = fixed_view c.args.frame.fixed.now in let s = stand_view c.args.stand.now in
    subst (λ x. StandsAt a k (Write (content_view c.args.content.now) c.args.index.now w) s x) (sym (c.access_to.ensures ∙ ap access_to c.mapped_resource.ensures))
    (mapped_write a k (content_view c.args.content.now) c.args.index.now w s)
