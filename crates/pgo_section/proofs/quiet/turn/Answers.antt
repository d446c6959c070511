use Rattle.std.proofs.Common.{subst}
use Rattle.pgo_resource.specs.Nexts.{Tells}
use Rattle.pgo_resource.specs.declared.sections.NextEvent.TheVariants as events
use Rattle.pgo_section.specs.Quiet.{bases, currents}
use Rattle.pgo_section.proofs.quiet.turn.Goals as goal

pub next-requires : goal.next-requires
next-requires g c = record { settled = c.requires.settled }

pub returns-in-Note-clause-went : goal.returns-in-Note-clause-went
returns-in-Note-clause-went g c =
    let walk = g.S.Sections.walk c.args.sections.now in
    let tells = subst (λ n. Tells (walk c.next.new.place) n) c.in-Note.is c.in_ok-next.ensures.tells in
    c.is_blocked.ensures (walk c.args.place.now) (subst (λ w. Tells w (events.Note c.in-Note.kind)) c.in_ok-next.ensures.same tells) (bases g.R.Resource.shows c.args.contents.now.items) (currents g.R.Resource.shows c.args.contents.now.items)
