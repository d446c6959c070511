-- The place in its box.
use Rattle.std.proofs.Common.{sym, subst}
use Rattle.pgo_resource.specs.Nexts.{StopsWith}
use Rattle.pgo_places.specs.PlaceWalk.{walk_in}
use Rattle.pgo_places.specs.declared.attempt.Attempt.{Attempt}
use Rattle.pgo_places.proofs.program.RunnableSections.end.Goals as goal

pub end_of-requires : goal.end_of-requires
end_of-requires c = subst (λ (q : Attempt). StopsWith (walk_in c.args.self.now.program q)) (sym c.into_inner.ensures) c.requires.ended
