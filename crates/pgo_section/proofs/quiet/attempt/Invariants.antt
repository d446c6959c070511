use Rattle.std.proofs.Common.{◌≡◌, length}
use Rattle.pgo_workers.specs.Walk.{ending, ending_from, visits_from}
use Rattle.pgo_section.specs.Quiet.{Begins, bases, currents}
use Rattle.pgo_section.proofs.quiet.attempt.Given as goal

abbrev pub invariant-loop-place : goal.invariant-loop-place
invariant-loop-place g l = record {
  many : length l.contents.items ≡ length l.fn.contents.items;
  same : bases g.R.Resource.shows l.contents.items ≡ bases g.R.Resource.shows l.fn.contents.items;
  begins : Begins (length l.contents.items) (g.S.Sections.walk l.sections l.place);
  ends : ending_from (bases g.R.Resource.shows l.contents.items) (g.S.Sections.walk l.sections l.place) (currents g.R.Resource.shows l.contents.items) ≡ ending (g.S.Sections.tree l.sections 0 l.instance 1 l.own) (bases g.R.Resource.shows l.fn.contents.items);
}

abbrev pub decreases-loop-place : goal.decreases-loop-place
decreases-loop-place g l = length (visits_from (bases g.R.Resource.shows l.contents.items) (g.S.Sections.walk l.sections l.place) (currents g.R.Resource.shows l.contents.items))
