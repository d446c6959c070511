use Rattle.std.proofs.Common.{◌≡◌, ℕ, drop, length}
use Rattle.pgo_section.specs.Quiet.{all_stand, bases, currents}
use Rattle.pgo_section.proofs.quiet.are_standing.Given as goal

abbrev pub invariant-loop-k : goal.invariant-loop-k
invariant-loop-k g l = record {
  many : length l.contents.items ≡ length l.fn.contents.items;
  same : bases g.R.Resource.shows l.contents.items ≡ bases g.R.Resource.shows l.fn.contents.items;
  rest : currents g.R.Resource.shows l.contents.items ≡ bases g.R.Resource.shows l.contents.items;
  left : all_stand (g.S.Sections.tree l.sections) (bases g.R.Resource.shows l.fn.contents.items) l.k (drop l.k l.owns) ≡ all_stand (g.S.Sections.tree l.sections) (bases g.R.Resource.shows l.fn.contents.items) 0 l.owns;
}
