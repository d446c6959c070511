use Rattle.std.proofs.Common.{◌≡◌, ◌<◌, ℕ, length}
use Rattle.pgo_section.specs.Quiet.{bases, currents}
use Rattle.pgo_section.proofs.quiet.reset.Given as goal

abbrev pub invariant-loop-index : goal.invariant-loop-index
invariant-loop-index g l = record {
  many : length l.contents.items ≡ length l.fn.contents.items;
  same : bases g.R.Resource.shows l.contents.items ≡ bases g.R.Resource.shows l.fn.contents.items;
  back : (r : ℕ) → r < l.index → currents g.R.Resource.shows l.contents.items r ≡ bases g.R.Resource.shows l.fn.contents.items r;
}
