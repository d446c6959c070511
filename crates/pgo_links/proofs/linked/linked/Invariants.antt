use Rattle.std.proofs.Common.{◌≡◌, ◌+◌, length}
use Rattle.pgo_links.specs.LinkView.{AreLinked}
use Rattle.pgo_links.proofs.linked.linked.Given as goal

abbrev pub invariant-loop-content : goal.invariant-loop-content
invariant-loop-content g l = record {
  count : length l.links.items + length l.content-iterator.rest.items ≡ length l.fn.contents.items;
  many : length l.links.items ≡ length l.yielded;
  linked : AreLinked g.R.Resource.shows l.yielded l.links.items;
}
