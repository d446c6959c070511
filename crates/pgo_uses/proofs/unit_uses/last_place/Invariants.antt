-- What the loop keeps: what is made and what is left are the whole.
use Rattle.std.proofs.Common.{◌≡◌, drop}
use Rattle.pgo_uses.specs.AllUses.{last_place}
use Rattle.pgo_uses.proofs.unit_uses.last_place.Given as goal

abbrev pub invariant-loop-x : goal.invariant-loop-x
invariant-loop-x l =
    last_place l.last (drop l.x-index l.list) ≡ last_place l.place l.list
