-- What the loop keeps: the lines so far, with those of the bands that are left, are all.
use Rattle.std.proofs.Common.{◌≡◌, ◌-◌, map}
use Rattle.pgo_bundle.specs.View.{account_view}
use Rattle.pgo_show_picture.specs.Picture as spec
use Rattle.pgo_show_picture.proofs.lanes.push_bands.Given as goal

abbrev pub invariant-loop-band : goal.invariant-loop-band
invariant-loop-band l =
    spec.with_bands l.size (map account_view l.accounts) 0 l.count l.fn.lines ≡ spec.with_bands l.size (map account_view l.accounts) l.band (l.count - l.band) l.lines
