use Rattle.pgo_bundle.proofs.LineLaws.{line_there}
use Rattle.pgo_bundle.proofs.places_are_lines.Goals as goal

pub returns : goal.returns
returns c = line_there
