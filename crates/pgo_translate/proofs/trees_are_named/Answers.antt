use Rattle.pgo_translate.proofs.Naming as naming
use Rattle.pgo_translate.proofs.trees_are_named.Goals as goal

pub returns : goal.returns
returns c = naming.trees_are_named
