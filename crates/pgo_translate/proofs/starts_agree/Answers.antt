use Rattle.pgo_translate.proofs.Sets.{sets_ordered}
use Rattle.pgo_translate.proofs.Starts.{begins-agree}
use Rattle.pgo_translate.proofs.starts_agree.Goals as goal

pub returns : goal.returns
returns c s consts free names constants well none = begins-agree s consts free names (sets_ordered s consts constants) well none
