use Rattle.pgo_meaning.proofs.Ends as ends
use Rattle.pgo_meaning.proofs.ends_are_states.Goals as goal

pub returns-clause-state : goal.returns-clause-state
returns-clause-state c b k i s t d prints at_k keeps is e values =
    ends.end_is_state c.sections_keep.ensures.variables c.sections_keep.ensures.domains b k i s d t prints keeps at_k e is values

pub returns-clause-domains : goal.returns-clause-domains
returns-clause-domains c b k i s t d prints at_k keeps is e values =
    ends.end_on_domains c.sections_keep.ensures.variables c.sections_keep.ensures.domains b k i s d t prints keeps at_k e is values
