use Rattle.pgo_sections.proofs.Domains as domains
use Rattle.pgo_sections.proofs.Elements.{except_keeps, changes_keep, elements_stay}
use Rattle.pgo_sections.proofs.Traces.{traces_are}
use Rattle.pgo_sections.proofs.sections_keep.Goals as goal

pub returns-clause-variables : goal.returns-clause-variables
returns-clause-variables c k code d t prints e = domains.variables_kept k code d t prints e

pub returns-clause-domains : goal.returns-clause-domains
returns-clause-domains c k code d t prints x ids b e keeps starts = domains.domains_kept k code d t prints x ids b e keeps starts

pub returns-clause-traces : goal.returns-clause-traces
returns-clause-traces c k gs code d uses by = traces_are k gs code d uses by

pub returns-clause-except : goal.returns-clause-except
returns-clause-except c ids f i v g h e = except_keeps ids f i v g h e

pub returns-clause-changes : goal.returns-clause-changes
returns-clause-changes c k code env d run then' b h e = changes_keep k code env d run then' b h e

pub returns-clause-elements : goal.returns-clause-elements
returns-clause-elements c k g ids i run by starts h = elements_stay k g ids i run by starts h
