use Rattle.pgo_meaning.proofs.LabelSections as sections
use Rattle.pgo_meaning.proofs.sections_of_labels.Goals as goal

pub returns-clause-labels : goal.returns-clause-labels
returns-clause-labels c b i u = sections.sections_are b.spec.macros i.process i.archetype i.bindings u

pub returns-clause-each : goal.returns-clause-each
returns-clause-each c b i l u n h = sections.label_section b i u n l h

pub returns-clause-only : goal.returns-clause-only
returns-clause-only c b i l code u n h = sections.section_label b i u n l code h

pub returns-clause-nowhere : goal.returns-clause-nowhere
returns-clause-nowhere c b k i s d u n at_k h = sections.nowhere b i u n k s d at_k h
