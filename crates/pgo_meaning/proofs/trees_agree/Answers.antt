use Rattle.pgo_meaning.proofs.Trees as trees
use Rattle.pgo_meaning.proofs.LabelSections.{label_section}
use Rattle.pgo_meaning.proofs.trees_agree.Goals as goal

pub returns-clause-instances : goal.returns-clause-instances
returns-clause-instances c = trees.trees_agree c.sections_agree.ensures.paths c.sections_agree.ensures.definitions

pub returns-clause-trees : goal.returns-clause-trees
returns-clause-trees c = trees.all_trees_agree c.sections_agree.ensures.paths c.sections_agree.ensures.definitions

pub returns-clause-labels : goal.returns-clause-labels
returns-clause-labels c b k i l s t at_k named own unlabelled none is_label is_s is_t at_l =
    let code = label_section b i unlabelled none l is_label in
    trees.all_trees_agree c.sections_agree.ensures.paths c.sections_agree.ensures.definitions b k i l code.0 s t at_k named own code.1 is_s is_t at_l
