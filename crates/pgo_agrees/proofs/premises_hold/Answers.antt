use Rattle.pgo_agrees.proofs.Premises.{unlabelled, refs, none_done, named, own_labels, keeps_elements}
use Rattle.pgo_agrees.proofs.premises_hold.Goals as goal

pub returns-clause-macros : goal.returns-clause-macros
returns-clause-macros c s consts h = unlabelled s consts h

pub returns-clause-dones : goal.returns-clause-dones
returns-clause-dones c s consts k i h at_k = none_done s consts h k i at_k

pub returns-clause-refs : goal.returns-clause-refs
returns-clause-refs c s consts h = refs s consts h

pub returns-clause-labels : goal.returns-clause-labels
returns-clause-labels c s consts k i h at_k = own_labels s consts h k i at_k

pub returns-clause-names : goal.returns-clause-names
returns-clause-names c s consts k i h small at_k = named s consts h k i at_k small

pub returns-clause-elements : goal.returns-clause-elements
returns-clause-elements c s consts k i h at_k = keeps_elements s consts h k i at_k
