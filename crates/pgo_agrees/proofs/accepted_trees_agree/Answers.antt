use Rattle.pgo_bound.specs.BoundOf.{bound_of}
use Rattle.pgo_agrees.proofs.Premises.{unlabelled, none_done, named, own_labels}
use Rattle.pgo_agrees.proofs.accepted_trees_agree.Goals as goal

pub returns : goal.returns
returns c = λ s consts k i l t u h small at_k is_l is_t is_u at_l.
    c.trees_agree.ensures.labels (bound_of s consts) k i l t u at_k (named s consts h k i at_k small) (own_labels s consts h k i at_k) (unlabelled s consts h) (none_done s consts h k i at_k) is_l is_t is_u at_l
