use Rattle.pgo_bind.proofs.Declared.{declared_answer}
use Rattle.pgo_bind.proofs.Places.{numbered_answer, at_labels_answer}
use Rattle.pgo_bind.proofs.SoundBound.{sound_answer}
use Rattle.pgo_bind.proofs.bind.bind.Goals as goal

pub returns-clause-declared : goal.returns-clause-declared
returns-clause-declared c = λ w. declared_answer c.args.spec.now c.args.consts.now c.answered.result c.answered.ensures.answers w

pub returns-clause-at_labels : goal.returns-clause-at_labels
returns-clause-at_labels c = λ w. at_labels_answer c.args.spec.now c.args.consts.now c.answered.result c.answered.ensures.answers w

pub returns-clause-numbered : goal.returns-clause-numbered
returns-clause-numbered c = numbered_answer c.args.spec.now c.args.consts.now c.answered.result c.answered.ensures.answers

pub returns-clause-sound : goal.returns-clause-sound
returns-clause-sound c = λ w. sound_answer c.args.spec.now c.args.consts.now c.answered.result c.answered.ensures.answers c.answered.ensures.values w
