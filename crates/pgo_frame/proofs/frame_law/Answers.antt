use Rattle.pgo_meaning.specs.Attempt.{SectTry}
use Rattle.pgo_meaning.specs.Sect.{Sect}
use Rattle.pgo_frame.proofs.Runnables.{well_bound}
use Rattle.pgo_frame.proofs.Sects.{sect_alike, try_alike}
use Rattle.pgo_frame.proofs.Tries.{all_same, front_same}
use Rattle.pgo_frame.proofs.frame_law.Goals as goal

pub returns-clause-front : goal.returns-clause-front
returns-clause-front c b k j s t d W good_s good_t A h = front_same s t (Sect b k s d) (Sect b k t d) (sect_alike b W s t good_s good_t k A d) j h

pub returns-clause-trace : goal.returns-clause-trace
returns-clause-trace c b k s t d W good_s good_t A h = (all_same s t (Sect b k s d) (Sect b k t d) (sect_alike b W s t good_s good_t k A d) h).0

pub returns-clause-end : goal.returns-clause-end
returns-clause-end c b k s t d W good_s good_t A h = (all_same s t (Sect b k s d) (Sect b k t d) (sect_alike b W s t good_s good_t k A d) h).1

pub returns-clause-attempt_front : goal.returns-clause-attempt_front
returns-clause-attempt_front c b k j s t d W good_s good_t A h = front_same s t (SectTry b k s d) (SectTry b k t d) (try_alike b W s t good_s good_t k A d) j h

pub returns-clause-attempt_trace : goal.returns-clause-attempt_trace
returns-clause-attempt_trace c b k s t d W good_s good_t A h = (all_same s t (SectTry b k s d) (SectTry b k t d) (try_alike b W s t good_s good_t k A d) h).0

pub returns-clause-attempt_end : goal.returns-clause-attempt_end
returns-clause-attempt_end c b k s t d W good_s good_t A h = (all_same s t (SectTry b k s d) (SectTry b k t d) (try_alike b W s t good_s good_t k A d) h).1

pub returns-clause-runnable : goal.returns-clause-runnable
returns-clause-runnable c b R = well_bound b R
