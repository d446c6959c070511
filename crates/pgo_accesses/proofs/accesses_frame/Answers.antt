use Rattle.pgo_model.specs.Choice.{Seeded, words_of}
use Rattle.pgo_accesses.proofs.Leads.{front, same_trace, same_end}
use Rattle.pgo_accesses.proofs.accesses_frame.Goals as goal

pub returns-clause-front : goal.returns-clause-front
returns-clause-front c b settings k a j s t R good_s good_t own h = front b R s t good_s good_t (words_of (Seeded settings.seed k a)) k own j h

pub returns-clause-trace : goal.returns-clause-trace
returns-clause-trace c b settings k a s t R good_s good_t own h = same_trace b R s t good_s good_t (words_of (Seeded settings.seed k a)) k own h

pub returns-clause-end : goal.returns-clause-end
returns-clause-end c b settings k a s t R good_s good_t own h = same_end b R s t good_s good_t (words_of (Seeded settings.seed k a)) k own h
