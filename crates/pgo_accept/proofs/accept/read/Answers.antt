use Rattle.std.proofs.Common.{Ok, Err, refl, subst}
use Rattle.pgo_mpcal_read.specs.Texts.{IsOrNoMemory}
use Rattle.pgo_accept.specs.Answers as answers
use Rattle.pgo_accept.proofs.accept.read.Goals as goal

pub returns-in-Ok : goal.returns-in-Ok
returns-in-Ok c =
    answers.spelled c.in-Ok.system (Ok c.in-Ok.system) c.in-Ok.ensures.found (λ t h. c.in-Ok.ensures.only t h) refl

pub returns-in-Err-Syntax : goal.returns-in-Err-Syntax
returns-in-Err-Syntax c =
    answers.syntax _ (rw c.in-Err-Syntax.field-0-is at c.in-Err-Syntax.ensures.within)
    (λ s h. subst (λ e. IsOrNoMemory (Err e) s) c.in-Err-Syntax.field-0-is (c.in-Err-Syntax.ensures.only s h))

pub returns-in-Err-NoMemory : goal.returns-in-Err-NoMemory
returns-in-Err-NoMemory c = answers.no_memory
