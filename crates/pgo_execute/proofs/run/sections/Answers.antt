use Rattle.std.proofs.Common.{ap, sym, ◌∙◌, subst}
use Rattle.pgo_code.specs.declared.program.Program.{Program}
use Rattle.pgo_execute.proofs.run.sections.Goals as goal
use Rattle.pgo_lower.specs.Agree.{AreLowered}

pub returns-clause-bound : goal.returns-clause-bound
returns-clause-bound c = ap (λ (p : Program). p.bound) c.in_ok-runnable.ensures ∙ c.in_ok-program.ensures.bound

pub returns-clause-codes : goal.returns-clause-codes
returns-clause-codes c =
    let b = c.args.bound.now in
    subst (λ (p : Program). AreLowered b b.instances p.codes.items) (sym c.in_ok-runnable.ensures) c.in_ok-program.ensures.codes
