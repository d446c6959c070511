use Rattle.std.proofs.Common.{ap, sym, ◌∙◌, subst}
use Rattle.pgo_code.specs.declared.program.Program.{Program}
use Rattle.pgo_meaning.specs.System.{system_of}
use Rattle.pgo_places.specs.Trees.{tree_in}
use Rattle.pgo_section.specs.Programs.{RunsSystem}
use Rattle.pgo_turn_rows.proofs.alone.sections.Goals as goal

pub returns-clause-bound : goal.returns-clause-bound
returns-clause-bound c = ap (λ (p : Program). p.bound.now) c.in_ok-runnable.ensures ∙ ap (λ r. r.now) c.in_ok-program.ensures.bound

pub returns-clause-runs : goal.returns-clause-runs
returns-clause-runs c s =
    subst (λ (p : Program). RunsSystem (system_of p.bound.now) (tree_in p) s) (sym c.in_ok-runnable.ensures)
    (c.programs_run.ensures.runs c.args.bound.now c.in_ok-program.program s (ap (λ r. r.now) c.in_ok-program.ensures.bound) c.requires.runnable.sound.numbered c.in_ok-program.ensures.codes (c.requires.workers s))
