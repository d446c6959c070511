-- A bound specification whose instances can be run.
use Rattle.pgo_model.specs.Core.{Settings}
use Rattle.pgo_syntax.specs.declared.bound.Bound.{Bound}
use Rattle.pgo_meaning.specs.System.{system_of}
use Rattle.pgo_accesses.specs.Programs.{tree_of}
use Rattle.pgo_accesses.specs.Runnable.{Runnable}
use Rattle.pgo_section.specs.Programs.{RunsSystem}

pub record Runs (b : Bound) : Type 0 where
  pub runnable : Runnable b
  pub workers : (settings : Settings) → RunsSystem (system_of b) (tree_of b) settings
