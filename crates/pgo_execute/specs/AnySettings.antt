-- What workers ask of the sections of what is bound, whatever the settings.
use Rattle.pgo_accesses.specs.Programs.{tree_of}
use Rattle.pgo_meaning.specs.System.{system_of}
use Rattle.pgo_model.specs.Core.{Settings}
use Rattle.pgo_section.specs.Programs.{RunsSystem}
use Rattle.pgo_syntax.specs.declared.bound.Bound.{Bound}

pub record RunsUnderAny (b : Bound) : Type 0 where
  pub under : (settings : Settings) → RunsSystem (system_of b) (tree_of b) settings
