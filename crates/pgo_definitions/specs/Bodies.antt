-- What one more definition means, and what its body sees.
use Rattle.std.specs.Prelude.{List, [], None}
use Rattle.pgo_base.specs.Lookup.{Name}
use Rattle.pgo_base.specs.Tree.{Tree}
use Rattle.pgo_base.specs.declared.module.Defined.{Defined}
use Rattle.pgo_model.specs.ModuleView.{defined_view}
use Rattle.pgo_model.specs.Val.{Means, Meaning, Scope, meaning_of}

-- one more definition
abbrev pub with_meaning : List Meaning → Defined → List Meaning
with_meaning before d = meaning_of [] None before (defined_view d)

-- one more, of a name with parameters and a body
abbrev pub with_body : List Meaning → Name → List Name → Tree → List Meaning
with_body before x ps e = meaning_of [] None before (Means x ps e)

-- what the body of a definition without parameters sees
abbrev pub bare : List Meaning → Scope
bare before = record { names = []; part = None; now = []; next = None; defs = before }
