-- What the parameters without a mapping stand for, and what maps of the mapped ones and of the others have under a name.
use Rattle.std.specs.Prelude.{List, [], ◌∷◌, Option, Some, None, option_map}
use denote.Ref.{Bor}
use Rattle.pgo_base.specs.Lookup.{Name}
use Rattle.pgo_sections.specs.Access.{Mapped}
use Rattle.pgo_base.specs.NameMaps.{found}
use Rattle.pgo_syntax.specs.declared.bound.Binding.{Binding}
use Rattle.pgo_syntax.specs.declared.bound.Target.{Target}
use Rattle.pgo_syntax.specs.declared.bound.Target.TheVariants as targets
use Rattle.pgo_base.specs.declared.name_map.NameMap.{NameMap}
use Rattle.pgo_rewrite.specs.declared.mapped.Mapped.{Mapped as Lent}
use Rattle.pgo_rewrite.specs.Views.{mapped_view}

-- a target, where it has no mapping
abbrev pub if_unmapped : Target → Option Target
if_unmapped (targets.Value e) = Some (targets.Value e)
if_unmapped (targets.Global g e None) = Some (targets.Global g e None)
if_unmapped (targets.Global g e (Some m)) = None

-- a name with this, if there is one, before others
abbrev pub before_others : {A : Type 0} → Name → Option A → List (Name × A) → List (Name × A)
before_others x None rest = rest
before_others x (Some v) rest = (x, v) ∷ rest

abbrev pub all_unmapped : List Binding → List (Name × Target)
all_unmapped [] = []
all_unmapped (b ∷ bs) = before_others b.parameter (if_unmapped b.target) (all_unmapped bs)

-- the mapped parameter under a name
abbrev pub mapped_in : NameMap Lent → Name → Option Mapped
mapped_in m n = option_map mapped_view (found m n)

-- the target under it
abbrev pub target_in : NameMap (Bor Target) → Name → Option Target
target_in m n = option_map (λ t. t.now) (found m n)
