-- What the parameters and locals of an archetype are in a process that runs it, and the blocks of its mapping macros.
use Rattle.std.specs.Prelude.{Bool, true, false, List, [], ◌∷◌, ◌++◌, map, Option, Some, None}
use Rattle.std.specs.List.{filter_map}
use Rattle.pgo_base.specs.Lookup.{Name}
use Rattle.pgo_base.specs.Tree.{name}
use Rattle.pgo_model.specs.Written.{written}
use Rattle.pgo_syntax.specs.Statement.{Statement, labeled}
use Rattle.pgo_syntax.specs.declared.archetype.Archetype.{Archetype}
use Rattle.pgo_syntax.specs.declared.archetype.Extent.{Extent}
use Rattle.pgo_syntax.specs.declared.archetype.Extent.TheVariants as extents
use Rattle.pgo_syntax.specs.declared.bound.Binding.{Binding}
use Rattle.pgo_syntax.specs.declared.bound.Mapping.{Mapping}
use Rattle.pgo_syntax.specs.declared.bound.Mapping.TheVariants.{Identity, Macro}
use Rattle.pgo_syntax.specs.declared.bound.Target.{Target}
use Rattle.pgo_syntax.specs.declared.bound.Target.TheVariants as targets
use Rattle.pgo_syntax.specs.declared.declaration.Declaration.{Declaration}
use Rattle.pgo_syntax.specs.declared.name.PlacedName.{PlacedName}
use Rattle.pgo_sections.specs.Access.{MappedNames}
use Rattle.pgo_sections.specs.Code.{Place, Whole, Own, Code, Yield, content_name, content_places, value_name}
use Rattle.pgo_meaning.specs.Statements.{Setting, in_order}

-- a mapping macro's block
abbrev pub block_setting : Setting
block_setting = record { process = []; mapped = []; places = content_places; is_block = true }

abbrev pub block_code : List (Option PlacedName × Statement) → Code
block_code b = in_order block_setting [] (labeled b)

abbrev pub reads_by : Mapping → Code
reads_by Identity = Yield (name content_name)
reads_by (Macro m) = block_code m.read

abbrev pub writes_by : Mapping → Code
writes_by Identity = Yield (name value_name)
writes_by (Macro m) = block_code m.write

abbrev pub by_element : Extent → Bool
by_element extents.Whole = false
by_element extents.Element = true

abbrev pub mapped_of : Name → Target → MappedNames → MappedNames
mapped_of x (targets.Value e) rest = rest
mapped_of x (targets.Global g e None) rest = rest
mapped_of x (targets.Global g e (Some m)) rest =
    (x, record { global = g; by_element = by_element e; reads = reads_by m; writes = writes_by m }) ∷ rest

abbrev pub all_mapped : List Binding → MappedNames
all_mapped [] = []
all_mapped (b ∷ bs) = mapped_of b.parameter b.target (all_mapped bs)

abbrev pub place_of : Name → Name → Target → List (Name × Place) → List (Name × Place)
place_of p x (targets.Value e) rest = (x, Own (written p x)) ∷ rest
place_of p x (targets.Global g e None) rest = (x, Whole g) ∷ rest
place_of p x (targets.Global g e (Some m)) rest = rest

abbrev pub parameter_places : Name → List Binding → List (Name × Place)
parameter_places p [] = []
parameter_places p (b ∷ bs) = place_of p b.parameter b.target (parameter_places p bs)

abbrev pub local_places : Name → List Declaration → List (Name × Place)
local_places p ds = map (λ d. (d.name.name, Own (written p d.name.name))) ds

-- the unmapped parameters, the value parameters and the locals
abbrev pub places_of : Name → Archetype → List Binding → List (Name × Place)
places_of p a bs = parameter_places p bs ++ local_places p a.locals

abbrev pub own_name : Place → Option Name
own_name (Whole x) = None
own_name (Own x) = Some x

-- the variables of the value parameters and the locals
abbrev pub own_variables : Name → Archetype → List Binding → List Name
own_variables p a bs = filter_map (λ q. own_name q.1) (places_of p a bs)

abbrev pub setting_of : Name → Archetype → List Binding → Setting
setting_of p a bs = record { process = p; mapped = all_mapped bs; places = places_of p a bs; is_block = false }
