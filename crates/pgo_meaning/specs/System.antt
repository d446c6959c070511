-- What a run has to know of a bound specification: it is a system, whose sections are attempts at those of its labels.
use Rattle.std.specs.Prelude.{List, map, filter, Option, Some, None}
use Rattle.std.specs.List.{filter_map, flat_map}
use Rattle.pgo_base.specs.Data.{Data}
use Rattle.pgo_base.specs.Lookup.{Name, same_name}
use Rattle.pgo_model.specs.System.{Resource, Member, Owned, System}
use Rattle.pgo_model.specs.Written.{written}
use Rattle.pgo_syntax.specs.declared.bound.Binding.{Binding}
use Rattle.pgo_syntax.specs.declared.bound.Bound.{Bound}
use Rattle.pgo_syntax.specs.declared.bound.Instance.{Instance}
use Rattle.pgo_syntax.specs.declared.bound.Resource as resource
use Rattle.pgo_syntax.specs.declared.bound.Target.{Target}
use Rattle.pgo_syntax.specs.declared.bound.Target.TheVariants as targets
use Rattle.pgo_syntax.specs.declared.process.Process.{Process}
use Rattle.pgo_bound.specs.Sound.{index_in}
use Rattle.pgo_bound.specs.State.{id_of, own_names}
use Rattle.pgo_meaning.specs.Attempt.{SectTry}

abbrev pub global_in : Target → Option Name
global_in (targets.Value e) = None
global_in (targets.Global g e m) = Some g

-- the globals that parameters are bound to
abbrev pub globals_in : List Binding → List Name
globals_in bs = filter_map (λ x. global_in x.target) bs

abbrev pub member_of : Instance → Member
member_of i = record { id = id_of i; globals = globals_in i.bindings }

-- the identifiers with which a process has instances
abbrev pub ids_of : Bound → Process → List Data
ids_of b p = map id_of (filter (λ i. same_name p.name.name i.process) b.instances)

-- a value parameter or a local of a process
abbrev pub owned : Bound → Process → Name → Owned
owned b p x = record { variable = written p.name.name x; ids = ids_of b p }

abbrev pub owned_by : Bound → Process → List Owned
owned_by b p = map (owned b p) (own_names b.spec p)

abbrev pub resource_of : resource.Resource → Resource
resource_of r = record { number = r.number; global = r.global; index = index_in r }

abbrev pub system_of : Bound → System
system_of b = record {
  members = map member_of b.instances;
  own = flat_map (owned_by b) b.spec.processes;
  resources = map resource_of b.resources;
  start = b.start;
  sect = SectTry b;
}
