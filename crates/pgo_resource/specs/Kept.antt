-- The parts that a board keeps of a bound specification, as contracts see them.
use Rattle.std.specs.Prelude.{List}
use Rattle.pgo_base.specs.Data.{Data}
use Rattle.pgo_base.specs.Lookup.{Name}
use Rattle.pgo_base.specs.View.{data_of}
use Rattle.pgo_bound.specs.State.{id_of, own_names}
use Rattle.pgo_syntax.specs.declared.bound.Instance.{Instance}
use Rattle.pgo_syntax.specs.declared.process.Process.{Process}
use Rattle.pgo_syntax.specs.declared.spec.Spec.{Spec}
use Rattle.pgo_resource.specs.declared.layout.Member.{Member}
use Rattle.pgo_resource.specs.declared.layout.OwnNames.{OwnNames}

-- an identifier with its process
abbrev pub member_view : Member → Data × Name
member_view m = (data_of m.id, m.process)

abbrev pub member_in : Instance → Data × Name
member_in i = (id_of i, i.process)

-- a process with its value parameters and locals
abbrev pub own_view : OwnNames → Name × List Name
own_view o = (o.process, o.names)

abbrev pub own_in : Spec → Process → Name × List Name
own_in s p = (p.name.name, own_names s p)
