-- What an expression sees as it lies in memory, as the scope that it stands for.
use Rattle.std.specs.Prelude.{List, [], Option, None, take, map, option_map}
use Rattle.pgo_base.specs.View.{data_of}
use Rattle.pgo_base.specs.Data.{Data}
use Rattle.pgo_base.specs.Lookup.{Name, Vars}
use Rattle.pgo_eval.specs.declared.scope.Scope as lent
use Rattle.pgo_model.specs.ModuleView.{defined_view}
use Rattle.pgo_model.specs.Val.{Scope, Defined, meanings, name_values}

abbrev pub next_view : lent.Scope → Option Vars
next_view s = option_map (λ r. r.now) s.around.next

abbrev pub scope_view : lent.Scope → Scope
scope_view s = record {
  names = s.names.now;
  part = option_map (λ r. data_of r.now) s.part;
  now = s.around.state.now;
  next = next_view s;
  defs = meanings (map defined_view (take s.seen s.defs.now)) s.around.state.now (next_view s);
}

-- what a definition's body sees: its arguments, and the definitions before it
abbrev pub body_scope : List Name → List Data → List Defined → Vars → Option Vars → Scope
body_scope ps args before now next = record {
  names = name_values ps args [];
  part = None;
  now = now;
  next = next;
  defs = meanings before now next;
}
