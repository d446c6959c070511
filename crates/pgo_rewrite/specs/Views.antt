-- What is read and hoisted, as it lies in memory, without any trace of that.
use Rattle.std.specs.Prelude.{List, map, Option, Some, None, option_map}
use Rattle.pgo_base.specs.Tree.{Tree}
use Rattle.pgo_base.specs.ExprView.{tree, named_tree}
use Rattle.pgo_sections.specs.Access.{Mapped, MappedRead, Hoisted}
use Rattle.pgo_syntax.specs.declared.bound.Target.{Target}
use Rattle.pgo_syntax.specs.declared.bound.Target.TheVariants as targets
use Rattle.pgo_meaning.specs.Parameters.{reads_by, writes_by, by_element}
use Rattle.pgo_rewrite.specs.declared.mapped.Mapped.{Mapped as Lent}
use Rattle.pgo_rewrite.specs.declared.reads.Read.{Read}
use Rattle.pgo_rewrite.specs.declared.reads.Hoisted.{Hoisted as Held}

abbrev pub mapped_view : Lent → Mapped
mapped_view m = record { global = m.global.now; by_element = m.by_element; reads = reads_by m.mapping.now; writes = writes_by m.mapping.now }

-- the mapped parameter behind a target
abbrev pub of_target : Target → Option Mapped
of_target (targets.Value e) = None
of_target (targets.Global g e None) = None
of_target (targets.Global g e (Some m)) = Some (record { global = g; by_element = by_element e; reads = reads_by m; writes = writes_by m })

abbrev pub read_view : Read → MappedRead
read_view r = record { mapped = mapped_view r.mapped; index = option_map named_tree r.index; value = r.value }

abbrev pub read_views : List Read → List MappedRead
read_views rs = map read_view rs

abbrev pub hoisted_view : Held → Hoisted Tree
hoisted_view h = record { reads = read_views h.reads.items; rest = tree h.rest; used = h.used }
