-- What lies in memory while a specification is bound, as what it stands for.
use Rattle.std.specs.Prelude.{ℕ, map, Option, option_map}
use Rattle.pgo_base.specs.Data.{Data}
use Rattle.pgo_base.specs.View.{data_of}
use Rattle.pgo_base.specs.Lookup.{Name}
use Rattle.pgo_heads.specs.declared.start_values.Start as code_start
use Rattle.pgo_heads.specs.declared.start_values.Start.TheVariants as code_starts
use Rattle.pgo_heads.specs.declared.runs.Handed as code_handed
use Rattle.pgo_heads.specs.declared.runs.Run as code_run
use Rattle.pgo_bound.specs.Values.{Start, Missing, Empty, Begins}
use Rattle.pgo_bound.specs.Runs.{Run, Handed}
use Rattle.pgo_bound.specs.BoundOf.{GlobalStart}
use Rattle.pgo_heads.specs.declared.globals.GlobalStart as code_global
use Rattle.pgo_heads.specs.declared.globals.Part as code_part
use Rattle.pgo_heads.specs.declared.findings.Finding as code_finding

abbrev pub start_view : code_start.Start → Start
start_view code_starts.Missing = Missing
start_view code_starts.Empty = Empty
start_view (code_starts.Begins v) = Begins (data_of v)

abbrev pub handed_view : code_handed.Handed → Handed
handed_view h = record { number = h.number; parameter = h.parameter.now; argument = h.argument.now }

abbrev pub run_view : code_run.Run → Run
run_view r =
    record { process = r.process.now; archetype = r.archetype.now; handed = map handed_view r.handed.items; ids = option_map (λ v. map data_of v.items) r.ids }

abbrev pub global_view : code_global.GlobalStart → GlobalStart
global_view g = record { declaration = g.declaration.now; kind = g.kind; start = start_view g.start }

abbrev pub part_view : code_part.Part → Name × Option Data
part_view p = (p.global.now, option_map (λ r. data_of r.now) p.index)

abbrev pub finding_view : code_finding.Finding → ℕ × Name
finding_view f = (f.place, f.name.now)
