-- What a mapping macro's block does on a content, and so what code does that reads and writes mapped parameters by such blocks.
use Rattle.std.specs.Prelude.{◌≡◌, [], ◌∷◌, Option, Some}
use Rattle.pgo_base.specs.Data.{Data}
use Rattle.pgo_base.specs.Lookup.{Name, Names, Vars}
use Rattle.pgo_model.specs.Outcome.{NoValue}
use Rattle.pgo_model.specs.System.{Words}
use Rattle.pgo_sections.specs.Code.{Code, value_name}
use Rattle.pgo_sections.specs.Context.{Context, block_context, content, content_state, index_value, put_content, put_new}
use Rattle.pgo_sections.specs.Exec.{Stops, read_end, write_end, Reads, Writes, exec_with}
use Rattle.pgo_sections.specs.BoundValues.{bindable}
use Rattle.pgo_sections.specs.SectionRun.{SectionRun, begun, Out, Go, with_value}

-- a block has no mapped parameters
abbrev pub no_reads : Reads
no_reads block defs id old d choices = Stops NoValue choices

abbrev pub no_writes : Writes
no_writes block defs id old v d choices = Stops NoValue choices

abbrev pub exec_block : Context → Code → Names → Words → SectionRun → Out
exec_block = exec_with no_reads no_writes

-- a `read` block on the old content
abbrev pub block_read : Reads
block_read block defs id old d choices =
    read_end (exec_block (block_context defs id) block [] d (begun (content_state old) choices))

-- a `write` block, with the value that is written besides
abbrev pub block_write : Writes
block_write block defs id old v d choices =
    write_end (exec_block (block_context defs id) block ((value_name, Some v) ∷ []) d (begun (content_state old) choices))

-- what the code of a section does
abbrev pub exec : Context → Code → Names → Words → SectionRun → Out
exec = exec_with block_read block_write

-- what follows a read: w stands for its value in c, and a new content is put back
abbrev pub after_read : Context → Name → Name → Option Data → Code → Names → Words → Vars → Data × Option Data → SectionRun → Out
after_read k w g j c env d ch r then' =
    with_value (put_new k g j r.1 ch) then' (λ ch'. exec k c ((w, Some r.0) ∷ env) d (record then' { changes = ch' }))

-- what follows a write: the new content is put back
abbrev pub after_write : Context → Name → Option Data → Vars → Data → SectionRun → Out
after_write k g j ch new then' = with_value (put_content k g j (Some new) ch) then' (λ ch'. Go (record then' { changes = ch' }))

-- of a mapped parameter of g, whose index stands under i and is j, and whose content is `old`
abbrev pub IsMapped : Context → Name → Option Name → Names → Vars → Option Data → Data → Type 0
IsMapped k g i env ch j old = (index_value i env ≡ Some j) × (bindable (content k g j ch) ≡ Some old)
