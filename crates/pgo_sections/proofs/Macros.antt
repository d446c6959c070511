-- A section's reads and writes of a mapped parameter are what its macro's blocks do.
use Rattle.std.proofs.Common.{◌≡◌, Option, Some, ap, ◌∙◌}
use Rattle.pgo_base.specs.Data.{Data}
use Rattle.pgo_base.specs.Lookup.{Name, Names}
use Rattle.pgo_model.specs.System.{Words}
use Rattle.pgo_sections.specs.Code.{Code, Read, Write}
use Rattle.pgo_sections.specs.Context.{Context, content}
use Rattle.pgo_sections.specs.Exec.{if_gives, touching}
use Rattle.pgo_sections.specs.BoundValues.{bindable, value_under}
use Rattle.pgo_sections.specs.Macros.{block_read, block_write, exec, after_read, after_write, IsMapped}
use Rattle.pgo_sections.specs.SectionRun.{SectionRun, with_value}

pub read_is : (k : Context) (w g : Name) (i : Option Name) (block c : Code) (env : Names) (d : Words) (run : SectionRun) (j : Option Data) (old : Data) → IsMapped k g i env run.changes j old → exec k (Read w g i block c) env d run ≡ if_gives (block_read block k.defs k.id old d run.choices) (touching k g j run) (after_read k w g j c env d run.changes)
read_is k w g i block c env d run j old h =
    ap (λ o. with_value o run (λ j. with_value (bindable (content k g j run.changes)) (touching k g j run) (λ old. if_gives (block_read block k.defs k.id old d run.choices) (touching k g j run) (after_read k w g j c env d run.changes)))) h.0
    ∙ ap (λ o. with_value o (touching k g j run) (λ old. if_gives (block_read block k.defs k.id old d run.choices) (touching k g j run) (after_read k w g j c env d run.changes))) h.1

pub write_is : (k : Context) (w g : Name) (i : Option Name) (block : Code) (env : Names) (d : Words) (run : SectionRun) (j : Option Data) (old v : Data) → IsMapped k g i env run.changes j old → value_under w env ≡ Some v → exec k (Write g i w block) env d run ≡ if_gives (block_write block k.defs k.id old v d run.choices) (touching k g j run) (after_write k g j run.changes)
write_is k w g i block env d run j old v h hv =
    ap (λ o. with_value o run (λ j. with_value (bindable (content k g j run.changes)) (touching k g j run) (λ old. with_value (value_under w env) (touching k g j run) (λ v. if_gives (block_write block k.defs k.id old v d run.choices) (touching k g j run) (after_write k g j run.changes))))) h.0
    ∙ ap (λ o. with_value o (touching k g j run) (λ old. with_value (value_under w env) (touching k g j run) (λ v. if_gives (block_write block k.defs k.id old v d run.choices) (touching k g j run) (after_write k g j run.changes)))) h.1
    ∙ ap (λ o. with_value o (touching k g j run) (λ v. if_gives (block_write block k.defs k.id old v d run.choices) (touching k g j run) (after_write k g j run.changes))) hv
