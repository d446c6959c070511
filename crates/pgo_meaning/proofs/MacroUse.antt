-- Sections run mapping macros: of a mapped parameter, a read is MacRead and a write is MacWrite.
use Rattle.std.proofs.Common.{◌≡◌, Some, None, ap}
use Rattle.pgo_base.specs.Data.{Data}
use Rattle.pgo_base.specs.declared.module.Defined.{Defined}
use Rattle.std.specs.Prelude.{List}
use Rattle.pgo_model.specs.System.{Words}
use Rattle.pgo_syntax.specs.declared.bound.Mapping.TheVariants.{Identity}
use Rattle.pgo_sections.specs.Context.{content_state}
use Rattle.pgo_sections.specs.Exec.{Gives, read_end, write_end}
use Rattle.pgo_sections.specs.BoundValues.{bindable}
use Rattle.pgo_sections.specs.SectionRun.{ChoiceMade, begun, Yielded, with_value}
use Rattle.pgo_meaning.specs.Macros.{MacRead, MacWrite}

pub identity_reads : (ds : List Defined) (id old : Data) (d : Words) (choices : List ChoiceMade) → bindable (Some old) ≡ Some old → MacRead Identity ds id old d choices ≡ Gives (old, None) choices
identity_reads ds id old d choices h =
    ap (λ o. read_end (with_value o (begun (content_state old) choices) (λ v. Yielded v (begun (content_state old) choices)))) h

pub identity_writes : (ds : List Defined) (id old v : Data) (d : Words) (choices : List ChoiceMade) → bindable (Some v) ≡ Some v → MacWrite Identity ds id old v d choices ≡ Gives v choices
identity_writes ds id old v d choices h =
    ap (λ o. write_end (with_value o (begun (content_state old) choices) (λ v. Yielded v (begun (content_state old) choices)))) h
