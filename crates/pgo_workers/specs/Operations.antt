-- What a read and a write of a resource do, by a mapping macro on its content, or on the part of the content at an index.
-- Source: the Modular PlusCal paper.
use Rattle.std.specs.Prelude.{◌≡◌, List, Option, Some, None}
use Rattle.pgo_base.specs.Data.{Data}
use Rattle.pgo_base.specs.declared.module.Defined.{Defined}
use Rattle.pgo_model.specs.Operators.{apply, except}
use Rattle.pgo_model.specs.Options.{on}
use Rattle.pgo_model.specs.Outcome.{NoValue}
use Rattle.pgo_model.specs.System.{Words}
use Rattle.pgo_syntax.specs.declared.bound.Mapping.{Mapping}
use Rattle.pgo_sections.specs.Exec.{MacroEnd, Gives, Stops}
use Rattle.pgo_sections.specs.SectionRun.{ChoiceMade}
use Rattle.pgo_meaning.specs.Macros.{MacRead, MacWrite}

-- the content, or its part at an index
abbrev pub part_of : Option Data → Data → Option Data
part_of None v = Some v
part_of (Some i) v = apply v i

-- the content v with another part
abbrev pub with_part : Option Data → Data → Data → Option Data
with_part None new v = Some new
with_part (Some i) new v = except v i new

abbrev pub read_put : Option Data → Data → MacroEnd (Data × Option Data) → MacroEnd (Data × Data)
read_put at v (Gives r cs) = on (Gives (r.0, v) cs) r.1 (λ new. on (Stops NoValue cs) (with_part at new v) (λ w. Gives (r.0, w) cs))
read_put at v (Stops kind cs) = Stops kind cs

abbrev pub write_put : Option Data → Data → MacroEnd Data → MacroEnd Data
write_put at v (Gives new cs) = on (Stops NoValue cs) (with_part at new v) (λ w. Gives w cs)
write_put at v (Stops kind cs) = Stops kind cs

-- a read on the content v gives a value and the new content, after the choices cs
abbrev pub read_of : Mapping → List Defined → (id : Data) → (at : Option Data) → Words → (v : Data) → List ChoiceMade → MacroEnd (Data × Data)
read_of m ds id at d v cs = on (Stops NoValue cs) (part_of at v) (λ old. read_put at v (MacRead m ds id old d cs))

-- a write of x on the content v gives the new content
abbrev pub write_of : Mapping → List Defined → (id : Data) → (at : Option Data) → (x : Data) → Words → (v : Data) → List ChoiceMade → MacroEnd Data
write_of m ds id at x d v cs = on (Stops NoValue cs) (part_of at v) (λ old. write_put at v (MacWrite m ds id old x d cs))

-- after the choices `before` it ends so, with the choices `after` then, those of before among them; the newest is the first
abbrev pub Ends : {A : Type 0} → (List ChoiceMade → MacroEnd A) → (before after : List ChoiceMade) → (List ChoiceMade → MacroEnd A) → Type 0
Ends f before after e = f before ≡ e after
