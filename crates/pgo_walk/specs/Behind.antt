-- What is left behind a read.
use Rattle.std.specs.Prelude.{if◌then◌else◌, List, ◌∷◌, Option, Some, None}
use Rattle.pgo_base.specs.Lookup.{Name}
use Rattle.pgo_model.specs.Options.{on}
use Rattle.pgo_sections.specs.Code.{Place, Whole, Code, content_name}
use Rattle.pgo_sections.specs.Context.{is_assigned}
use Rattle.pgo_sections.specs.Expand.{Renames, Current, current}
use Rattle.pgo_walk.specs.Frames.{Frame, Run, Put}

-- the new content of g, if the block whose current values these are assigned it, and then the code, where w stands for y
abbrev pub behind_read : List Frame → Name → Name → Option Name → List (Name × Place) → Code → Renames → Name → Current → List Frame
behind_read fs w g i ps c ren y mem =
    let rest = Run ps c ((w, y) ∷ ren) ∷ fs in
    on rest (if is_assigned mem then Some (current mem (Whole content_name)) else None) (λ e. Put g i ren e ∷ rest)
