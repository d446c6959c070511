-- What comes before an assignment, and what it does then.
use Rattle.std.specs.Prelude.{ℕ, suc}
use Rattle.pgo_base.specs.Tree.{Tree}
use Rattle.pgo_syntax.specs.declared.assignment.Left.{Left}
use Rattle.pgo_syntax.specs.declared.assignment.Step.{Step}
use Rattle.pgo_syntax.specs.declared.assignment.Step.TheVariants as step
use Rattle.pgo_sections.specs.Access.{place, evaluated}
use Rattle.pgo_sections.specs.Code.{Code, Let, at_base, val_base}
use Rattle.pgo_meaning.specs.Statements.{Setting, Part, Index, Field, steps, assigned}
use Rattle.pgo_effects.specs.declared.assign.PathPart.{PathPart}
use Rattle.pgo_effects.specs.declared.assign.PathPart.TheVariants as held

abbrev pub part_view : PathPart → Part
part_view (held.Index i) = Index i
part_view (held.Field x) = Field x

module _ (s : Setting) where
  -- a step of a path, and then what f makes of it; k values stand already
  abbrev pub step_code : Step → ℕ → (Part → ℕ → Code) → Code
  step_code (step.Index e) k f = evaluated s.mapped e k (λ e' k'. Let at_base (place k') e' (f (Index (place k')) (suc k')))
  step_code (step.Field x) k f = f (Field x) k

  -- what comes before an assignment, and then what f makes of what it does
  abbrev pub assignment_at : Left → Tree → ℕ → (Code → ℕ → Code) → Code
  assignment_at l e k f =
      steps s l.path k (λ path k1. evaluated s.mapped e k1 (λ e' k2.
      Let val_base (place k2) e' (f (assigned s l.name.name path (place k2)) (suc k2))))
