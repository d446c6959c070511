-- What comes before assignments, part by part.
use Rattle.std.proofs.Common.{◌≡◌, ℕ, suc, List, [], ◌∷◌, ◌++◌, map, refl, ap, sym, ◌∙◌, append_assoc, append-nil}
use Rattle.pgo_base.specs.ExprView.{tree}
use Rattle.pgo_base.specs.Lookup.{Name}
use Rattle.pgo_base.specs.Tree.{Tree}
use Rattle.pgo_base.specs.declared.expr.Expr.{Expr}
use Rattle.pgo_bound.specs.StartNames.{map-append}
use Rattle.pgo_syntax.specs.declared.assignment.Assignment.{Assignment}
use Rattle.pgo_syntax.specs.declared.assignment.Left.{Left}
use Rattle.pgo_syntax.specs.declared.assignment.Step.{Step}
use Rattle.pgo_syntax.specs.declared.assignment.Step.TheVariants as step
use Rattle.pgo_sections.specs.Access.{MappedNames, place, evaluated}
use Rattle.pgo_sections.specs.Code.{Code, at_base, val_base}
use Rattle.pgo_sections.specs.Code as codes
use Rattle.pgo_meaning.specs.Statements.{Setting, Part, Index, steps, assigned, assign_all}
use Rattle.pgo_effects.specs.declared.assign.PathPart.{PathPart}
use Rattle.pgo_effects.specs.declared.piece.Effect.{Effect}
use Rattle.pgo_effects.specs.declared.piece.Effect.TheVariants.{Let}
use Rattle.pgo_effects.specs.Assigned.{part_view, step_code, assignment_at}
use Rattle.pgo_effects.specs.Pieces.{code_with}
use Rattle.pgo_effects.proofs.PieceLaws.{pushed}

pub place_bound : (m : MappedNames) (es mid new : List Effect) (b x n : Name) (v : Expr) (e : Tree) (u k : ℕ) → x ≡ b → n ≡ place k → ((f : Tree → ℕ → Code) → code_with mid (f (tree v) k) ≡ code_with es (evaluated m e u f)) → new ≡ mid ++ Let x n v ∷ [] → (f : ℕ → Code) → code_with new (f k) ≡ code_with es (evaluated m e u (λ e' k'. codes.Let b (place k') e' (f k')))
place_bound m es mid new b x n v e u k eb en had made f =
    pushed mid new (Let x n v) made (f k)
    ∙ (λ i. code_with mid (codes.Let (eb i) (en i) (tree v) (f k)))
    ∙ had (λ e' k'. codes.Let b (place k') e' (f k'))

module _ (s : Setting) where
  pub step_index : (es new : List Effect) (t : Step) (e g : Tree) (n : Name) (u k j : ℕ) → t ≡ step.Index e → g ≡ e → n ≡ place k → j ≡ suc k → ((f : ℕ → Code) → code_with new (f k) ≡ code_with es (evaluated s.mapped g u (λ e' k'. codes.Let at_base (place k') e' (f k')))) → (f : Part → ℕ → Code) → code_with new (f (Index n) j) ≡ code_with es (step_code s t u f)
  step_index es new t e g n u k j et eg en ej had f =
      (λ i. code_with new (f (Index (en i)) (ej i)))
      ∙ had (λ k'. f (Index (place k')) (suc k'))
      ∙ ap (λ z. code_with es (step_code s (step.Index z) u f)) eg
      ∙ ap (λ z. code_with es (step_code s z u f)) (sym et)

  step_first : (t : Step) (rest : List Step) (k : ℕ) (f : List Part → ℕ → Code) → step_code s t k (λ q k'. steps s rest k' (λ ps. f (q ∷ ps))) ≡ steps s (t ∷ rest) k f
  step_first (step.Index e) rest k f = refl
  step_first (step.Field x) rest k f = refl

  row_more : (parts new : List PathPart) (p : PathPart) (ps : List Part) → new ≡ parts ++ p ∷ [] → map part_view new ++ ps ≡ map part_view parts ++ part_view p ∷ ps
  row_more parts new p ps e =
      ap (λ l. map part_view l ++ ps) e ∙ ap (λ l. l ++ ps) (map-append part_view parts (p ∷ [])) ∙ append_assoc (map part_view parts) (part_view p ∷ []) ps

  -- one step more is made
  pub step_made : (first es new : List Effect) (parts more : List PathPart) (p : PathPart) (t : Step) (rest path : List Step) (u k j : ℕ) → more ≡ parts ++ p ∷ [] → ((g : Part → ℕ → Code) → code_with new (g (part_view p) j) ≡ code_with es (step_code s t k g)) → ((f : List Part → ℕ → Code) → code_with es (steps s (t ∷ rest) k (λ ps. f (map part_view parts ++ ps))) ≡ code_with first (steps s path u f)) → (f : List Part → ℕ → Code) → code_with new (steps s rest j (λ ps. f (map part_view more ++ ps))) ≡ code_with first (steps s path u f)
  step_made first es new parts more p t rest path u k j em had inv f =
      (λ i. code_with new (steps s rest j (λ ps. f (row_more parts more p ps em i))))
      ∙ had (λ q k'. steps s rest k' (λ ps. f (map part_view parts ++ q ∷ ps)))
      ∙ ap (code_with es) (step_first t rest k (λ ps. f (map part_view parts ++ ps)))
      ∙ inv f

  pub steps_made : (first es : List Effect) (parts : List PathPart) (left path : List Step) (u k : ℕ) → left ≡ [] → ((f : List Part → ℕ → Code) → code_with es (steps s left k (λ ps. f (map part_view parts ++ ps))) ≡ code_with first (steps s path u f)) → (f : List Part → ℕ → Code) → code_with es (f (map part_view parts) k) ≡ code_with first (steps s path u f)
  steps_made first es parts left path u k none inv f =
      ap (λ l. code_with es (f l k)) (sym (append-nil (map part_view parts)))
      ∙ ap (λ l. code_with es (steps s l k (λ ps. f (map part_view parts ++ ps)))) (sym none)
      ∙ inv f

  pub assignment_made : (e0 e1 e2 : List Effect) (l : Left) (path : List Step) (ps : List Part) (right : Tree) (x n : Name) (c : Code) (u k k' j : ℕ) → path ≡ l.path → x ≡ l.name.name → ((f : List Part → ℕ → Code) → code_with e1 (f ps k) ≡ code_with e0 (steps s path u f)) → ((f : ℕ → Code) → code_with e2 (f k') ≡ code_with e1 (evaluated s.mapped right k (λ e i. codes.Let val_base (place i) e (f i)))) → n ≡ place k' → c ≡ assigned s x ps n → j ≡ suc k' → (f : Code → ℕ → Code) → code_with e2 (f c j) ≡ code_with e0 (assignment_at s l right u f)
  assignment_made e0 e1 e2 l path ps right x n c u k k' j ep ex before bound en ec ej f =
      (λ i. code_with e2 (f ((ec ∙ (λ h. assigned s (ex h) ps (en h))) i) (ej i)))
      ∙ bound (λ h. f (assigned s l.name.name ps (place h)) (suc h))
      ∙ before (λ qs k1. evaluated s.mapped right k1 (λ e' k2. codes.Let val_base (place k2) e' (f (assigned s l.name.name qs (place k2)) (suc k2))))
      ∙ ap (λ p. code_with e0 (steps s p u (λ qs k1. evaluated s.mapped right k1 (λ e' k2. codes.Let val_base (place k2) e' (f (assigned s l.name.name qs (place k2)) (suc k2)))))) ep

  pub assignment_put : (es new : List Effect) (l m : Left) (right e : Tree) (c : Code) (u j : ℕ) → l ≡ m → right ≡ e → ((f : Code → ℕ → Code) → code_with new (f c j) ≡ code_with es (assignment_at s l right u f)) → (f : Code → ℕ → Code) → code_with new (f c j) ≡ code_with es (assignment_at s m e u f)
  assignment_put es new l m right e c u j el er had f = had f ∙ (λ i. code_with es (assignment_at s (el i) (er i) u f))

  -- one assignment more is made
  pub one_assigned : (first es new : List Effect) (cs more : List Code) (c : Code) (a : Assignment) (rest all : List Assignment) (k j : ℕ) → more ≡ cs ++ c ∷ [] → ((f : Code → ℕ → Code) → code_with new (f c j) ≡ code_with es (assignment_at s a.left a.right k f)) → code_with es (assign_all s (a ∷ rest) k cs) ≡ code_with first (assign_all s all 0 []) → code_with new (assign_all s rest j more) ≡ code_with first (assign_all s all 0 [])
  one_assigned first es new cs more c a rest all k j em had inv =
      ap (λ l. code_with new (assign_all s rest j l)) em ∙ had (λ d k'. assign_all s rest k' (cs ++ d ∷ [])) ∙ inv
