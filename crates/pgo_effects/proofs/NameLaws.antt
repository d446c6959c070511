-- What binds the names of a `with` under the arguments of macros.
use Rattle.std.proofs.Common.{◌≡◌, ℕ, List, [], ◌∷◌, ◌++◌, refl, ap, sym, ◌∙◌}
use Rattle.pgo_base.specs.Lookup.{Name}
use Rattle.pgo_base.specs.Tree.{Tree}
use Rattle.pgo_syntax.specs.Statement.{Statement, with_in}
use Rattle.pgo_syntax.specs.declared.binding.Origin.{Origin}
use Rattle.pgo_syntax.specs.declared.binding.Origin.TheVariants.{Equals, In}
use Rattle.pgo_syntax.specs.declared.binding.WithName.{WithName}
use Rattle.pgo_sections.specs.Access.{evaluated}
use Rattle.pgo_sections.specs.Code.{Code}
use Rattle.pgo_meaning.specs.MacrosPlaced.{unmarked, placed}
use Rattle.pgo_meaning.specs.Statements.{Setting, bind_name, bind_names, code}
use Rattle.pgo_effects.specs.declared.piece.Effect.{Effect}
use Rattle.pgo_effects.specs.Around.{Surroundings, stands, written_label}
use Rattle.pgo_syntax.specs.Origins.{origin_tree}
use Rattle.pgo_effects.specs.Origins.{with_value, binding_code}
use Rattle.pgo_effects.specs.Pieces.{effect_code, code_with}
use Rattle.pgo_effects.specs.Puts.{Layers, puts, puts_tree, puts_origin, puts_name, puts_names, behind_name, behind_names, marked_by}
use Rattle.pgo_effects.proofs.PieceLaws.{pushed, from_none}
use Rattle.pgo_effects.proofs.PutLaws.{puts_equals, puts_in, puts_with}

origin_put : (ls : Layers) (o : Origin) → puts_origin ls o ≡ with_value o (puts_tree ls (origin_tree o))
origin_put ls (Equals e) = puts_equals ls e
origin_put ls (In e) = puts_in ls e

bound_by : (s : Setting) (o : Origin) (x : Name) (v : Tree) (c : Code) → evaluated s.mapped v 0 (λ e k. binding_code o (unmarked x) x e c) ≡ bind_name s x (with_value o v) c
bound_by s (Equals e) x v c = refl
bound_by s (In e) x v c = refl

module _ (s : Setting) where
  pub binding_added : (es mid new : List Effect) (f : Effect) (o : Origin) (b x : Name) (v r : Tree) (k : ℕ) → b ≡ unmarked x → ((g : Tree → ℕ → Code) → code_with mid (g r k) ≡ code_with es (evaluated s.mapped v 0 g)) → ((c : Code) → effect_code f c ≡ binding_code o b x r c) → new ≡ mid ++ f ∷ [] → (c : Code) → code_with new c ≡ code_with es (bind_name s x (with_value o v) c)
  binding_added es mid new f o b x v r k eb step ef e c =
      pushed mid new f e c
      ∙ ap (code_with mid) (ef c ∙ ap (λ b. binding_code o b x r c) eb)
      ∙ step (λ e k. binding_code o (unmarked x) x e c)
      ∙ ap (code_with es) (bound_by s o x v c)

  pub name_added : (es new : List Effect) (ls : Layers) (w : WithName) (x : Name) (v g : Tree) → g ≡ origin_tree w.origin → x ≡ marked_by ls w.name.name → v ≡ puts_tree ls g → ((c : Code) → code_with new c ≡ code_with es (bind_name s x (with_value w.origin v) c)) → (c : Code) → code_with new c ≡ code_with es (bind_name s (puts_name ls w).name.name (puts_name ls w).origin c)
  name_added es new ls w x v g eg ex ev step c =
      step c
      ∙ (λ i. code_with es (bind_name s (ex i) (with_value w.origin ((ev ∙ ap (puts_tree ls) eg) i)) c))
      ∙ ap (λ o. code_with es (bind_name s (marked_by ls w.name.name) o c)) (sym (origin_put ls w.origin))

  -- one name more is bound, with `rest` behind it
  pub one_more : (first es new : List Effect) (ls ms : Layers) (w : WithName) (rest all : List WithName) (whole : Layers) → ms ≡ behind_name ls w.name.name → ((c : Code) → code_with new c ≡ code_with es (bind_name s (puts_name ls w).name.name (puts_name ls w).origin c)) → ((c : Code) → code_with es (bind_names s (puts_names ls (w ∷ rest)) c) ≡ code_with first (bind_names s (puts_names whole all) c)) → (c : Code) → code_with new (bind_names s (puts_names ms rest) c) ≡ code_with first (bind_names s (puts_names whole all) c)
  one_more first es new ls ms w rest all whole em step inv c =
      ap (λ l. code_with new (bind_names s (puts_names l rest) c)) em ∙ step (bind_names s (puts_names (behind_name ls w.name.name) rest) c) ∙ inv c

  pub with_code : (a : Surroundings) (es new : List Effect) (ls : Layers) (ms : Layers) (n : ℕ) (ws : List WithName) (t : Statement) (x : Code) → ls ≡ a.layers → es ≡ [] → ms ≡ behind_names ls ws → ((c : Code) → code_with new c ≡ code_with es (bind_names s (puts_names ls ws) c)) → x ≡ code s (written_label s a.label) (puts ms (placed a.bodies t)) → code_with new x ≡ code s (written_label s a.label) (stands a (with_in n ws t))
  with_code a es new ls ms n ws t x el ee em step ex =
      step x
      ∙ from_none es ee (bind_names s (puts_names ls ws) x)
      ∙ (λ i. bind_names s (puts_names (el i) ws) ((ex ∙ ap (λ l. code s (written_label s a.label) (puts l (placed a.bodies t))) (em ∙ ap (λ l. behind_names l ws) el)) i))
      ∙ ap (code s (written_label s a.label)) (sym (puts_with a.layers n ws (placed a.bodies t)))
