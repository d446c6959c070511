-- What a macro's call does: its body in the place of the call.
use Rattle.std.proofs.Common.{◌≡◌, ℕ, List, [], ◌∷◌, Option, Some, None, ap, sym, ◌∙◌}
use Rattle.pgo_base.specs.Lookup.{find}
use Rattle.pgo_base.specs.Tree.{Tree}
use Rattle.pgo_model.specs.Options.{on}
use Rattle.pgo_syntax.specs.Statement.{Statement, LabeledStatements, block, call_macro}
use Rattle.pgo_syntax.specs.declared.name.PlacedName.{PlacedName}
use Rattle.pgo_sections.specs.Code.{Empty, Skip, in_turn}
use Rattle.pgo_meaning.specs.MacrosPlaced.{Arguments, Body, handed, walked, put, put_among}
use Rattle.pgo_meaning.specs.Statements.{Setting, code, in_order}
use Rattle.pgo_effects.specs.Around.{Surroundings, stands, written_label}
use Rattle.pgo_effects.specs.Puts.{puts, puts_among}
use Rattle.pgo_effects.proofs.PutLaws.{puts_call, puts_walked, puts_block}

module _ (s : Setting) (a : Surroundings) where
  abbrev pub above : List ℕ
  above = written_label s a.label

  pub body_code : (n : ℕ) (es fs : Arguments) (ls : LabeledStatements) → es ≡ fs → in_turn (Skip ∷ in_order s above (puts_among (es ∷ a.layers) ls) ∷ []) ≡ code s above (puts a.layers (walked n (put fs (block 0 ls))))
  body_code n es fs ls ee =
      ap (λ f. in_turn (Skip ∷ in_order s above (puts_among (f ∷ a.layers) ls) ∷ [])) ee
      ∙ ap (λ t. in_turn (Skip ∷ code s above t ∷ [])) (sym (puts_block a.layers 0 (put_among fs ls)))
      ∙ ap (code s above) (sym (puts_walked a.layers n (put fs (block 0 ls))))

  abbrev pub at_call : ℕ → PlacedName → List Tree → Option Body → Statement
  at_call n m ts o = on (call_macro n m ts) o (λ b. walked n (put (handed b.parameters ts) b.statement))

  pub no_macro : (n : ℕ) (m : PlacedName) (ts : List Tree) (o : Option Body) → o ≡ None → o ≡ find m.name a.bodies → Empty ≡ code s above (stands a (call_macro n m ts))
  no_macro n m ts o none e =
      ap (code s above) (sym (puts_call a.layers n m ts))
      ∙ ap (λ o. code s above (puts a.layers (at_call n m ts o))) (sym none ∙ e)

  pub macro_here : (n : ℕ) (m : PlacedName) (ts : List Tree) (o : Option Body) (b : Body) → o ≡ Some b → o ≡ find m.name a.bodies → code s above (puts a.layers (walked n (put (handed b.parameters ts) b.statement))) ≡ code s above (stands a (call_macro n m ts))
  macro_here n m ts o b here e = ap (λ o. code s above (puts a.layers (at_call n m ts o))) (sym here ∙ e)
