-- The code of statements that branch, from that of their parts.
use Rattle.std.proofs.Common.{◌≡◌, ℕ, List, [], ◌∷◌, ◌++◌, map, Option, None, Some, ap, sym, ◌∙◌}
use Rattle.pgo_base.specs.Tree.{Tree}
use Rattle.pgo_syntax.specs.Statement.{Statement, while_do, Statements, more_statements, no_statements, LabeledStatements, more_labeled, no_labeled, GuardedStatements, more_guarded, no_guarded, labeled}
use Rattle.pgo_syntax.specs.StatementView.{statement, labeled_pair}
use Rattle.pgo_syntax.specs.declared.statement.Labeled.{Labeled}
use Rattle.pgo_syntax.specs.declared.name.PlacedName.{PlacedName}
use Rattle.pgo_sections.specs.Access.{MappedNames, evaluated}
use Rattle.pgo_sections.specs.Code.{Code, Codes, Empty, If, Seq, Goto, no_codes, more_codes}
use Rattle.pgo_meaning.specs.MacrosPlaced.{placed, placed_each, placed_among, placed_guarded}
use Rattle.pgo_meaning.specs.Statements.{Setting, label_of, code, branches, arms, in_order}
use Rattle.pgo_effects.specs.declared.piece.Effect.{Effect}
use Rattle.pgo_effects.specs.Around.{Surroundings, stands, stands_each, stands_among, stands_guarded, written_label}
use Rattle.pgo_effects.specs.Pieces.{code_with, arms_then}
use Rattle.pgo_effects.specs.Puts.{Layers, puts_tree}
use Rattle.pgo_effects.proofs.PieceLaws.{arms_then-append}
use Rattle.pgo_effects.proofs.PutLaws.{guarded_none, guarded_more, each_none, each_more, among_none, among_more, puts_while}

-- effects, and then what is made of r, are the reads of e, and then what is made of what is left
abbrev pub Evaluates : MappedNames → Layers → List Effect → Tree → Tree → Type 0
Evaluates m ls es r e = (f : Tree → Code) → code_with es (f r) ≡ evaluated m (puts_tree ls e) 0 (λ e' k. f e')

module _ (s : Setting) (a : Surroundings) where
  abbrev pub above : List ℕ
  above = written_label s a.label

  pub branch_code : (es : List Effect) (r e g : Tree) (p : ℕ) (t : Statement) (bs : GuardedStatements) (o x y : Code) → Evaluates s.mapped a.layers es r e → e ≡ g → x ≡ code s above (stands a t) → y ≡ branches s above (stands_guarded a bs) o → code_with es (If r x y) ≡ branches s above (stands_guarded a (more_guarded p g t bs)) o
  branch_code es r e g p t bs o x y step eg ex ey =
      step (λ r. If r x y)
      ∙ (λ i. evaluated s.mapped (puts_tree a.layers (eg i)) 0 (λ e' k. If e' (ex i) (ey i)))
      ∙ ap (λ l. branches s above l o) (sym (guarded_more a.layers p g (placed a.bodies t) (placed_guarded a.bodies bs)))

  pub no_branch : (o : Code) → branches s above (stands_guarded a no_guarded) o ≡ o
  no_branch o = ap (λ l. branches s above l o) (guarded_none a.layers)

  pub while_code : (es : List Effect) (r e : Tree) (p : ℕ) (t : Statement) (x : Code) → Evaluates s.mapped a.layers es r e → x ≡ Seq (code s above (stands a t)) (Goto above) → code_with es (If r x Empty) ≡ code s above (stands a (while_do p e t))
  while_code es r e p t x step ex =
      step (λ r. If r x Empty)
      ∙ (λ i. evaluated s.mapped (puts_tree a.layers e) 0 (λ e' k. If e' (ex i) Empty))
      ∙ ap (code s above) (sym (puts_while a.layers p e (placed a.bodies t)))

  abbrev pub arms_at : Statements → Codes
  arms_at ts = arms s above (stands_each a ts)

  pub no_arm : arms_at no_statements ≡ no_codes
  no_arm = ap (arms s above) (each_none a.layers)

  pub more_arms : (t : Statement) (ts : Statements) → arms_at (more_statements t ts) ≡ more_codes (code s above (stands a t)) (arms_at ts)
  more_arms t ts = ap (arms s above) (each_more a.layers (placed a.bodies t) (placed_each a.bodies ts))

  -- one alternative more is made
  pub arm_made : (cs new : List Code) (c : Code) (t : Statement) (ts : Statements) → new ≡ cs ++ c ∷ [] → c ≡ code s above (stands a t) → arms_then new (arms_at ts) ≡ arms_then cs (arms_at (more_statements t ts))
  arm_made cs new c t ts e ec =
      ap (λ l. arms_then l (arms_at ts)) e ∙ arms_then-append cs c (arms_at ts)
      ∙ (λ i. arms_then cs (more_codes (ec i) (arms_at ts))) ∙ ap (arms_then cs) (sym (more_arms t ts))

  pub no_order : in_order s above (stands_among a no_labeled) ≡ Empty
  no_order = ap (in_order s above) (among_none a.layers)

  pub order_unlabelled : (t : Statement) (ts : LabeledStatements) → in_order s above (stands_among a (more_labeled None t ts)) ≡ Seq (code s above (stands a t)) (in_order s above (stands_among a ts))
  order_unlabelled t ts = ap (in_order s above) (among_more a.layers None (placed a.bodies t) (placed_among a.bodies ts))

  pub order_labelled : (x : PlacedName) (t : Statement) (ts : LabeledStatements) → in_order s above (stands_among a (more_labeled (Some x) t ts)) ≡ Goto (label_of s.process x.name)
  order_labelled x t ts = ap (in_order s above) (among_more a.layers (Some x) (placed a.bodies t) (placed_among a.bodies ts))

  shape : (l : List Labeled) (f : Labeled) (r : List Labeled) (x : Option PlacedName) → l ≡ f ∷ r → f.label ≡ x → labeled (map labeled_pair l) ≡ more_labeled x (statement f.statement) (labeled (map labeled_pair r))
  shape l f r x e ex = ap (λ (l : List Labeled). labeled (map labeled_pair l)) e ∙ ap (λ y. more_labeled y (statement f.statement) (labeled (map labeled_pair r))) ex

  pub unlabelled_here : (l : List Labeled) (f : Labeled) (r : List Labeled) → l ≡ f ∷ r → f.label ≡ None → in_order s above (stands_among a (labeled (map labeled_pair l))) ≡ Seq (code s above (stands a (statement f.statement))) (in_order s above (stands_among a (labeled (map labeled_pair r))))
  unlabelled_here l f r e ex = ap (λ ls. in_order s above (stands_among a ls)) (shape l f r None e ex) ∙ order_unlabelled (statement f.statement) (labeled (map labeled_pair r))

  pub labelled_here : (l : List Labeled) (f : Labeled) (r : List Labeled) (x : PlacedName) → l ≡ f ∷ r → f.label ≡ Some x → in_order s above (stands_among a (labeled (map labeled_pair l))) ≡ Goto (label_of s.process x.name)
  labelled_here l f r x e ex = ap (λ ls. in_order s above (stands_among a ls)) (shape l f r (Some x) e ex) ∙ order_labelled x (statement f.statement) (labeled (map labeled_pair r))
