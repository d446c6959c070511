-- Every well-formed tree has a canonical text that is spelled as it, as an outermost expression and as an operand.
use Rattle.std.proofs.Common.{◌≡◌, true, ◌⊎◌, inl, inr, [], ◌∷◌}
use Rattle.pgo_base.specs.declared.expr.Infix.{Infix}
use Rattle.pgo_base.specs.declared.expr.Infix.TheVariants as op
use Rattle.pgo_base.specs.Tree.{Tree, Trees, no_trees, more_trees, NamedTrees, no_named, more_named, TreePairs, no_arms, more_arms, BoundTrees, no_bound, more_bound, PathTrees, no_paths, more_paths}
use Rattle.pgo_base.specs.Tree as e
use Rattle.pgo_expr_write.specs.WellFormed.{IsWellFormed, AreAll, AreAllNamed, AreAllArms, AreAllBinders, AreAllUpdates, is_word, is_member_of_word}
use Rattle.pgo_expr_write.proofs.Inners.{Outer, Inner, Over, inner_of, over_of}
use Rattle.pgo_expr_write.proofs.ItemRows.{Inners, InnerNamed, InnerArms, InnerBound, InnerPaths, no_inner, more_inner, no_field, more_field, no_arm, more_arm, no_binder, more_binder, no_update, more_update}
use Rattle.pgo_expr_write.proofs.OperatorForms.{name_form, primed_form, number_form, text_form, truth_form, at_form, word_form, unary_form, binary_form, member_form, word_over}
use Rattle.pgo_expr_write.proofs.ProductForms.{product_form}
use Rattle.pgo_expr_write.proofs.OpenForms.{cond_form, case_form, case_other_form, let_form, quantified_form, choose_form}
use Rattle.pgo_expr_write.proofs.BracketForms.{tuple_form, set_form, filter_form, image_form, fun_form, fun_set_form, record_form, record_set_form, except_form, index_form, field_form, call_form, unchanged_form}

member_by : (o : Infix) (a b : Tree) → is_member_of_word o b ≡ true → Inner a → Outer (e.binary o a b)
member_by op.In a (e.word w) m i = member_form w a i
member_by op.In a _ m i = cc
member_by _ a b m i = cc

over_word : (r : Tree) → is_word r ≡ true → Over r
over_word (e.word w) m = word_over w
over_word _ m = cc

over_by : (r : Tree) → (is_word r ≡ true) ⊎ IsWellFormed r → (IsWellFormed r → Inner r) → Over r
over_by r (inl m) f = over_word r m
over_by r (inr h) f = over_of r (f h)

binary_by : (o : Infix) (a b : Tree) → Inner a → (is_member_of_word o b ≡ true) ⊎ IsWellFormed b → (IsWellFormed b → Inner b) → Outer (e.binary o a b)
binary_by o a b i (inl m) f = member_by o a b m i
binary_by o a b i (inr h) f = binary_form o a b i (f h)

mutual
  pub outer : (a : Tree) → IsWellFormed a → Outer a
  outer (e.name x) h = name_form x h
  outer (e.primed x) h = primed_form x h
  outer (e.number z) h = number_form z h
  outer (e.text x) h = text_form x h
  outer (e.truth v) h = truth_form v
  outer e.at h = at_form
  outer (e.word w) h = word_form w h
  outer (e.unary o a) h = unary_form o a (inner_of a (outer a h))
  outer (e.binary o a b) h = binary_by o a b (inner_of a (outer a h.0)) h.1 (λ k. inner_of b (outer b k))
  outer (e.product no_trees) h = absurd h
  outer (e.product (more_trees a no_trees)) h = absurd h.1
  outer (e.product (more_trees a (more_trees b as'))) h = product_form a b as' (inner_of a (outer a h.0)) (inner_of b (outer b h.1.0)) (inners as' h.1.1)
  outer (e.cond_of a b c) h = cond_form a b c (inner_of a (outer a h.0)) (inner_of b (outer b h.1)) (inner_of c (outer c h.2))
  outer (e.case_of no_arms) h = absurd h
  outer (e.case_of (more_arms g a gs)) h = case_form g a gs (inner_of g (outer g h.0)) (inner_of a (outer a h.1)) (inner_arms gs h.2)
  outer (e.case_other no_arms c) h = absurd h.0
  outer (e.case_other (more_arms g a gs) c) h = case_other_form g a gs c (inner_of g (outer g h.0.0)) (inner_of a (outer a h.0.1)) (inner_arms gs h.0.2) (inner_of c (outer c h.1))
  outer (e.let_in no_named c) h = absurd h.0
  outer (e.let_in (more_named x a ds) c) h = let_form x a ds c h.0.0 (inner_of a (outer a h.0.1)) (inner_named ds h.0.2) (inner_of c (outer c h.1))
  outer (e.quantified q no_bound c) h = absurd h.0
  outer (e.quantified q (more_bound xs r bs) c) h = quantified_form q xs r bs c h.0.0 (over_by r h.0.1 (λ k. inner_of r (outer r k))) (inner_bound bs h.0.2) (inner_of c (outer c h.1))
  outer (e.choose x r c) h = choose_form x r c h.0 (over_by r h.1 (λ k. inner_of r (outer r k))) (inner_of c (outer c h.2))
  outer (e.tuple as') h = tuple_form as' (inners as' h)
  outer (e.set_of as') h = set_form as' (inners as' h)
  outer (e.filter_of x r c) h = filter_form x r c h.0 (over_by r h.1 (λ k. inner_of r (outer r k))) (inner_of c (outer c h.2))
  outer (e.image c x r) h = image_form c x r (inner_of c (outer c h.0)) h.1 (over_by r h.2 (λ k. inner_of r (outer r k)))
  outer (e.fun_of no_bound c) h = absurd h.0
  outer (e.fun_of (more_bound xs r bs) c) h = fun_form xs r bs c h.0.0 (over_by r h.0.1 (λ k. inner_of r (outer r k))) (inner_bound bs h.0.2) (inner_of c (outer c h.1))
  outer (e.fun_set a b) h = fun_set_form a b (inner_of a (outer a h.0)) (inner_of b (outer b h.1))
  outer (e.record_of no_named) h = absurd h
  outer (e.record_of (more_named x a ds)) h = record_form x a ds h.0 (inner_of a (outer a h.1)) (inner_named ds h.2)
  outer (e.record_set no_named) h = absurd h
  outer (e.record_set (more_named x a ds)) h = record_set_form x a ds h.0 (inner_of a (outer a h.1)) (inner_named ds h.2)
  outer (e.except f no_paths) h = absurd h.1
  outer (e.except f (more_paths no_trees a us)) h = absurd h.1.0
  outer (e.except f (more_paths (more_trees q ps) a us)) h = except_form f q ps a us (inner_of f (outer f h.0)) (inner_of q (outer q h.1.0.0)) (inners ps h.1.0.1) (inner_of a (outer a h.1.1)) (inner_updates us h.1.2)
  outer (e.index f no_trees) h = absurd h.1
  outer (e.index f (more_trees a as')) h = index_form f a as' (inner_of f (outer f h.0)) (inner_of a (outer a h.1.0)) (inners as' h.1.1)
  outer (e.field r x) h = field_form r x (inner_of r (outer r h.0)) h.1
  outer (e.call x no_trees) h = absurd h.1
  outer (e.call x (more_trees a as')) h = call_form x a as' h.0 (inner_of a (outer a h.1.0)) (inners as' h.1.1)
  outer (e.unchanged []) h = absurd h
  outer (e.unchanged (x ∷ xs)) h = unchanged_form x xs h.0 h.1

  inners : (as' : Trees) → AreAll as' → Inners as'
  inners no_trees h = no_inner
  inners (more_trees a as') h = more_inner (inner_of a (outer a h.0)) (inners as' h.1)

  inner_named : (ds : NamedTrees) → AreAllNamed ds → InnerNamed ds
  inner_named no_named h = no_field
  inner_named (more_named x a ds) h = more_field h.0 (inner_of a (outer a h.1)) (inner_named ds h.2)

  inner_arms : (gs : TreePairs) → AreAllArms gs → InnerArms gs
  inner_arms no_arms h = no_arm
  inner_arms (more_arms g a gs) h = more_arm (inner_of g (outer g h.0)) (inner_of a (outer a h.1)) (inner_arms gs h.2)

  inner_bound : (bs : BoundTrees) → AreAllBinders bs → InnerBound bs
  inner_bound no_bound h = no_binder
  inner_bound (more_bound xs r bs) h = more_binder h.0 (over_by r h.1 (λ k. inner_of r (outer r k))) (inner_bound bs h.2)

  inner_updates : (us : PathTrees) → AreAllUpdates us → InnerPaths us
  inner_updates no_paths h = no_update
  inner_updates (more_paths no_trees a us) h = absurd h.0
  inner_updates (more_paths (more_trees q ps) a us) h = more_update (inner_of q (outer q h.0.0)) (inners ps h.0.1) (inner_of a (outer a h.1)) (inner_updates us h.2)
