-- What is spelled is read.
use Rattle.std.proofs.Common.{List}
use Rattle.pgo_base.specs.Tree.{Tree}
use Rattle.pgo_lexer.specs.declared.token.Token.{Token}
use Rattle.pgo_expr_read.specs.declared.table.Form.{Form}
use Rattle.pgo_expr_read.specs.declared.read.Ending.{Ending}
use Rattle.pgo_expr_read.specs.Kinds.{Kind, ItemOf}
use Rattle.pgo_expr_read.specs.Kinds as kind
use Rattle.pgo_expr_read.specs.Spells.{Spelled, Range, Item, Behind, Items}
use Rattle.pgo_expr_read.specs.Spells as s
use Rattle.pgo_expr_read.proofs.Reach.{Reaches}
use Rattle.pgo_expr_read.proofs.ReachLists.{ReachesRange, ReachesItem, ReachesBehind, ReachesItems, ReachesJoined, reach_any, reach_endless, reach_tree, reach_item, reach_binder, reach_field, reach_definition, reach_arm, reach_index_step, reach_tuple_step, reach_field_step, reach_update, reach_none, reach_one_more, reach_items, reach_joined_none, reach_joined_more, reach_junction, reach_parens}
use Rattle.pgo_expr_read.proofs.ReachForms.{reach_name, reach_primed, reach_number, reach_text, reach_truth, reach_at, reach_boolean, reach_variable, reach_value, reach_call, reach_unary, reach_operation, reach_member, reach_index, reach_select}
use Rattle.pgo_expr_read.proofs.ReachBrackets.{reach_no_tuple, reach_no_set, reach_tuple, reach_filter, reach_set, reach_image, reach_fun_of, reach_record_of, reach_record_set, reach_fun_set, reach_except, reach_unchanged, reach_quantified, reach_choose, reach_cond_of, reach_let_in, reach_case_of, reach_case_other}

mutual
  pub reach : {f : Form} {o : Ending} {front : List Token} {a : Tree} → Spelled f o front a → Reaches f o front a
  reach s.name = reach_name
  reach s.primed = reach_primed
  reach s.number = reach_number
  reach s.text = reach_text
  reach s.truth = reach_truth
  reach s.at = reach_at
  reach s.boolean = reach_boolean
  reach s.variable = reach_variable
  reach s.value = reach_value
  reach (s.parens d) = reach_parens (reach d)
  reach (s.junction {op = op} d b) = reach_junction op b (reach d) (reach_joined b)
  reach (s.unary h d) = reach_unary h (reach d)
  reach (s.operation h l d d') = reach_operation h l d d' (reach d) (reach d')
  reach (s.member k h m d) = reach_member k h m (reach d)
  reach (s.index h d m) = reach_index h m (reach d) (reach_list m)
  reach (s.select h d) = reach_select h (reach d)
  reach (s.call m) = reach_call m (reach_list m)
  reach s.no_tuple = reach_no_tuple
  reach (s.tuple m) = reach_tuple m (reach_list m)
  reach s.no_set = reach_no_set
  reach (s.set h d b) = reach_set h d b (reach d) (reach_behind b)
  reach (s.filter r d) = reach_filter r (reach_range r) (reach d)
  reach (s.image h d r) = reach_image h d r (reach d) (reach_range r)
  reach (s.fun_of m d) = reach_fun_of m (reach_list m) (reach d)
  reach (s.fun_set h d d') = reach_fun_set h d (reach d) (reach d')
  reach (s.record_of m) = reach_record_of m (reach_list m)
  reach (s.record_set m) = reach_record_set m (reach_list m)
  reach (s.except h d m) = reach_except h d m (reach d) (reach_list m)
  reach s.unchanged = reach_unchanged
  reach (s.quantified m d) = reach_quantified m (reach_list m) (reach d)
  reach (s.choose r d) = reach_choose r (reach_range r) (reach d)
  reach (s.cond_of d d' d'') = reach_cond_of (reach d) (reach d') (reach d'')
  reach (s.case_of m) = reach_case_of m (reach_list m)
  reach (s.case_other h m d) = reach_case_other h m (reach_list m) (reach d)
  reach (s.let_in m d) = reach_let_in m (reach_list m) (reach d)

  reach_range : {ts : List Token} {a : Tree} → Range ts a → ReachesRange ts a
  reach_range (s.any d) = reach_any d (reach d)
  reach_range (s.endless {k} {w = v} is) = reach_endless k v is

  reach_thing : {k : Kind} {o : Ending} {ts : List Token} {a : ItemOf k} → Item k o ts a → ReachesItem k o ts a
  reach_thing (s.tree d) = reach_tree (reach d)
  reach_thing (s.item d) = reach_item (reach d)
  reach_thing (s.binder r) = reach_binder r (reach_range r)
  reach_thing (s.field {v = v} d) = reach_field v (reach d)
  reach_thing (s.definition d) = reach_definition (reach d)
  reach_thing (s.arm d d') = reach_arm (reach d) (reach d')
  reach_thing (s.index_step d) = reach_index_step (reach d)
  reach_thing (s.tuple_step d b) = reach_tuple_step b (reach d) (reach_behind b)
  reach_thing s.field_step = reach_field_step
  reach_thing (s.update m d) = reach_update m (reach_list m) (reach d)

  reach_behind : {k : Kind} {o u : Ending} {ts : List Token} {as' : List (ItemOf k)} → Behind k o u ts as' → ReachesBehind k o u ts as'
  reach_behind (s.none {k} {o}) = reach_none k o
  reach_behind (s.one_more {o = o} may d b) = reach_one_more o may d b (reach_thing d) (reach_behind b)

  reach_list : {k : Kind} {u : Ending} {ts : List Token} {as' : List (ItemOf k)} → Items k u ts as' → ReachesItems k u ts as'
  reach_list (s.items d b) = reach_items d b (reach_thing d) (reach_behind b)

  reach_joined : {o u : Ending} {ts : List Token} {bs : List Tree} → Behind kind.item o u ts bs → ReachesJoined ts bs
  reach_joined s.none = reach_joined_none
  reach_joined (s.one_more may (s.item d) b) = reach_joined_more (reach d) b (reach_joined b)
