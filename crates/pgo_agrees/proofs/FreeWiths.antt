-- No label stands within a `with`.
use Rattle.std.proofs.Common.{◌≡◌, List, [], ◌∷◌, ◌++◌, map, None, refl, ap, sym, ◌∙◌, subst}
use Rattle.std.specs.Prelude.{flat_map}
use Rattle.pgo_syntax.specs.declared.name.PlacedName.{PlacedName}
use Rattle.pgo_syntax.specs.declared.archetype.Archetype.{Archetype}
use Rattle.pgo_syntax.specs.Statement.{Statement, skip, assign, if_then, if_else, while_do, either_of, await_that, with_in, print_out, assert_that, go_to, call_macro, yield_as, block, Statements, no_statements, more_statements, LabeledStatements, no_labeled, more_labeled, GuardedStatements, no_guarded, more_guarded, labeled}
use Rattle.pgo_labels.specs.Inside.{Item, inside, inside_all, inside_labeled, inside_guarded, with_inside}
use Rattle.pgo_labels.specs.Rules.{found_at, labels_in_with, label_in_with}
use Rattle.pgo_labels.specs.declared.errors.LabelError.TheVariants.{LabelHere}
use Rattle.pgo_bound.specs.Among.{none_left, none_right, empty_map}
use Rattle.pgo_accept.proofs.Unlabelled.{names_in}
use Rattle.pgo_agrees.proofs.FineUses.{WithFree, EachFree, LabeledFree, GuardedFree}
use Rattle.pgo_agrees.proofs.Unlabelled.{placed_name, with_inside_is}

abbrev of_item : Item → List PlacedName
of_item i = labels_in_with i.1

abbrev none_in : List Item → Type 0
none_in is = flat_map of_item is ≡ []

first_part : (is js : List Item) → none_in (is ++ js) → none_in is
first_part [] js h = refl
first_part (i ∷ is) js h =
    let a = none_left (of_item i) (flat_map of_item (is ++ js)) h in
    let b = first_part is js (none_right (of_item i) (flat_map of_item (is ++ js)) h) in
    (λ z. a z ++ b z)

second_part : (is js : List Item) → none_in (is ++ js) → none_in js
second_part [] js h = h
second_part (i ∷ is) js h = second_part is js (none_right (of_item i) (flat_map of_item (is ++ js)) h)

mutual
  free : (t : Statement) → labels_in_with t ≡ [] → none_in (inside t) → WithFree t
  free (skip p) g h = tt
  free (assign p as') g h = tt
  free (if_then p bs) g h = free_guarded bs h
  free (if_else p bs t) g h =
      let r = second_part (inside_guarded bs) ((None, t) ∷ inside t) h in
      (free_guarded bs (first_part (inside_guarded bs) ((None, t) ∷ inside t) h), free t (none_left (labels_in_with t) (flat_map of_item (inside t)) r) (none_right (labels_in_with t) (flat_map of_item (inside t)) r))
  free (while_do p e t) g h = free t (none_left (labels_in_with t) (flat_map of_item (inside t)) h) (none_right (labels_in_with t) (flat_map of_item (inside t)) h)
  free (either_of p ts) g h = free_each ts h
  free (await_that p e) g h = tt
  free (with_in p ws t) g h = sym (names_in (with_in p ws t)) ∙ ap (map placed_name) g
  free (print_out p e) g h = tt
  free (assert_that p e) g h = tt
  free (go_to p l) g h = tt
  free (call_macro p m es) g h = tt
  free (yield_as p e) g h = tt
  free (block p ls) g h = free_labeled ls h

  free_each : (ts : Statements) → none_in (inside_all ts) → EachFree ts
  free_each no_statements h = tt
  free_each (more_statements t ts) h =
      let r = none_right (labels_in_with t) (flat_map of_item (inside t ++ inside_all ts)) h in
      (free t (none_left (labels_in_with t) (flat_map of_item (inside t ++ inside_all ts)) h) (first_part (inside t) (inside_all ts) r), free_each ts (second_part (inside t) (inside_all ts) r))

  free_labeled : (ls : LabeledStatements) → none_in (inside_labeled ls) → LabeledFree ls
  free_labeled no_labeled h = tt
  free_labeled (more_labeled l t ls) h =
      let r = none_right (labels_in_with t) (flat_map of_item (inside t ++ inside_labeled ls)) h in
      (free t (none_left (labels_in_with t) (flat_map of_item (inside t ++ inside_labeled ls)) h) (first_part (inside t) (inside_labeled ls) r), free_labeled ls (second_part (inside t) (inside_labeled ls) r))

  free_guarded : (bs : GuardedStatements) → none_in (inside_guarded bs) → GuardedFree bs
  free_guarded no_guarded h = tt
  free_guarded (more_guarded p e t bs) h =
      let r = none_right (labels_in_with t) (flat_map of_item (inside t ++ inside_guarded bs)) h in
      (free t (none_left (labels_in_with t) (flat_map of_item (inside t ++ inside_guarded bs)) h) (first_part (inside t) (inside_guarded bs) r), free_guarded bs (second_part (inside t) (inside_guarded bs) r))

pub body_free : (a : Archetype) → label_in_with a ≡ [] → LabeledFree (labeled a.body)
body_free a h =
    let all = empty_map (λ l. found_at l.place (LabelHere a.name.name l.name)) (flat_map of_item (with_inside a.body)) h in
    free_labeled (labeled a.body) (subst none_in (with_inside_is a.body) all)
