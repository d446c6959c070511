-- No label stands in a macro of a specification whose labels are not refused.
use Rattle.std.proofs.Common.{◌≡◌, List, [], ◌∷◌, ◌++◌, map, Some, None, refl, ap, sym, ◌∙◌}
use Rattle.std.specs.Prelude.{flat_map}
use Rattle.pgo_base.specs.Lookup.{Name}
use Rattle.pgo_syntax.specs.declared.macros.Macro.{Macro}
use Rattle.pgo_syntax.specs.declared.name.PlacedName.{PlacedName}
use Rattle.pgo_syntax.specs.declared.spec.Spec.{Spec}
use Rattle.pgo_syntax.specs.Statement.{Statement, skip, assign, if_then, if_else, while_do, either_of, await_that, with_in, print_out, assert_that, go_to, call_macro, yield_as, block, Statements, no_statements, more_statements, LabeledStatements, no_labeled, more_labeled, GuardedStatements, no_guarded, more_guarded, labeled}
use Rattle.pgo_labels.specs.Inside.{Item, inside, inside_all, inside_labeled, inside_guarded, with_inside}
use Rattle.pgo_labels.specs.Labels.{labels_of}
use Rattle.pgo_labels.specs.Refusal.{label_refusal}
use Rattle.pgo_labels.specs.Rules.{found_at, needs_label, label_in_with, label_in_macro, label_in_mapping}
use Rattle.pgo_labels.specs.declared.errors.LabelError.TheVariants.{LabelHere}
use Rattle.pgo_bound.specs.Among.{none_left, none_right, empty_map}
use Rattle.pgo_bound.specs.Sound.{labels_in, labels_each, labels_among, labels_guarded}
use Rattle.pgo_meaning.specs.LabelSections.{AreUnlabelled}
use Rattle.pgo_accept.proofs.Accepted.{rules_behind, later_rules}
use Rattle.pgo_accept.proofs.Unbroken.{first_label_rule, next_label_rules}

-- the names of the labels of these statements
abbrev pub names : List Item → List Name
names is = map (λ (l : PlacedName). l.name) (labels_of is)

names_joined : (is js : List Item) → names (is ++ js) ≡ names is ++ names js
names_joined [] js = refl
names_joined ((None, s) ∷ is) js = names_joined is js
names_joined ((Some l, s) ∷ is) js = ap (λ ns. l.name ∷ ns) (names_joined is js)

mutual
  pub names_in : (s : Statement) → names (inside s) ≡ labels_in s
  names_in (skip p) = refl
  names_in (assign p x) = refl
  names_in (if_then p bs) = names_guarded bs
  names_in (if_else p bs s) = names_joined (inside_guarded bs) ((None, s) ∷ inside s) ∙ (λ i. names_guarded bs i ++ names_in s i)
  names_in (while_do p e s) = names_in s
  names_in (either_of p ss) = names_each ss
  names_in (await_that p e) = refl
  names_in (with_in p ns s) = names_in s
  names_in (print_out p e) = refl
  names_in (assert_that p e) = refl
  names_in (go_to p l) = refl
  names_in (call_macro p m es) = refl
  names_in (yield_as p e) = refl
  names_in (block p ls) = names_among ls

  names_each : (ss : Statements) → names (inside_all ss) ≡ labels_each ss
  names_each no_statements = refl
  names_each (more_statements s ss) = names_joined (inside s) (inside_all ss) ∙ (λ i. names_in s i ++ names_each ss i)

  names_among : (ls : LabeledStatements) → names (inside_labeled ls) ≡ labels_among ls
  names_among no_labeled = refl
  names_among (more_labeled None s ls) = names_joined (inside s) (inside_labeled ls) ∙ (λ i. names_in s i ++ names_among ls i)
  names_among (more_labeled (Some l) s ls) =
      ap (λ ns. l.name ∷ ns) (names_joined (inside s) (inside_labeled ls) ∙ (λ i. names_in s i ++ names_among ls i))

  names_guarded : (bs : GuardedStatements) → names (inside_guarded bs) ≡ labels_guarded bs
  names_guarded no_guarded = refl
  names_guarded (more_guarded p e s bs) = names_joined (inside s) (inside_guarded bs) ∙ (λ i. names_in s i ++ names_guarded bs i)

pub names_of_body : (is : List Item) → names (with_inside is) ≡ labels_among (labeled is)
names_of_body [] = refl
names_of_body ((None, s) ∷ is) = names_joined (inside s) (with_inside is) ∙ (λ i. names_in s i ++ names_of_body is i)
names_of_body ((Some l, s) ∷ is) = ap (λ ns. l.name ∷ ns) (names_joined (inside s) (with_inside is) ∙ (λ i. names_in s i ++ names_of_body is i))

macro_unlabelled : (m : Macro) → label_in_macro m ≡ [] → labels_among (labeled m.body) ≡ []
macro_unlabelled m h =
    sym (names_of_body m.body)
    ∙ ap (map (λ (l : PlacedName). l.name)) (empty_map (λ (l : PlacedName). found_at l.place (LabelHere m.name.name l.name)) (labels_of (with_inside m.body)) h)

pub macros_unlabelled : (ms : List Macro) → flat_map label_in_macro ms ≡ [] → AreUnlabelled ms
macros_unlabelled [] h = tt
macros_unlabelled (m ∷ ms) h = (
  macro_unlabelled m (none_left (label_in_macro m) (flat_map label_in_macro ms) h),
  macros_unlabelled ms (none_right (label_in_macro m) (flat_map label_in_macro ms) h),
)

pub unlabelled : (s : Spec) → label_refusal s ≡ None → AreUnlabelled s.macros
unlabelled s h =
    let in_with = flat_map label_in_with s.archetypes in
    let in_macro = flat_map label_in_macro s.macros in
    let in_mapping = flat_map label_in_mapping s.mappings in
    let later = next_label_rules (flat_map needs_label s.archetypes) (later_rules s) h in
    let none = first_label_rule (in_with ++ in_macro ++ in_mapping) (rules_behind s) later in
    macros_unlabelled s.macros (none_right in_with in_macro (none_left (in_with ++ in_macro) in_mapping none))
