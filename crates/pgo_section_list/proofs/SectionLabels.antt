-- No section stands in a macro: its body has no labels.
use Rattle.std.proofs.Common.{◌≡◌, ℕ, List, [], ◌∷◌, ◌++◌, map, Option, Some, None, refl, ap, sym, ◌∙◌}
use Rattle.std.proofs.lemmas.List.{append-nil}
use Rattle.pgo_base.specs.Lookup.{Name}
use Rattle.pgo_base.specs.Tree.{Tree}
use Rattle.pgo_model.specs.Options.{on}
use Rattle.pgo_model.specs.Written.{done}
use Rattle.pgo_syntax.specs.Statement.{Statement, skip, assign, if_then, if_else, while_do, either_of, await_that, with_in, print_out, assert_that, go_to, call_macro, yield_as, block, Statements, no_statements, more_statements, LabeledStatements, no_labeled, more_labeled, GuardedStatements, no_guarded, more_guarded, labeled}
use Rattle.pgo_syntax.specs.declared.archetype.Archetype.{Archetype}
use Rattle.pgo_syntax.specs.declared.macros.Macro.{Macro}
use Rattle.pgo_syntax.specs.declared.name.PlacedName.{PlacedName}
use Rattle.pgo_bound.specs.Sound.{labels_in, labels_each, labels_among, labels_guarded}
use Rattle.pgo_bound.specs.StartNames.{map-append}
use Rattle.pgo_sections.specs.Code.{Code, Seq, Goto}
use Rattle.pgo_meaning.specs.LabelSections.{AreUnlabelled}
use Rattle.pgo_meaning.specs.Labels.{own, labelled, within, within_branches, within_arms, within_order}
use Rattle.pgo_meaning.specs.MacrosPlaced.{placed, placed_among, bodies}
use Rattle.pgo_meaning.specs.Parameters.{setting_of}
use Rattle.pgo_meaning.specs.Sections.{sections_of}
use Rattle.pgo_meaning.specs.Statements.{Setting, label_of, in_order}
use Rattle.pgo_meaning.proofs.LabelSections.{sections_are}

-- ---- the names of the sections in a statement are its labels
module _ (s : Setting) where
  abbrev Are : List (Name × Code) → List Name → Type 0
  Are cs xs = map (λ c. c.0) cs ≡ map (label_of s.process) xs

  joined : (cs ds : List (Name × Code)) (xs ys : List Name) → Are cs xs → Are ds ys → Are (cs ++ ds) (xs ++ ys)
  joined cs ds xs ys f g = map-append (λ c. c.0) cs ds ∙ (λ i. f i ++ g i) ∙ sym (map-append (label_of s.process) xs ys)

  own_are : (x : Option PlacedName) (t : Statement) (c : Code) → Are (own s x t c) (on [] x (λ y. y.name ∷ []))
  own_are None t c = refl
  own_are (Some x) t c = refl

  mutual
    names_are : (t : Statement) (l : Name) (c : Code) → Are (within s l t c) (labels_in t)
    names_are (skip p) l c = refl
    names_are (assign p as') l c = refl
    names_are (if_then p bs) l c = branches_are bs l c
    names_are (if_else p bs t) l c =
        joined (within_branches s l bs c) (within s l t c) (labels_guarded bs) (labels_in t) (branches_are bs l c) (names_are t l c)
    names_are (while_do p e t) l c = names_are t l (Goto l)
    names_are (either_of p ts) l c = arms_are ts l c
    names_are (await_that p e) l c = refl
    names_are (with_in p ws t) l c = names_are t l c
    names_are (print_out p e) l c = refl
    names_are (assert_that p e) l c = refl
    names_are (go_to p x) l c = refl
    names_are (call_macro p m es) l c = refl
    names_are (yield_as p e) l c = refl
    names_are (block p ls) l c = order_are ls l c

    branches_are : (bs : GuardedStatements) (l : Name) (c : Code) → Are (within_branches s l bs c) (labels_guarded bs)
    branches_are no_guarded l c = refl
    branches_are (more_guarded p e t bs) l c =
        joined (within s l t c) (within_branches s l bs c) (labels_in t) (labels_guarded bs) (names_are t l c) (branches_are bs l c)

    arms_are : (ts : Statements) (l : Name) (c : Code) → Are (within_arms s l ts c) (labels_each ts)
    arms_are no_statements l c = refl
    arms_are (more_statements t ts) l c =
        joined (within s l t c) (within_arms s l ts c) (labels_in t) (labels_each ts) (names_are t l c) (arms_are ts l c)

    order_are : (ls : LabeledStatements) (l : Name) (c : Code) → Are (within_order s l ls c) (labels_among ls)
    order_are no_labeled l c = refl
    order_are (more_labeled x t ls) l c =
        let next = Seq (in_order s l ls) c in
        joined (own s x t next ++ within s (labelled s l x) t next) (within_order s l ls c) (on [] x (λ y. y.name ∷ []) ++ labels_in t) (labels_among ls) (joined (own s x t next) (within s (labelled s l x) t next) (on [] x (λ y. y.name ∷ [])) (labels_in t) (own_are x t next) (names_are t (labelled s l x) next)) (order_are ls l c)

none_of_map : {A B : Type 0} (f : A → B) (xs : List A) → map f xs ≡ [] → xs ≡ []
none_of_map f [] e = refl
none_of_map f (x ∷ xs) e = absurd (cc)

-- ---- a call alone, as the body of an archetype
no_name : PlacedName
no_name = record { name = []; place = 0 }

alone : Statement → Archetype
alone t = record { name = no_name; params = []; locals = []; body = (None, t) ∷ [] }

module _ (ms : List Macro) (u : AreUnlabelled ms) (p : ℕ) (m : PlacedName) (ts : List Tree) where
  abbrev called : Statement
  called = placed (bodies ms) (call_macro p m ts)

  names_none : map (λ (c : Name × Code). c.0) (sections_of ms [] (alone (call_macro p m ts)) []) ≡ []
  unfolding alone
  names_none = sections_are ms [] (alone (call_macro p m ts)) [] u

  labels_none : labels_in called ≡ []
  unfolding alone
  labels_none =
      let s = setting_of [] (alone (call_macro p m ts)) [] in
      none_of_map (label_of []) (labels_in called)
      (ap (map (label_of [])) (sym (append-nil (labels_in called)))
      ∙ sym (order_are s (placed_among (bodies ms) (labeled ((None, call_macro p m ts) ∷ []))) [] (Goto done))
      ∙ names_none)

  pub call_sections : (s : Setting) (l : Name) (c : Code) → within s l called c ≡ []
  call_sections s l c = none_of_map (λ (c : Name × Code). c.0) (within s l called c) (names_are s called l c ∙ ap (map (label_of s.process)) labels_none)
