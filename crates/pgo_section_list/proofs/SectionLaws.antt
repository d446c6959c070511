-- The sections in a statement are those of the statements that stand directly in it, and these nest less deep.
use Rattle.std.proofs.Common.{◌≡◌, ◌<◌, ◌≤◌, ℕ, zero, suc, max, List, [], ◌∷◌, ◌++◌, map, length, get_or, None, refl, ap, sym, ◌∙◌, append_assoc, arith}
use Rattle.std.proofs.lemmas.List.{append-nil}
use Rattle.pgo_base.specs.Lookup.{Name}
use Rattle.pgo_syntax.specs.Statement.{Statement, skip, assign, if_then, if_else, while_do, either_of, await_that, with_in, print_out, assert_that, go_to, call_macro, yield_as, block, Statements, no_statements, more_statements, LabeledStatements, no_labeled, more_labeled, GuardedStatements, no_guarded, more_guarded}
use Rattle.pgo_syntax.specs.StatementSize.{height, statements_height, labeled_height, guarded_height}
use Rattle.pgo_syntax.specs.declared.macros.Macro.{Macro}
use Rattle.pgo_sections.specs.Code.{Code, Goto}
use Rattle.pgo_meaning.specs.LabelSections.{AreUnlabelled}
use Rattle.pgo_meaning.specs.Labels.{own, labelled, within, within_branches, within_arms, within_order}
use Rattle.pgo_meaning.specs.MacrosPlaced.{bodies, placed, placed_each, placed_among, placed_guarded}
use Rattle.pgo_meaning.specs.Statements.{Setting}
use Rattle.pgo_section_list.specs.declared.inner.Inner.{Inner}
use Rattle.pgo_section_list.specs.Sections.{Item, outer, rest, see, block_items, alternative_items, branch_items, items, next_code, item_sections, all_sections}
use Rattle.pgo_section_list.proofs.SectionLabels.{call_sections}

-- ---- heights
abbrev pub heights : List Item → ℕ
heights [] = 0
heights (i ∷ is) = max (height i.1) (heights is)

heights-append : (is js : List Item) → heights (is ++ js) ≡ max (heights is) (heights js)
heights-append [] js = omega arith
heights-append (i ∷ is) js = omega (arith, heights-append is js)

block_low : (ls : LabeledStatements) → heights (block_items ls) ≤ labeled_height ls
block_low no_labeled = omega arith
block_low (more_labeled l s ss) = omega (arith, block_low ss)

arms_low : (ss : Statements) → heights (alternative_items ss) ≤ statements_height ss
arms_low no_statements = omega arith
arms_low (more_statements s ss) = omega (arith, arms_low ss)

branches_low : (bs : GuardedStatements) → heights (branch_items bs) ≤ guarded_height bs
branches_low no_guarded = omega arith
branches_low (more_guarded p e s ss) = omega (arith, branches_low ss)

pub items_low : (t : Statement) → heights (items t) < height t
items_low (skip p) = omega arith
items_low (assign p x) = omega arith
items_low (if_then p bs) = omega (arith, branches_low bs)
items_low (if_else p bs s) = omega (arith, branches_low bs, heights-append (branch_items bs) ((None, s, outer) ∷ []))
items_low (while_do p e s) = omega arith
items_low (either_of p ss) = omega (arith, arms_low ss)
items_low (await_that p e) = omega arith
items_low (with_in p ns s) = omega arith
items_low (print_out p e) = omega arith
items_low (assert_that p e) = omega arith
items_low (go_to p l) = omega arith
items_low (call_macro p m es) = omega arith
items_low (yield_as p e) = omega arith
items_low (block p ls) = omega (arith, block_low ls)

pub at_height : (ls : List Inner) (i : ℕ) (l : Inner) → i < length ls → l ≡ get_or ls i l → height (see l).1 ≤ heights (map see ls)
at_height [] i l h e = absurd (omega arith)
at_height (k ∷ ls) zero l h e = rw e (omega arith)
at_height (k ∷ ls) (suc i) l h e = omega (arith, at_height ls i l (omega arith) e)

pub list_low : (ls ks : List Inner) (t : Statement) → ls ≡ ks → map see ks ≡ items t → heights (map see ls) < height t
list_low ls ks t e h = rw (e, h) (items_low t)

-- ---- sections
module _ (s : Setting) (ms : List Macro) (u : AreUnlabelled ms) where
  abbrev all : Name → Code → List Item → List (Name × Code)
  all l c is = all_sections s (bodies ms) l c is

  all-append : (l : Name) (c : Code) (is js : List Item) → all l c (is ++ js) ≡ all l c is ++ all l c js
  all-append l c [] js = refl
  all-append l c (i ∷ is) js =
      ap (λ r. item_sections s (bodies ms) l c i ++ r) (all-append l c is js)
      ∙ sym (append_assoc (item_sections s (bodies ms) l c i) (all l c is) (all l c js))

  pub block_sections : (ls : LabeledStatements) (l : Name) (c : Code) → all l c (block_items ls) ≡ within_order s l (placed_among (bodies ms) ls) c
  block_sections no_labeled l c = refl
  block_sections (more_labeled x t ls) l c = ap (λ r. item_sections s (bodies ms) l c (x, t, rest ls) ++ r) (block_sections ls l c)

  arm_sections : (ts : Statements) (l : Name) (c : Code) → all l c (alternative_items ts) ≡ within_arms s l (placed_each (bodies ms) ts) c
  arm_sections no_statements l c = refl
  arm_sections (more_statements t ts) l c = ap (λ r. within s l (placed (bodies ms) t) c ++ r) (arm_sections ts l c)

  branch_sections : (bs : GuardedStatements) (l : Name) (c : Code) → all l c (branch_items bs) ≡ within_branches s l (placed_guarded (bodies ms) bs) c
  branch_sections no_guarded l c = refl
  branch_sections (more_guarded p e t bs) l c = ap (λ r. within s l (placed (bodies ms) t) c ++ r) (branch_sections bs l c)

  pub items_sections : (t : Statement) (l : Name) (c : Code) → all l c (items t) ≡ within s l (placed (bodies ms) t) c
  items_sections (skip p) l c = refl
  items_sections (assign p x) l c = refl
  items_sections (if_then p bs) l c = branch_sections bs l c
  items_sections (if_else p bs t) l c =
      all-append l c (branch_items bs) ((None, t, outer) ∷ [])
      ∙ (λ i. branch_sections bs l c i ++ append-nil (within s l (placed (bodies ms) t) c) i)
  items_sections (while_do p e t) l c = append-nil (within s l (placed (bodies ms) t) (Goto l))
  items_sections (either_of p ts) l c = arm_sections ts l c
  items_sections (await_that p e) l c = refl
  items_sections (with_in p ws t) l c = append-nil (within s l (placed (bodies ms) t) c)
  items_sections (print_out p e) l c = refl
  items_sections (assert_that p e) l c = refl
  items_sections (go_to p x) l c = refl
  items_sections (call_macro p m ts) l c = sym (call_sections ms u p m ts s l c)
  items_sections (yield_as p e) l c = refl
  items_sections (block p ls) l c = block_sections ls l c

  -- those of one statement more are gathered
  pub gathered : (l l' : Name) (c d : Code) (i : Item) (t : Statement) (is js : List Item) (old mid new : List (Name × Code))
      → mid ≡ old ++ own s i.0 (placed (bodies ms) i.1) d → new ≡ mid ++ all l' d is → l' ≡ labelled s l i.0 → d ≡ next_code s (bodies ms) l i.2 c
      → is ≡ items t → t ≡ i.1 → new ++ all l c js ≡ old ++ all l c (i ∷ js)
  gathered l l' c d i t is js old mid new em en el ed ei et =
      let x : Statement = placed (bodies ms) i.1 in
      let o : List (Name × Code) = own s i.0 x (next_code s (bodies ms) l i.2 c) in
      let w : List (Name × Code) = within s (labelled s l i.0) x (next_code s (bodies ms) l i.2 c) in
      let whole : new ≡ (old ++ o) ++ w =
      en ∙ ap (λ k. mid ++ all l' d k) ei ∙ ap (λ r. mid ++ r) (items_sections t l' d)
      ∙ (λ k. em k ++ within s (el k) (placed (bodies ms) (et k)) d)
      ∙ (λ k. (old ++ own s i.0 x (ed k)) ++ within s (labelled s l i.0) x (ed k)) in
      ap (λ r. r ++ all l c js) (whole ∙ append_assoc old o w) ∙ append_assoc old (o ++ w) (all l c js)
