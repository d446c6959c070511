-- Rule 1: a statement of an archetype needs a label and has none.
use Rattle.std.specs.Prelude.{ℕ, Bool, true, false, ◌||◌, nat_lt, is_some, is_none, if◌then◌else◌, List, [], ◌∷◌, ◌++◌, map, flat_map, filter}
use Rattle.std.specs.List.{list_any}
use Rattle.pgo_base.specs.Lookup.{Name}
use Rattle.pgo_syntax.specs.declared.name.PlacedName.{PlacedName}
use Rattle.pgo_syntax.specs.declared.archetype.Archetype.{Archetype}
use Rattle.pgo_syntax.specs.Statement.{Statement, skip, assign, if_then, if_else, while_do, either_of, await_that, with_in, print_out, assert_that, go_to, call_macro, yield_as, block, LabeledStatements, no_labeled, more_labeled, labeled, place_of}
use Rattle.pgo_labels.specs.declared.errors.LabelError.TheVariants.{NeedsLabel}
use Rattle.pgo_labels.specs.declared.finding.Finding.{Finding}
use Rattle.pgo_labels.specs.Inside.{Item, inside, with_inside}
use Rattle.pgo_labels.specs.Labels.{labels}
use Rattle.pgo_labels.specs.Findings.{found_at}

abbrev pub is_goto : Statement → Bool
is_goto (go_to p l) = true
is_goto _ = false

-- whether a label or a `goto` stands within it
abbrev pub holds_jump : Statement → Bool
holds_jump s = list_any (λ i. is_some i.0 || is_goto i.1) (inside s)

-- whether what stands behind it, in a block, is reached by a jump alone
abbrev mutual
  pub jumps : Statement → Bool
  jumps (skip p) = false
  jumps (assign p x) = false
  jumps (if_then p bs) = holds_jump (if_then p bs)
  jumps (if_else p bs s) = holds_jump (if_else p bs s)
  jumps (while_do p e s) = false
  jumps (either_of p ss) = holds_jump (either_of p ss)
  jumps (await_that p e) = false
  jumps (with_in p ns s) = jumps s
  jumps (print_out p e) = false
  jumps (assert_that p e) = false
  jumps (go_to p l) = true
  jumps (call_macro p m es) = false
  jumps (yield_as p e) = false
  jumps (block p ls) = last_jumps false ls

  -- whether the last of these statements jumps, where the one before them does if `before`
  pub last_jumps : Bool → LabeledStatements → Bool
  last_jumps before no_labeled = before
  last_jumps before (more_labeled l s ss) = last_jumps (jumps s) ss

-- the statements of a block that stand behind one that jumps, and its first if `first`
abbrev pub behind_jumps : Bool → LabeledStatements → List Item
behind_jumps first no_labeled = []
behind_jumps first (more_labeled l s ss) = (if first then (l, s) ∷ [] else []) ++ behind_jumps (jumps s) ss

-- those of a block within a body
abbrev pub in_block : Statement → List Item
in_block (block p ls) = behind_jumps false ls
in_block _ = []

abbrev pub is_loop : Statement → Bool
is_loop (while_do p e s) = true
is_loop _ = false

abbrev pub loop_of : Item → List Item
loop_of i = if is_loop i.1 then i ∷ [] else []

-- the statements of a body that need a label: its first, each behind one that jumps, and each `while`
abbrev pub needing : List Item → List Item
needing b = behind_jumps true (labeled b) ++ flat_map (λ i. loop_of i ++ in_block i.1) (with_inside b)

-- the places of those that have none
abbrev pub unlabeled_places : List Item → List ℕ
unlabeled_places is = map (λ i. place_of i.1) (filter (λ i. is_none i.0) is)

-- where a body has no statement, at the archetype's name
abbrev pub missing : PlacedName → List Item → List ℕ
missing n [] = n.place ∷ []
missing n (i ∷ is) = unlabeled_places (needing (i ∷ is))

-- the name of the last of these labels that stands before the place; `last` where there is none
abbrev pub last_before : ℕ → Name → List PlacedName → Name
last_before place last [] = last
last_before place last (l ∷ ls) = last_before place (if nat_lt l.place place then l.name else last) ls

-- a statement that needs a label has none, or there is no statement
abbrev pub needs_label : Archetype → List Finding
needs_label a = map (λ p. found_at p (NeedsLabel a.name.name (last_before p [] (labels a)))) (missing a.name a.body)
