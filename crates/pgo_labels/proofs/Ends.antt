-- Rows of statements that end in a `yield`: as lists, and step by step.
use Rattle.std.proofs.Common.{◌≡◌, ◌<◌, ◌+◌, ℕ, Bool, true, false, List, [], ◌∷◌, ◌++◌, map, length, get_or, drop, ap, ◌∙◌, sym, refl, arith}
use Rattle.std.proofs.lemmas.List.{drop_more}
use Rattle.std.specs.Prelude.{None, ◌&&◌, not}
use Rattle.pgo_syntax.specs.Statement.{Statement, Statements, no_statements, more_statements, LabeledStatements, no_labeled, more_labeled, GuardedStatements, no_guarded, more_guarded}
use Rattle.pgo_labels.specs.declared.items.Item.{Item as Lent}
use Rattle.pgo_labels.specs.Inside.{Item}
use Rattle.pgo_labels.specs.Parts.{see, items, alternative_items, branch_items}
use Rattle.pgo_labels.specs.ItemEnds.{all_items_end, items_end}
use Rattle.pgo_labels.specs.YieldRule.{has_yield, ends_in_yield, row_ends, all_end, branches_end}

pub labeled_end : (ls : LabeledStatements) → items_end (items ls) ≡ row_ends ls
labeled_end no_labeled = refl
labeled_end (more_labeled l s no_labeled) = refl
labeled_end (more_labeled l s (more_labeled k t ss)) = ap (λ b. not (has_yield s) && b) (labeled_end (more_labeled k t ss))

pub alternatives_end : (ss : Statements) → all_items_end (alternative_items ss) ≡ all_end ss
alternatives_end no_statements = refl
alternatives_end (more_statements s ss) = ap (λ b. ends_in_yield s && b) (alternatives_end ss)

and_assoc : (a b c : Bool) → a && (b && c) ≡ (a && b) && c
and_assoc true b c = refl
and_assoc false b c = refl

and_true : (a : Bool) → a && true ≡ a
and_true true = refl
and_true false = refl

pub all_branches_end : (bs : GuardedStatements) (s : Statement) → all_items_end (branch_items bs ++ (None, s) ∷ []) ≡ branches_end bs && ends_in_yield s
all_branches_end no_guarded s = and_true (ends_in_yield s)
all_branches_end (more_guarded p e t ss) s =
    ap (λ b. ends_in_yield t && b) (all_branches_end ss s) ∙ and_assoc (ends_in_yield t) (branches_end ss) (ends_in_yield s)

row_step : (x y : Item) (is js : List Item) → js ≡ y ∷ is → items_end (x ∷ js) ≡ not (has_yield x.1) && items_end js
row_step x y is js e = rw e refl

next_step : (xs : List Lent) (i : ℕ) (x : Lent) → x ≡ get_or xs i x → i + 1 < length xs
    → items_end (map see (drop i xs)) ≡ not (has_yield (see x).1) && items_end (map see (drop (i + 1) xs))
next_step xs i x e h =
    ap (λ l. items_end (map see l)) (drop_more xs i x (omega arith))
    ∙ ap (λ y. items_end (see y ∷ map see (drop (i + 1) xs))) (sym e)
    ∙ row_step (see x) (see (get_or xs (i + 1) x)) (map see (drop (i + 1 + 1) xs)) (map see (drop (i + 1) xs)) (ap (map see) (drop_more xs (i + 1) x h))

pub row_stops : (xs : List Lent) (i : ℕ) (x : Lent) (b whole : Bool) (s : Statement) → x ≡ get_or xs i x → i + 1 < length xs → s ≡ (see x).1
    → b ≡ has_yield s → b ≡ true → items_end (map see (drop i xs)) ≡ whole → false ≡ whole
row_stops xs i x b whole s e h at is answer kept =
    ap (λ y. not y && items_end (map see (drop (i + 1) xs))) (sym answer ∙ is ∙ ap has_yield at) ∙ sym (next_step xs i x e h) ∙ kept

pub row_goes : (xs : List Lent) (i : ℕ) (x : Lent) (b whole : Bool) (s : Statement) → x ≡ get_or xs i x → i + 1 < length xs → s ≡ (see x).1
    → b ≡ has_yield s → b ≡ false → items_end (map see (drop i xs)) ≡ whole → items_end (map see (drop (i + 1) xs)) ≡ whole
row_goes xs i x b whole s e h at is answer kept =
    ap (λ y. not y && items_end (map see (drop (i + 1) xs))) (sym answer ∙ is ∙ ap has_yield at) ∙ sym (next_step xs i x e h) ∙ kept
