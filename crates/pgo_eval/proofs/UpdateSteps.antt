-- The updates of EXCEPT, from the first on.
use Rattle.std.proofs.Common.{◌≡◌, ℕ, ◌<◌, ◌≤◌, ◌+◌, List, ◌∷◌, length, map, get_or, drop, ap, sym, ◌∙◌, add-one, drop-cons}
use Rattle.std.proofs.lemmas.List.{drop_all}
use Rattle.std.specs.Prelude.{Option, Some, None, option_and_then}
use Rattle.pgo_base.specs.Data.{Data}
use Rattle.pgo_base.specs.ExprView.{tree, path_tree}
use Rattle.pgo_base.specs.Tree.{paths, trees}
use Rattle.pgo_base.specs.declared.expr.Update.{Update}
use Rattle.pgo_model.specs.Operators.{put_at}
use Rattle.pgo_model.specs.Val.{Scope, val, values_of, with_part, updated}

-- what one update makes of a function
abbrev pub updated_by : Update → Scope → Option Data → Option Data
updated_by u s f =
    option_and_then (λ path. option_and_then (λ v. put_at path (λ part. val (tree u.value) (with_part part s)) (Some v)) f) (values_of (trees u.path) s)

-- one update more
pub updates_more : (us : List Update) (i : ℕ) (u : Update) (s : Scope) (all now next : Option Data) → i < length us → u ≡ get_or us i u → next ≡ updated_by u s now → all ≡ updated (paths (map path_tree (drop i us))) s now → all ≡ updated (paths (map path_tree (drop (i + 1) us))) s next
updates_more us i u s all now next h e n a =
    a ∙ ap (λ xs. updated (paths (map path_tree xs)) s now) (drop-cons us i u h ∙ (λ j. sym e j ∷ drop (sym (add-one i) j) us))
    ∙ ap (updated (paths (map path_tree (drop (i + 1) us))) s) (sym n)

-- all updates
pub updates_all : (us : List Update) (i : ℕ) (s : Scope) (all now : Option Data) → length us ≤ i → all ≡ updated (paths (map path_tree (drop i us))) s now → all ≡ now
updates_all us i s all now h a = a ∙ ap (λ xs. updated (paths (map path_tree xs)) s now) (drop_all i us h)

-- an update where its path and the function have values
pub update_here : (u : Update) (s : Scope) (path : List Data) (v : Data) (f : Option Data) → Some path ≡ values_of (trees u.path) s → Some v ≡ f → put_at path (λ part. val (tree u.value) (with_part part s)) (Some v) ≡ updated_by u s f
update_here u s path v f h g =
    λ i. option_and_then (λ path. option_and_then (λ v. put_at path (λ part. val (tree u.value) (with_part part s)) (Some v)) (g i)) (h i)

-- an update whose path has no values
pub update_nowhere : (u : Update) (s : Scope) (f : Option Data) → None ≡ values_of (trees u.path) s → None ≡ updated_by u s f
update_nowhere u s f h = ap (option_and_then (λ path. option_and_then (λ v. put_at path (λ part. val (tree u.value) (with_part part s)) (Some v)) f)) h

-- an update of nothing
pub update_nothing : (u : Update) (s : Scope) (path : List Data) (f : Option Data) → Some path ≡ values_of (trees u.path) s → None ≡ f → None ≡ updated_by u s f
update_nothing u s path f h g =
    λ i. option_and_then (λ path. option_and_then (λ v. put_at path (λ part. val (tree u.value) (with_part part s)) (Some v)) (g i)) (h i)
