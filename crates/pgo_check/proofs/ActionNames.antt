-- The body of the last action of a name.
use Rattle.std.proofs.Common.{◌≡◌, List, [], ◌∷◌, ◌++◌, map, ap, sym, ◌∙◌, append_assoc}
use Rattle.std.specs.Prelude.{Bool, true, false, cond, if◌then◌else◌, reverse, Option, Some, option_map}
use Rattle.std.proofs.lemmas.List.{append-nil, reverse-append, map_push}
use Rattle.pgo_base.specs.declared.module.WrittenProcess as base_process
use Rattle.pgo_base.specs.Lookup.{Name, same_name, find}
use Rattle.pgo_base.specs.Tree.{Tree}
use Rattle.pgo_model.specs.Names.{or_that, find_append}
use Rattle.pgo_model.specs.Module.{WrittenProcess, actions_in}
use Rattle.pgo_model.specs.ModuleView.{process_view}

abbrev pub search_in : Name → List base_process.WrittenProcess → Option Tree
search_in x ps = find x (reverse (actions_in (map process_view ps)))

actions_pushed : (ps : List WrittenProcess) (p : WrittenProcess) → actions_in (ps ++ p ∷ []) ≡ actions_in ps ++ p.actions
actions_pushed [] p = append-nil p.actions
actions_pushed (q ∷ ps) p = ap (λ l. q.actions ++ l) (actions_pushed ps p) ∙ sym (append_assoc q.actions (actions_in ps) p.actions)

search_last_in : (x : Name) (left before : List base_process.WrittenProcess) (p : base_process.WrittenProcess) → left ≡ before ++ p ∷ []
    → search_in x left ≡ or_that (find x (reverse p.actions)) (search_in x before)
search_last_in x left before p e =
    ap (search_in x) e ∙ ap (λ l. find x (reverse (actions_in l))) (map_push process_view before p)
    ∙ ap (λ l. find x (reverse l)) (actions_pushed (map process_view before) (process_view p))
    ∙ ap (find x) (reverse-append (actions_in (map process_view before)) p.actions)
    ∙ find_append x (reverse p.actions) (reverse (actions_in (map process_view before)))

-- one process more at the end, whose actions come before those that were found
pub process_more : (x : Name) (left before : List base_process.WrittenProcess) (p : base_process.WrittenProcess) (old new : Option Tree) → left ≡ before ++ p ∷ []
    → old ≡ search_in x before → new ≡ or_that (find x (reverse p.actions)) old → new ≡ search_in x left
process_more x left before p old new is h g = g ∙ ap (or_that (find x (reverse p.actions))) h ∙ sym (search_last_in x left before p is)

-- one action more at the end, whose body stands under its name from here on
pub action_more : {A : Type 0} (old new : Option A) (v : A) (f : A → Tree) (x : Name) (before : List (Name × Tree)) (p : Name × Tree) (first : Option Tree) → f v ≡ p.1
    → new ≡ cond (same_name x p.0) (Some v) old → option_map f old ≡ or_that (find x (reverse before)) first
    → option_map f new ≡ or_that (find x (reverse (before ++ p ∷ []))) first
action_more old new v f x before p first e g h =
    ap (option_map f) g ∙ go (same_name x p.0) ∙ ap (λ ps. or_that (find x ps) first) (sym (reverse-append before (p ∷ [])))
  where
    go : (b : Bool) → option_map f (cond b (Some v) old) ≡ or_that (if b then Some p.1 else find x (reverse before)) first
    go true = ap Some e
    go false = h
