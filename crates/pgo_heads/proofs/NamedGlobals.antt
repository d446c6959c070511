-- Whether the first global of a name has no elements, from the last to the first.
use Rattle.std.proofs.Common.{◌≡◌, ℕ, ◌+◌, ◌<◌, ◌≤◌, Bool, true, false, if◌then◌else◌, List, length, map, get_or, drop, cond, Option, Some, refl, ap, sym, ◌∙◌}
use Rattle.std.specs.Prelude.{unwrap_or}
use Rattle.std.proofs.lemmas.List.{drop_all}
use Rattle.pgo_base.specs.Lookup.{Name, same_name}
use Rattle.pgo_heads.specs.declared.globals.GlobalStart.{GlobalStart}
use Rattle.pgo_heads.specs.Refusals.{has_no_elements, names_no_elements}
use Rattle.pgo_heads.specs.Views.{global_view}
use Rattle.pgo_heads.proofs.Numbered.{drop_step}

flag : (b v : Bool) (old : Option Bool) (r : Bool) → unwrap_or old false ≡ r → unwrap_or (cond b (Some v) old) false ≡ (if b then v else r)
flag true v old r h = refl
flag false v old r h = h

pub none_left : (gs : List GlobalStart) (i : ℕ) (n : Name) → length gs ≤ i → names_no_elements (map global_view (drop i gs)) n ≡ false
none_left gs i n h = ap (λ xs. names_no_elements (map global_view xs) n) (drop_all i gs h)

pub one_more : (gs : List GlobalStart) (k i : ℕ) (g : GlobalStart) (n : Name) (old new : Option Bool) → k < length gs → k + 1 ≡ i → g ≡ get_or gs k g → new ≡ cond (same_name n g.declaration.now.name.name) (Some (has_no_elements (global_view g))) old → unwrap_or old false ≡ names_no_elements (map global_view (drop i gs)) n → unwrap_or new false ≡ names_no_elements (map global_view (drop k gs)) n
one_more gs k i g n old new h e is made before =
    ap (λ o. unwrap_or o false) made
    ∙ flag (same_name n g.declaration.now.name.name) (has_no_elements (global_view g)) old (names_no_elements (map global_view (drop (k + 1) gs)) n)
    (before ∙ ap (λ j. names_no_elements (map global_view (drop j gs)) n) (sym e))
    ∙ ap (λ xs. names_no_elements (map global_view xs) n) (sym (drop_step gs k g h is))
