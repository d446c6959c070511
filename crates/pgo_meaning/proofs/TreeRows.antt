-- The trees of a small specification, `v := v + v` with v bound to x, and which steps they allow: x = 2 becomes 4, and nothing else.
use Rattle.std.proofs.Common.{◌≡◌, ℕ, zero, suc, if◌then◌else◌, [], ◌∷◌, Option, Some, None, option_and_then, codes, refl, sym, ap, ◌∙◌, subst}
use Rattle.pgo_base.specs.Data.{Data, string, function, Pairs, pairs}
use Rattle.pgo_base.specs.Sets.{sorted-in_order}
use Rattle.pgo_base.specs.Lookup.{Name, Names, Vars, find}
use Rattle.pgo_base.specs.Tree.{name, binary}
use Rattle.pgo_base.specs.declared.expr.Infix.TheVariants as infixs
use Rattle.pgo_model.specs.Machine.{nth}
use Rattle.pgo_model.specs.Names.{same_name-self}
use Rattle.pgo_model.specs.Variables.{IsFunctionOn}
use Rattle.pgo_model.specs.Written.{written, made, self_name}
use Rattle.pgo_syntax.specs.declared.bound.Bound.{Bound}
use Rattle.pgo_syntax.specs.declared.declaration.Declaration.{Declaration}
use Rattle.pgo_syntax.specs.declared.process.Process.{Process}
use Rattle.pgo_bound.specs.BoundOf.{bound_of}
use Rattle.pgo_bound.specs.declared.kinds.Kind.TheVariants.{AsWhole, ByElement}
use Rattle.pgo_bound.specs.State.{IsState, identifiers_of, kind_in, own_names}
use Rattle.pgo_sections.specs.Expansion.{Expansion, With, End, EndsIn, Path, value_at_end}
use Rattle.pgo_meaning.specs.Expansions.{trees_of}
use Rattle.pgo_meaning.specs.TreeAllows.{TreeAllows, path_context}
use Rattle.pgo_meaning.proofs.RowTools.{int}
use Rattle.pgo_meaning.proofs.StepRows.{x, doubled, state, at_place}

abbrev doubled_bound : Bound
doubled_bound = bound_of doubled []

abbrev doubled_tree : Expansion
doubled_tree = With (made (codes "val") 1) (binary infixs.Add (name x) (name x)) (End ((x, made (codes "val") 1) ∷ []) (codes "Done"))

tree_of_doubled : trees_of doubled ≡ (codes "P_l", doubled_tree) ∷ []
tree_of_doubled = refl

abbrev Doubles : Data → Type 0
Doubles a = TreeAllows (trees_of doubled) doubled_bound (codes "P_l") (int 1) (state (int 2) (codes "P_l")) (state a (codes "Done"))

abbrev found_in : Option Name → Name
found_in o = elim o [ None ↦ [] | Some z ↦ z ]

-- what is bound above the end of the tree
abbrev bound_above : Names
bound_above = (made (codes "val") 1, Some (int 4)) ∷ (self_name, Some (int 1)) ∷ []

abbrev IsAssigned : Name → Type 0
IsAssigned z =
    find z (state (int 4) (codes "Done"))
    ≡ value_at_end (path_context doubled_bound (int 1)) bound_above ((x, made (codes "val") 1) ∷ []) (codes "Done") (state (int 2) (codes "P_l")) z

-- x becomes what its made name stands for
new_value : (w : Data) (s : Vars) → value_at_end (path_context doubled_bound (int 1)) ((made (codes "val") 1, Some w) ∷ (self_name, Some (int 1)) ∷ []) ((x, made (codes "val") 1) ∷ []) (codes "Done") ((x, int 2) ∷ s) x ≡ Some w
new_value w s =
    ap (λ b. option_and_then (λ o. o) (if b then Some (Some w) else find (made (codes "val") 1) ((self_name, Some (int 1)) ∷ []))) (same_name-self (made (codes "val") 1))

-- x = 2 becomes 4
tree_allows : Doubles (int 4)
tree_allows = (doubled_tree, refl, (is_state, (int 4, refl, ends)))
  where
    is_state : IsState doubled_bound (state (int 4) (codes "Done"))
    is_state = record {
      variables = refl;
      values = (refl, (((refl, tt, tt), sorted-in_order (int 1 ∷ [])), tt));
      shallow = refl;
      places = (pairs ((int 1, string (codes "Done")) ∷ []), refl, refl);
      locals = locals;
      elements = elements;
    }
      where
        locals : (k m : ℕ) (p : Process) (z : Name) → nth doubled.processes k ≡ Some p → nth (own_names doubled p) m ≡ Some z → IsFunctionOn (identifiers_of doubled_bound p.name.name) (find (written p.name.name z) (state (int 4) (codes "Done")))
        locals zero m p z h g =
            let none : own_names doubled p ≡ [] = ap (λ o. elim o [ None ↦ [] | Some q ↦ own_names doubled q ]) (sym h) in
            let no_name : nth [] m ≡ Some z = ap (λ xs. nth xs m) (sym none) ∙ g in
            absurd (cc)
        locals (suc k) m p z h g = absurd (cc)

        elements : (k : ℕ) (d : Declaration) → nth doubled.globals k ≡ Some d → kind_in doubled_bound d.name.name ≡ ByElement → (ps : Pairs) × (find d.name.name (state (int 4) (codes "Done")) ≡ Some (function ps))
        elements zero d h g =
            let as_whole : kind_in doubled_bound d.name.name ≡ AsWhole = ap (λ o. elim o [ None ↦ AsWhole | Some q ↦ kind_in doubled_bound q.name.name ]) (sym h) in
            absurd (cc)
        elements (suc k) d h g = absurd (cc)

    ends : EndsIn (path_context doubled_bound (int 1)) bound_above ((x, made (codes "val") 1) ∷ []) (codes "Done") (state (int 2) (codes "P_l")) (state (int 4) (codes "Done"))
    ends zero z h = subst IsAssigned (ap found_in h) (sym (new_value (int 4) (at_place (codes "P_l") ∷ [])))
    ends (suc zero) z h = subst IsAssigned (ap found_in h) refl
    ends (suc (suc k)) z h = absurd (cc)

-- and nothing else
no_other : Doubles (int 5) → ⊥
no_other h = at_tree h.0 (ap tree_in h.1) h.2.1
  where
    tree_in : Option Expansion → Expansion
    tree_in o = elim o [ None ↦ doubled_tree | Some z ↦ z ]

    Ends : Expansion → Type 0
    Ends e = Path (path_context doubled_bound (int 1)) e ((self_name, Some (int 1)) ∷ []) (state (int 2) (codes "P_l")) (state (int 5) (codes "Done")) → ⊥

    value_in : Option Data → Data
    value_in o = elim o [ None ↦ int 0 | Some w ↦ w ]

    Past : Data → Type 0
    Past w = EndsIn (path_context doubled_bound (int 1)) ((made (codes "val") 1, Some w) ∷ (self_name, Some (int 1)) ∷ []) ((x, made (codes "val") 1) ∷ []) (codes "Done") (state (int 2) (codes "P_l")) (state (int 5) (codes "Done")) → ⊥

    past_four : Past (int 4)
    past_four ends = let five : Some (int 5) ≡ Some (int 4) = ends zero x refl ∙ new_value (int 4) (at_place (codes "P_l") ∷ []) in absurd (cc)

    other : Ends doubled_tree
    other p = subst Past (ap value_in p.1) past_four p.2

    at_tree : (e : Expansion) → doubled_tree ≡ e → Ends e
    at_tree e same = subst Ends same other
