-- Definitions name nothing that the module writes beside them: no variable, no label, no process, not ProcSet and not Terminating.
use Rattle.std.proofs.Common.{◌≡◌, ℕ, Bool, true, false, ◌||◌, List, [], ◌∷◌, ◌++◌, map, Option, Some, None, option_map, refl, sym, subst, inl, inr}
use Rattle.std.specs.Prelude.{◌⊎◌}
use Rattle.std.specs.List.{AllByRecursion, filter_map, cons_option}
use Rattle.pgo_base.specs.Data.{Data}
use Rattle.pgo_base.specs.Lookup.{Name, same_name}
use Rattle.pgo_base.specs.ValueCode.{value_from}
use Rattle.pgo_base.specs.declared.module.Defined.TheVariants.{Given}
use Rattle.pgo_model.specs.Names.{same_name-is, is_among}
use Rattle.pgo_scope.specs.Unknown.{means}
use Rattle.pgo_base.specs.declared.module.Defined.{Defined}
use Rattle.pgo_model.specs.ModuleView.{defined_view}
use Rattle.pgo_syntax.specs.declared.name.PlacedName.{PlacedName}
use Rattle.pgo_syntax.specs.declared.declaration.Definition.{Definition}
use Rattle.pgo_syntax.specs.declared.spec.Spec.{Spec}
use Rattle.pgo_uses.specs.AllUses.{start, names_of, heads, last_place, definition_uses}
use Rattle.pgo_uses.specs.StatementUses.{at_place}
use Rattle.pgo_uses.specs.Tables.{all_definitions, tables_of}
use Rattle.pgo_uses.specs.Uses.{uses}
use Rattle.pgo_uses.specs.declared.uses.Around.{Around}
use Rattle.pgo_uses.specs.declared.uses.Form.TheVariants as forms
use Rattle.pgo_uses.specs.declared.uses.Home.TheVariants as homes
use Rattle.pgo_uses.specs.declared.uses.Use.{Use}
use Rattle.pgo_bound.specs.Among.{IsAmong, among_left, among_right, all_at}
use Rattle.pgo_bound.specs.Values.{given_value, given_constant, meant, default_definition, define_of, defs_of}
use Rattle.pgo_bound.specs.Different.{all_from}
use Rattle.pgo_accept.proofs.Fitting.{ArgumentsFit}
use Rattle.pgo_sections.specs.Closed.{Apart, AreClosed}
use Rattle.pgo_sections.specs.Plain.{Plain}
use Rattle.pgo_agrees.specs.Accepted.{IsOfText, DefinitionOfText}
use Rattle.pgo_agrees.proofs.FromUses.{Known, Tells, stands}
use Rattle.pgo_agrees.proofs.Kept.{NoFindings}
use Rattle.pgo_agrees.proofs.Meanings.{common_apart, applicable_apart, alone_means, alone_no_global, defined_here, applied_is}
use Rattle.pgo_agrees.proofs.Uses.{FineUse, fine_use, of_definition}
use Rattle.pgo_agrees.proofs.Variables.{not_among}
use Rattle.pgo_agrees.proofs.Further.{IsTaken, names_written, taken_is, bound_not_taken}
use Rattle.pgo_agrees.proofs.Weaker.{plain}

closed_append : (vs : List Name) (ds es : List Defined) → AreClosed vs (map defined_view ds) → AreClosed vs (map defined_view es) → AreClosed vs (map defined_view (ds ++ es))
closed_append vs [] es h g = g
closed_append vs (d ∷ ds) es h g = (h.0, closed_append vs ds es h.1 g)

given_closed : (vs : List Name) (consts : List (Name × Data)) (cs : List PlacedName) → AreClosed vs (map defined_view (filter_map (given_constant consts) cs))
given_closed vs consts [] = tt
given_closed vs consts (c ∷ cs) = go (given_value consts c.name) (given_closed vs consts cs)
  where
    go : (o : Option Data) → AreClosed vs (map defined_view (filter_map (given_constant consts) cs))
        → AreClosed vs (map defined_view (cons_option (option_map (λ v. Given c.name (value_from v)) o) (filter_map (given_constant consts) cs)))
    go None r = r
    go (Some v) r = (tt, r)

meant_closed : (vs : List Name) (ds : List Definition) → ((d : Definition) → IsAmong d ds → Plain (Apart vs) (Apart vs) (λ y. Unit {0}) d.body) → AreClosed vs (map defined_view (map meant ds))
meant_closed vs [] f = tt
meant_closed vs (d ∷ ds) f = (f d (inl refl), meant_closed vs ds (λ e a. f e (inr a)))

module _ (s : Spec) (k : NoFindings s) (fit : AllByRecursion (ArgumentsFit s.archetypes) s.processes) (of_text : IsOfText s) where
  abbrev vs : List Name
  vs = names_written s

  pub apart : (x : Name) → (IsTaken s x → ⊥) → is_among x (names_written s) ≡ false
  apart x f = not_among x (names_written s) (λ a. f (taken_is s x a))

  pub bound_use_apart : (u : Use) → FineUse s u → u.form ≡ forms.Bound → is_among u.name (names_written s) ≡ false
  bound_use_apart u f e = apart u.name (bound_not_taken s k.clashes fit u f.among e)

  tells : (i : ℕ) → Tells (FineUse s) (homes.Definition i) false (λ h j x. is_among x (names_written s) ≡ false) (λ x. is_among x (names_written s) ≡ false) (λ x. is_among x (names_written s) ≡ false) (λ x. is_among x (names_written s) ≡ false)
  tells i = record {
    alone = alone;
    applied = λ u n f w e. apart u.name (applicable_apart s k fit of_text u.name (applied_is s k fit of_text u n f e));
    binds = λ u f w e. bound_use_apart u f e;
  }
    where
      alone : (u : Use) → FineUse s u → (u.around.home ≡ homes.Definition i) × (u.around.passed ≡ false) → u.form ≡ forms.Alone → (u.inner ≡ true → is_among u.name (names_written s) ≡ false) → is_among u.name (names_written s) ≡ false
      alone u f w e inner = go u.inner refl
        where
          go : (b : Bool) → u.inner ≡ b → is_among u.name (names_written s) ≡ false
          go true j = inner j
          go false j =
              let m = subst (λ z. means (tables_of s) s.archetypes z u.name ≡ true) w.0 (alone_means s k fit of_text u f e j) in
              apart u.name (common_apart s k fit of_text u.name (defined_here s k fit of_text i u.name m (alone_no_global s k fit of_text u f e j)))

  parameters_known : (ps : List PlacedName) (ns : List Name) (a : Around) → ((u : Use) → IsAmong u (heads forms.Bound ns a ps) → FineUse s u) → Known (λ x. is_among x (names_written s) ≡ false) (names_of ps) []
  parameters_known [] ns a f x h = absurd (let e : false ≡ true = h in cc)
  parameters_known (p ∷ ps) ns a f x h = go (same_name x p.name) refl h (parameters_known ps (ns ++ p.name ∷ []) a (λ u b. f u (inr b)) x)
    where
      use' : Use
      use' = record { name = p.name; form = forms.Bound; inner = is_among p.name ns; around = at_place p.place a }

      here : is_among p.name (names_written s) ≡ false
      here = bound_use_apart use' (f use' (inl refl)) refl

      go : (b : Bool) → same_name x p.name ≡ b → (b || is_among x (names_of ps)) ≡ true → (is_among x (names_of ps) ≡ true → (is_among x [] ≡ true) ⊎ (is_among x (names_written s) ≡ false)) → (is_among x [] ≡ true) ⊎ (is_among x (names_written s) ≡ false)
      go true e g more = inr (subst (λ z. is_among z (names_written s) ≡ false) (sym (same_name-is x p.name e)) here)
      go false e g more = more g

  definition_plain : (d : Definition) → IsAmong d (all_definitions s) → Plain (Apart vs) (Apart vs) (λ y. Unit {0}) d.body
  definition_plain d a =
      let j = of_definition s d a in
      let p = last_place d.name.place d.params in
      let at' = start (homes.Definition j.0) p in
      let hs = heads forms.Bound [] at' d.params in
      let us = uses (names_of d.params) at' d.body in
      let fine = λ (u : Use) (b : IsAmong u (definition_uses j.0 d)). fine_use s k u (j.2 u b) in
      let known = parameters_known d.params [] at' (λ u b. fine u (among_left u hs us b)) in
      let text = all_at DefinitionOfText d (all_definitions s) of_text.definitions a in
      let st = stands (FineUse s) (homes.Definition j.0) false (λ h i x. Apart vs x) (Apart vs) (Apart vs) (Apart vs) (tells j.0) (names_of d.params) [] at' d.body (refl, refl) known text.1 (all_from (FineUse s) us (λ u b. fine u (among_right u hs us b))) in
      plain (λ h i x. Apart vs x) (Apart vs) (Apart vs) (Apart vs) (Apart vs) (λ y. Unit {0}) (λ h i x g. g) (λ x g. g) (λ x g. tt) (λ x g. g) [] false false d.body (λ x h. absurd (let e : false ≡ true = h in cc)) st

  pub definitions_closed : (consts : List (Name × Data)) → AreClosed (names_written s) (map defined_view (defs_of s consts))
  definitions_closed consts =
      let given = filter_map (given_constant consts) s.constants in
      let first = given ++ (default_definition ∷ []) in
      let one = map meant s.definitions in
      closed_append vs (first ++ one) (map meant (define_of s.define)) (closed_append vs first one (closed_append vs given (default_definition ∷ []) (given_closed vs consts s.constants) (tt, tt)) (meant_closed vs s.definitions (λ d a. definition_plain d (among_left d s.definitions (define_of s.define) a)))) (meant_closed vs (define_of s.define) (λ d a. definition_plain d (among_right d s.definitions (define_of s.define) a)))
