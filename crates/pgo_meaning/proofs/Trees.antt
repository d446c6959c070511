-- From the law of one section to a bound specification.
use Rattle.std.proofs.Common.{◌≡◌, ℕ, Bool, true, false, ◌||◌, if◌then◌else◌, List, [], ◌∷◌, ◌++◌, map, Option, Some, None, ◌↔◌, refl, sym, ap, ◌∙◌, subst, arith, option_map}
use Rattle.std.specs.List.{flat_map}
use Rattle.pgo_base.specs.Data.{string}
use Rattle.pgo_base.specs.Lookup.{Name, Vars, same_name, find}
use Rattle.pgo_model.specs.Machine.{nth}
use Rattle.pgo_model.specs.ModuleView.{defined_view}
use Rattle.pgo_model.specs.Options.{on}
use Rattle.pgo_model.specs.Outcome.{Next, Nowhere}
use Rattle.pgo_model.specs.Written.{pc, self_name, written}
use Rattle.pgo_syntax.specs.declared.bound.Bound.{Bound}
use Rattle.pgo_syntax.specs.declared.bound.Instance.{Instance}
use Rattle.pgo_bound.specs.Declares.{value_in}
use Rattle.pgo_bound.specs.State.{IsState, id_of, own_names, variables_of}
use Rattle.pgo_sections.specs.SectionsAgree.{IsPlace, Fit, SectionsAgree}
use Rattle.pgo_sections.specs.Closed.{ClosedAlike}
use Rattle.pgo_sections.specs.Code.{Place, Whole, Own, Code}
use Rattle.pgo_sections.specs.Section.{section}
use Rattle.pgo_model.specs.Choice.{word_at}
use Rattle.pgo_model.specs.Names.{is_among}
use Rattle.pgo_meaning.specs.Parameters.{places_of}
use Rattle.pgo_sections.specs.Expand.{expansion}
use Rattle.pgo_sections.specs.Expansion.{Path}
use Rattle.pgo_meaning.specs.TreesAgree.{Named, TreesAgree, AllTreesAgree, sections_at, expansions_at}
use Rattle.pgo_meaning.specs.Sect.{context_of, code_at, nothing, Sect, Allows}
use Rattle.pgo_meaning.specs.TreeAllows.{path_context, TreeAllows}
use Rattle.pgo_sections.proofs.Closing.{not_among}
use Rattle.pgo_meaning.proofs.SectionCode.{section_has_blocks}

find_map : {A B : Type 0} → (f : A → B) (l : List (Name × A)) (x : Name) → find x (map (λ c. (c.0, f c.1)) l) ≡ option_map f (find x l)
find_map f [] x = refl
find_map {A} {B} f (p ∷ l) x = go (same_name x p.0) (find_map f l x)
  where
    go : (b : Bool) → find x (map (λ c. (c.0, f c.1)) l) ≡ option_map f (find x l) → (if b then Some (f p.1) else find x (map (λ c. (c.0, f c.1)) l)) ≡ option_map f (if b then Some p.1 else find x l)
    go true e = refl
    go false e = e

or_left : (b c d : Bool) → (b ≡ true → c ≡ true) → d || b ≡ true → d || c ≡ true
or_left b c true f h = refl
or_left b c false f h = f h

pub among_front : (x : Name) (xs ys : List Name) → is_among x xs ≡ true → is_among x (xs ++ ys) ≡ true
among_front x [] ys h = absurd (grind (arith, h))
among_front x (z ∷ xs) ys h = or_left (is_among x xs) (is_among x (xs ++ ys)) (same_name x z) (λ k. among_front x xs ys k) h

module _ (sections_agree : SectionsAgree) (alike : ClosedAlike) (b : Bound) (k : ℕ) (i : Instance) (l : Name) (s t : Vars) (at_k : nth b.instances k ≡ Some i) (n : Named b i) (is_s : IsState b s) (is_t : IsState b t) (at_l : value_in s pc (id_of i) ≡ Some (string l)) where
  fit : Fit (path_context b (id_of i)) (context_of b i s) t
  fit = record {
    id = refl;
    globals = refl;
    before = is_s.variables;
    after = is_t.variables;
    shallow = is_t.shallow;
    distinct = n.differ;
    written = n.written;
    inside = inside;
    places = n.places s;
    defs = λ x args. alike (variables_of b.spec) (map defined_view b.defs) s (Some t) n.closed (λ y h. not_among s y (ap (λ xs. is_among y xs) is_s.variables ∙ h)) x args;
  }
    where
      inside : (p : Place) → IsPlace (context_of b i s) p → is_among (elim p as (λ p. Name) [ Whole x ↦ x | Own x ↦ x ]) (variables_of b.spec) ≡ true
      inside (Whole g) is =
          among_front g (map (λ d. d.name.name) b.spec.globals ++ (pc ∷ [])) (flat_map (λ p. map (written p.name.name) (own_names b.spec p)) b.spec.processes) (among_front g (map (λ d. d.name.name) b.spec.globals) (pc ∷ []) is)
      inside (Own x) is = n.owns x is

  -- the section of this label
  sect_is : (o : Option Code) → find l (sections_at b i) ≡ o → (d : ℕ → ℕ) → Sect b k s d ≡ on nothing o (λ c. section (context_of b i s) c d)
  sect_is o e d =
      ap (λ q. on nothing q (λ i. on nothing (code_at b i (value_in s pc (id_of i))) (λ c. section (context_of b i s) c d))) at_k
      ∙ ap (λ q. on nothing (code_at b i q) (λ c. section (context_of b i s) c d)) at_l
      ∙ ap (λ q. on nothing q (λ c. section (context_of b i s) c d)) e

  tree_is : find l (expansions_at b i) ≡ option_map (expansion (variables_of b.spec) (places_of i.process i.archetype i.bindings)) (find l (sections_at b i))
  tree_is = find_map (expansion (variables_of b.spec) (places_of i.process i.archetype i.bindings)) (sections_at b i) l

  got : {A : Type 0} → (a b : A) → Some a ≡ Some b → a ≡ b
  got a b e = ap (λ o. elim o [ None ↦ a | Some z ↦ z ]) e

  cases : (o : Option Code) → find l (sections_at b i) ≡ o → TreeAllows (expansions_at b i) b l (id_of i) s t ↔ Allows b k s t
  cases None e = (
    λ h. absurd (let q : None ≡ Some h.0 = sym (tree_is ∙ ap (option_map (expansion (variables_of b.spec) (places_of i.process i.archetype i.bindings))) e) ∙ h.1 in grind (arith, q)),
    λ h.
        absurd (let q : Nowhere ≡ Next t h.prints = sym (ap (λ x. x.end) (sect_is None e (word_at h.words))) ∙ h.leads in grind (arith, q)),
  )
  cases (Some c) e =
      let agree = sections_agree (path_context b (id_of i)) (context_of b i s) c t fit (section_has_blocks b.spec.macros i.process i.archetype i.bindings l c e) (n.plain l c e) (n.few l c e) in
      let there = tree_is ∙ ap (option_map (expansion (variables_of b.spec) (places_of i.process i.archetype i.bindings))) e in (
        λ h.
            (let same = got _ _ (sym there ∙ h.1) in
            let r = agree.0 (subst (λ x. Path (path_context b (id_of i)) x ((self_name, Some (id_of i)) ∷ []) s t) (sym same) h.2.1) in
            record { words = r.words; prints = r.prints; leads = ap (λ x. x.end) (sect_is (Some c) e (word_at r.words)) ∙ r.leads }),
        λ h.
            (expansion (variables_of b.spec) (places_of i.process i.archetype i.bindings) c, there, (is_t, agree.1 (record { words = h.words; prints = h.prints; leads = sym (ap (λ x. x.end) (sect_is (Some c) e (word_at h.words))) ∙ h.leads }))),
      )

pub trees_agree : SectionsAgree → ClosedAlike → TreesAgree
trees_agree agree alike b k i l s t at_k n is_s is_t at_l = cases agree alike b k i l s t at_k n is_s is_t at_l (find l (sections_at b i)) refl

pub all_trees_agree : SectionsAgree → ClosedAlike → AllTreesAgree
all_trees_agree agree alike b k i l c s t at_k n own here is_s is_t at_l =
    let same = own l c here in
    let one = trees_agree agree alike b k i l s t at_k n is_s is_t at_l in
    (λ h. one.0 (h.0, sym same ∙ h.1, h.2), λ h. (let x = one.1 h in (x.0, same ∙ x.1, x.2)))
