-- A section leads from a state to a state, if the values of its end are values.
use Rattle.std.proofs.Common.{◌≡◌, ℕ, Bool, true, false, ◌||◌, List, [], ◌∷◌, ◌++◌, map, Option, Some, None, refl, ap, sym, ◌∙◌, arith}
use Rattle.std.specs.List.{flat_map}
use Rattle.pgo_base.specs.Data.{Data, boolean, integer, string, model, set, function, graph, keys}
use Rattle.pgo_base.specs.Lookup.{Name, Vars, same_name, find}
use Rattle.pgo_model.specs.Machine.{nth}
use Rattle.pgo_model.specs.Names.{same_name-self, is_among}
use Rattle.pgo_model.specs.Options.{on}
use Rattle.pgo_model.specs.Outcome.{Next}
use Rattle.pgo_model.specs.State.{AllValues, is_shallow}
use Rattle.pgo_model.specs.System.{Words}
use Rattle.pgo_model.specs.Variables.{IsFunctionOn}
use Rattle.pgo_model.specs.Written.{pc, written}
use Rattle.pgo_syntax.specs.declared.bound.Bound.{Bound}
use Rattle.pgo_syntax.specs.declared.bound.Instance.{Instance}
use Rattle.pgo_syntax.specs.declared.process.Process.{Process}
use Rattle.pgo_syntax.specs.declared.spec.Spec.{Spec}
use Rattle.pgo_bound.specs.Among.{IsAmong, all_at, among_map, among_flat_map, among_nth, among_right, turned}
use Rattle.pgo_bound.specs.Declares.{value_in}
use Rattle.pgo_bound.specs.State.{AreDifferent, IsState, IsStateOnDomains, id_of, kind_in, own_names, variables_of}
use Rattle.pgo_bound.specs.declared.kinds.Kind.TheVariants.{ByElement}
use Rattle.pgo_sections.specs.SectionsAgree.{keys as names_of}
use Rattle.pgo_sections.specs.Code.{Code}
use Rattle.pgo_sections.specs.Context.{Context}
use Rattle.pgo_sections.specs.Domains.{ByElements, KeepsDomain, place, own, elements}
use Rattle.pgo_sections.specs.Section.{section}
use Rattle.pgo_meaning.specs.Ends.{KeepsElements}
use Rattle.pgo_meaning.specs.Sect.{is_by_element, context_of, code_at, nothing, Sect}
use Rattle.pgo_meaning.specs.TreesAgree.{sections_at}
use Rattle.pgo_meaning.proofs.Trees.{among_front}

-- what the lower laws say
abbrev pub VariablesKept : Type 0
VariablesKept = (k : Context) (c : Code) (d : Words) (t : Vars) (prints : List Data) → (section k c d).end ≡ Next t prints → (names_of t ≡ names_of k.start) × (is_shallow t ≡ true)

abbrev pub DomainsKept : Type 0
DomainsKept = (k : Context) (c : Code) (d : Words) (t : Vars) (prints : List Data) (x : Name) (ids : List Data) → ByElements k.by_element c → (section k c d).end ≡ Next t prints → KeepsDomain k x → IsFunctionOn ids (find x k.start) → IsFunctionOn ids (find x t)

-- names of the front are none of the rest
apart : (xs ys : List Name) (y : Name) → AreDifferent (xs ++ ys) → IsAmong y ys → is_among y xs ≡ false
apart [] ys y d h = refl
apart (x ∷ xs) ys y d h =
    let first = turned x y (all_at (λ z. same_name x z ≡ false) y (xs ++ ys) d.0 (among_right y xs ys h)) in
    ap (λ b. b || is_among y xs) first ∙ apart xs ys y d.1 h

not_front : (x : Name) (xs ys : List Name) → is_among x (xs ++ ys) ≡ false → is_among x xs ≡ false
not_front x xs ys h = go (is_among x xs) refl
  where
    go : (b : Bool) → is_among x xs ≡ b → is_among x xs ≡ false
    go false e = e
    go true e = absurd (let z : true ≡ false = sym (among_front x xs ys e) ∙ h in cc)

-- a local or a value parameter is no global
own_apart : (s : Spec) → AreDifferent (variables_of s) → (n m : ℕ) (p : Process) (x : Name) → nth s.processes n ≡ Some p → nth (own_names s p) m ≡ Some x → is_among (written p.name.name x) (map (λ d. d.name.name) s.globals) ≡ false
own_apart s d n m p x at_p at_x =
    let owns = λ (p : Process). map (written p.name.name) (own_names s p) in
    let there = among_flat_map owns p (written p.name.name x) s.processes (among_nth p s.processes n at_p) (among_map (written p.name.name) x (own_names s p) (among_nth x (own_names s p) m at_x)) in
    not_front (written p.name.name x) (map (λ d. d.name.name) s.globals) (pc ∷ []) (apart (map (λ d. d.name.name) s.globals ++ (pc ∷ [])) (flat_map owns s.processes) (written p.name.name x) d there)

-- an end comes from the section of a label
record EndOf (b : Bound) (i : Instance) (s : Vars) (d : Words) (t : Vars) (prints : List Data) : Type 0 where
  pub label : Name
  pub code : Code
  pub there : find label (sections_at b i) ≡ Some code
  pub ends : (section (context_of b i s) code d).end ≡ Next t prints

module _ (b : Bound) (k : ℕ) (i : Instance) (s : Vars) (d : Words) (t : Vars) (prints : List Data) where
  end_of_code : (o : Option Code) → (on nothing o (λ c. section (context_of b i s) c d)).end ≡ Next t prints → (c : Code) × (o ≡ Some c) × ((section (context_of b i s) c d).end ≡ Next t prints)
  end_of_code None e = absurd (grind (arith, e))
  end_of_code (Some c) e = (c, refl, e)

  pub end_at : (o : Option Data) (c : Code) → code_at b i o ≡ Some c → (l : Name) × (find l (sections_at b i) ≡ Some c)
  end_at None c e = absurd (grind (arith, e))
  end_at (Some (string l)) c e = (l, e)
  end_at (Some (boolean z)) c e = absurd (grind (arith, e))
  end_at (Some (integer z)) c e = absurd (grind (arith, e))
  end_at (Some (model z)) c e = absurd (grind (arith, e))
  end_at (Some (set z)) c e = absurd (grind (arith, e))
  end_at (Some (function z)) c e = absurd (grind (arith, e))

  end_is : nth b.instances k ≡ Some i → (Sect b k s d).end ≡ Next t prints → EndOf b i s d t prints
  end_is at_k e =
      let run = λ (i : Instance). on nothing (code_at b i (value_in s pc (id_of i))) (λ c. section (context_of b i s) c d) in
      let here = ap (λ o. (on nothing o run).end) (sym at_k) ∙ e in
      let c = end_of_code (code_at b i (value_in s pc (id_of i))) here in
      let l = end_at (value_in s pc (id_of i)) c.0 c.1 in
      record { label = l.0; code = c.0; there = l.1; ends = c.2 }

module _ (variables : VariablesKept) (domains : DomainsKept) (b : Bound) (k : ℕ) (i : Instance) (s : Vars) (d : Words) (t : Vars) (prints : List Data) (keeps : KeepsElements b i) (at_k : nth b.instances k ≡ Some i) (ends : (Sect b k s d).end ≡ Next t prints) where
  abbrev c : Context
  c = context_of b i s

  e : EndOf b i s d t prints
  e = end_is b k i s d t prints at_k ends

  kept : (x : Name) (ids : List Data) → KeepsDomain c x → IsFunctionOn ids (find x s) → IsFunctionOn ids (find x t)
  kept x ids how h = domains c e.code d t prints x ids (keeps.elements e.label e.code e.there) e.ends how h

  by_element : (g : Name) → kind_in b g ≡ ByElement → KeepsDomain c g
  by_element g h = elements (ap is_by_element h)

  pub end_is_state : IsState b s → AllValues t → IsState b t
  end_is_state is values = record {
    variables = (variables c e.code d t prints e.ends).0 ∙ is.variables;
    values = values;
    shallow = (variables c e.code d t prints e.ends).1;
    places = kept pc _ (place (same_name-self pc)) is.places;
    locals = λ n m p x at_p at_x.
        kept (written p.name.name x) _ (own (own_apart b.spec keeps.differ n m p x at_p at_x)) (is.locals n m p x at_p at_x);
    elements = λ n g at_g h.
        let f = is.elements n g at_g h in
        let r = kept g.name.name (keys (graph f.0)) (by_element g.name.name h) (f.0, f.1, refl) in
        (r.0, r.1);
  }

  pub end_on_domains : IsStateOnDomains b s → AllValues t → IsStateOnDomains b t
  end_on_domains is values = record {
    state = end_is_state is.state values;
    domains = λ n g at_g h.
        let f = is.domains n g at_g h in (f.0, f.1, kept g.name.name f.0 (by_element g.name.name h) f.2);
  }
