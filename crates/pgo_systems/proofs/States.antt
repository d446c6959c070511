-- A section leads from a state whose values are within limits to one.
use Rattle.std.proofs.Common.{◌≡◌, ℕ, Bool, true, false, if◌then◌else◌, List, [], ◌∷◌, map, Option, Some, None, refl, sym, ap, ◌∙◌, subst, inl, inr}
use Rattle.pgo_base.specs.Data.{Data, boolean, integer, string, model, set, function, Items, no_items, item, Pairs, no_pairs, pair, graph, keys}
use Rattle.pgo_base.specs.Lookup.{Name, Vars, same_name, find}
use Rattle.pgo_base.specs.Sets.{in_order, in_order-in}
use Rattle.pgo_model.specs.Machine.{nth}
use Rattle.pgo_model.specs.ModuleView.{defined_view}
use Rattle.pgo_model.specs.Options.{on}
use Rattle.pgo_model.specs.Outcome.{Next}
use Rattle.pgo_model.specs.State.{AllValues}
use Rattle.pgo_model.specs.System.{Words}
use Rattle.pgo_model.specs.Value.{IsValue, AreValues, ArePairs}
use Rattle.pgo_model.specs.Written.{pc}
use Rattle.pgo_syntax.specs.declared.bound.Bound.{Bound}
use Rattle.pgo_syntax.specs.declared.bound.Instance.{Instance}
use Rattle.pgo_bound.specs.Among.{IsAmong, among_map, among_nth}
use Rattle.pgo_bound.specs.Declares.{value_in}
use Rattle.pgo_bound.specs.State.{IsState, id_of, identifiers}
use Rattle.pgo_sections.specs.Code.{Code}
use Rattle.pgo_sections.specs.Section.{section}
use Rattle.pgo_meaning.specs.Sect.{context_of, code_at, nothing, Sect}
use Rattle.pgo_meaning.specs.TreesAgree.{sections_at}
use Rattle.pgo_meaning.proofs.Ends.{end_at}
use Rattle.pgo_values.specs.Within.{IsWithin, Within, AllWithin, AreWithin, PairsWithin, FoundWithin, ContextWithin}
use Rattle.pgo_systems.specs.StatementLiterals.{InstanceWithin}
use Rattle.pgo_values.proofs.Operators.{EachPair, none_within, some_within, ordered_pairs}
use Rattle.pgo_values.proofs.Definitions.{definitions_within}
use Rattle.pgo_systems.proofs.Blocks.{PlacesWithin, section_within}
use Rattle.pgo_systems.specs.Counted.{AllCounted, IsCounted, counted}
use Rattle.pgo_values.specs.Limits.{Limits}
use Rattle.pgo_values.proofs.Lists.{among_in, in_among}

-- ---- identifiers are the keys of `pc`

module _ (b : Bound) (k : ℕ) (i : Instance) (at_k : nth b.instances k ≡ Some i) where
  pub identifier_there : IsAmong (id_of i) (identifiers b)
  identifier_there =
      let ids = map id_of b.instances in
      in_among (id_of i) (in_order ids) (in_order-in (id_of i) ids (among_in (id_of i) ids (among_map id_of i b.instances (among_nth i b.instances k at_k))))

-- ---- an end comes from the section of a label
pub record FromLabel (b : Bound) (i : Instance) (s : Vars) (d : Words) (t : Vars) (prints : List Data) : Type 0 where
  pub label : Name
  pub code : Code
  pub there : find label (sections_at b i) ≡ Some code
  pub ends : (section (context_of b i s) code d).end ≡ Next t prints

module _ (b : Bound) (k : ℕ) (i : Instance) (s : Vars) (d : Words) (t : Vars) (prints : List Data) where
  of_code : (o : Option Code) → (on nothing o (λ c. section (context_of b i s) c d)).end ≡ Next t prints → (c : Code) × (o ≡ Some c) × ((section (context_of b i s) c d).end ≡ Next t prints)
  of_code None e = absurd (cc)
  of_code (Some c) e = (c, refl, e)

  pub from_label : nth b.instances k ≡ Some i → (Sect b k s d).end ≡ Next t prints → FromLabel b i s d t prints
  from_label at_k e =
      let run = λ (i : Instance). on nothing (code_at b i (value_in s pc (id_of i))) (λ c. section (context_of b i s) c d) in
      let here = ap (λ o. (on nothing o run).end) (sym at_k) ∙ e in
      let c = of_code (code_at b i (value_in s pc (id_of i))) here in
      let l = end_at b k i s d t prints (value_in s pc (id_of i)) c.0 c.1 in
      record { label = l.0; code = c.0; there = l.1; ends = c.2 }

-- ---- counted values are values

mutual
  pub is_value : (v : Data) → IsCounted v → IsValue v
  is_value (boolean b) h = tt
  is_value (integer z) h = h
  is_value (string s) h = tt
  is_value (model s) h = tt
  is_value (set xs) h = (items_values xs h.0, h.1)
  is_value (function ps) h = (pairs_values ps h.0, h.1)

  items_values : (xs : Items) → AreWithin counted xs → AreValues xs
  items_values no_items h = tt
  items_values (item x xs) h = (is_value x h.0, items_values xs h.1)

  pairs_values : (ps : Pairs) → PairsWithin counted ps → ArePairs ps
  pairs_values no_pairs h = tt
  pairs_values (pair k v ps) h = (is_value k h.0, is_value v h.1, pairs_values ps h.2)

pub counted_values : (s : Vars) → AllCounted s → AllValues s
counted_values [] h = tt
counted_values (p ∷ s) h = (is_value p.1 h.0, counted_values s h.1)

module _ (limits : Limits) where
  pub all_found : (s : Vars) → AllWithin limits s → FoundWithin limits s
  all_found [] h x = none_within limits
  all_found (p ∷ s) h x = go (same_name x p.0) (all_found s h.1 x)
    where
      go : (b : Bool) → Within limits (find x s) → Within limits (if b then Some p.1 else find x s)
      go true r = some_within limits p.1 h.0
      go false r = r

  -- ---- what a section sees

  key_within : (ps : List (Data × Data)) (k : Data) → EachPair limits ps → IsAmong k (keys ps) → IsWithin limits k
  key_within [] k h m = absurd m
  key_within (p ∷ ps) k h (inl e) = subst (IsWithin limits) (sym e) (h p (inl refl)).0
  key_within (p ∷ ps) k h (inr m) = key_within ps k (λ q n. h q (inr n)) m

  module _ (b : Bound) (k : ℕ) (i : Instance) (at_k : nth b.instances k ≡ Some i) where
    pub id_within : (s : Vars) → IsState b s → AllWithin limits s → IsWithin limits (id_of i)
    id_within s is h =
        let f = is.places in
        let o : IsWithin limits (function f.0) = all_found s h pc (function f.0) f.1 in
        key_within (graph f.0) (id_of i) (ordered_pairs limits f.0 o.0) (subst (IsAmong (id_of i)) (sym f.2) (identifier_there b k i at_k))

    pub context_within : (s : Vars) → InstanceWithin limits b i → IsState b s → AllWithin limits s → ContextWithin limits (context_of b i s)
    context_within s l is h = record {
      start = all_found s h;
      id = id_within s is h;
      calls = definitions_within limits (map defined_view b.defs) l.definitions;
    }

  module _ (b : Bound) (k : ℕ) (i : Instance) (s : Vars) (d : Words) (t : Vars) (prints : List Data) where
    pub sect_within : nth b.instances k ≡ Some i → InstanceWithin limits b i → IsState b s → AllWithin limits s → PlacesWithin limits t → (Sect b k s d).end ≡ Next t prints → AllWithin limits t
    sect_within at_k l is h places e =
        let f = from_label b k i s d t prints at_k e in
        section_within limits (context_of b i s) (context_within b k i at_k s l is h) f.code d t prints h (l.sections f.label f.code f.there) places f.ends
