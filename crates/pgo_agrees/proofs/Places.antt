-- What the parameters and locals of a process are: own variables, or globals as a whole.
use Rattle.std.proofs.Common.{◌≡◌, ℕ, suc, Bool, true, false, ◌&&◌, if◌then◌else◌, List, [], ◌∷◌, ◌++◌, map, filter, cond, Option, Some, None, option_map, refl, ap, sym, ◌∙◌, subst, inl, inr}
use Rattle.std.specs.Prelude.{◌⊎◌}
use Rattle.std.specs.List.{filter_map, flat_map, cons_option, list_all}
use Rattle.pgo_base.specs.Lookup.{Name, same_name, find}
use Rattle.pgo_model.specs.Names.{same_name-self, same_name-is, is_among}
use Rattle.pgo_model.specs.Written.{pc, written}
use Rattle.pgo_syntax.specs.declared.name.PlacedName.{PlacedName}
use Rattle.pgo_syntax.specs.declared.archetype.Archetype.{Archetype}
use Rattle.pgo_syntax.specs.declared.archetype.Extent.{Extent}
use Rattle.pgo_syntax.specs.declared.archetype.Extent.TheVariants.{Whole as WholeExtent, Element}
use Rattle.pgo_syntax.specs.declared.archetype.Parameter.{Parameter}
use Rattle.pgo_syntax.specs.declared.bound.Binding.{Binding}
use Rattle.pgo_syntax.specs.declared.bound.Bound.{Bound}
use Rattle.pgo_syntax.specs.declared.bound.Instance.{Instance}
use Rattle.pgo_syntax.specs.declared.bound.Mapping.{Mapping}
use Rattle.pgo_syntax.specs.declared.bound.Mapping.TheVariants.{Macro}
use Rattle.pgo_syntax.specs.declared.bound.Target.TheVariants as targets
use Rattle.pgo_syntax.specs.declared.declaration.Declaration.{Declaration}
use Rattle.pgo_syntax.specs.declared.process.Argument.{Argument}
use Rattle.pgo_syntax.specs.declared.process.Argument.TheVariants as arguments
use Rattle.pgo_syntax.specs.declared.process.MappingClause.{MappingClause}
use Rattle.pgo_syntax.specs.declared.process.Process.{Process}
use Rattle.pgo_syntax.specs.declared.spec.Spec.{Spec}
use Rattle.pgo_bound.specs.declared.kinds.Kind.TheVariants.{AsWhole, ByElement}
use Rattle.pgo_bound.specs.Among.{IsAmong, among_left, among_right, among_append, among_map, among_filter_map, among_flat_map, from_map, from_filter_map}
use Rattle.pgo_bound.specs.Runs.{Handed, handed_from, archetype_named, mapping_without, mapping_by, speaking, unless_any, is_of_number, is_of_name, target_of, binding_of, is_element, kind_of_extents}
use Rattle.pgo_bound.specs.State as bind
use Rattle.pgo_bound.specs.State.{variables_of, names_with, names_or_none, target_extent, kind_in}
use Rattle.pgo_sections.specs.Code.{Place, Whole, Own, variable_of}
use Rattle.pgo_uses.specs.Tables.{tables_of}
use Rattle.pgo_scope.specs.Unknown.{unknown_heads}
use Rattle.pgo_meaning.specs.Parameters.{place_of, parameter_places, local_places, places_of, own_name, own_variables}
use Rattle.pgo_meaning.specs.Sect.{is_by_element}
use Rattle.pgo_meaning.proofs.Traces.{among_is}
use Rattle.pgo_accept.proofs.Variables.{handed_value}
use Rattle.pgo_agrees.proofs.Heads.{ref_declared, mapping_found}
use Rattle.pgo_agrees.proofs.Variables.{is_among_there}

-- an entry of the places of a process: a value parameter or a local; or a parameter that is handed a global as a whole
pub data PlaceFrom (s : Spec) (cs : List MappingClause) (pn : Name) (hs : List Handed) (names : List Name) (q : Name × Place) : Type 0 where
  is_own : (y : Name) → q ≡ (y, Own (written pn y)) → IsAmong y names → PlaceFrom s cs pn hs names q
  is_whole : (h : Handed) → (g : PlacedName) → (e : Extent) → IsAmong h hs → h.argument ≡ arguments.Ref g e → mapping_by s e (speaking h.number g.name cs) ≡ None → q ≡ (h.parameter.name.name, Whole g.name) → PlaceFrom s cs pn hs names q

module _ (s : Spec) (cs : List MappingClause) (pn : Name) where
  later : (h : Handed) (hs : List Handed) (q : Name × Place) → PlaceFrom s cs pn hs (filter_map handed_value hs) q → PlaceFrom s cs pn (h ∷ hs) (filter_map handed_value (h ∷ hs)) q
  later h hs q (is_own y e a) = is_own y e (go (handed_value h))
    where
      go : (o : Option Name) → IsAmong y (cons_option o (filter_map handed_value hs))
      go None = a
      go (Some z) = inr a
  later h hs q (is_whole i g e a b n m) = is_whole i g e (inr a) b n m

  parameter_from : (hs : List Handed) (q : Name × Place) → IsAmong q (parameter_places pn (map (binding_of s cs) hs)) → PlaceFrom s cs pn hs (filter_map handed_value hs) q
  parameter_from [] q a = absurd a
  parameter_from (h ∷ hs) q a = go h.argument refl a (λ b. later h hs q (parameter_from hs q b))
    where
      go : (x : Argument) → h.argument ≡ x → IsAmong q (place_of pn h.parameter.name.name (target_of s cs h.number x) (parameter_places pn (map (binding_of s cs) hs)))
          → (IsAmong q (parameter_places pn (map (binding_of s cs) hs)) → PlaceFrom s cs pn (h ∷ hs) (filter_map handed_value (h ∷ hs)) q) → PlaceFrom s cs pn (h ∷ hs) (filter_map handed_value (h ∷ hs)) q
      go (arguments.Value p e) is (inl b) more =
          is_own h.parameter.name.name b (subst (λ x. IsAmong h.parameter.name.name (cons_option (bind.value_name h.parameter.name.name x) (filter_map handed_value hs))) (sym is) (inl refl))
      go (arguments.Value p e) is (inr b) more = more b
      go (arguments.Ref g e) is b more = by (mapping_by s e (speaking h.number g.name cs)) refl b
        where
          by : (o : Option Mapping) → mapping_by s e (speaking h.number g.name cs) ≡ o → IsAmong q (place_of pn h.parameter.name.name (targets.Global g.name e o) (parameter_places pn (map (binding_of s cs) hs))) → PlaceFrom s cs pn (h ∷ hs) (filter_map handed_value (h ∷ hs)) q
          by None n (inl c) = is_whole h g e (inl refl) is n c
          by None n (inr c) = more c
          by (Some m) n c = more c

-- a process that runs an archetype
module _ (s : Spec) (p : Process) (a : Archetype) where
  abbrev pub hands : List Handed
  hands = handed_from 1 a.params p.arguments

  abbrev pub binds : List Binding
  binds = map (binding_of s p.clauses) hands

  pub place_from : (q : Name × Place) → IsAmong q (places_of p.name.name a binds) → PlaceFrom s p.clauses p.name.name hands (names_with p a) q
  place_from q h = go (among_append q (parameter_places p.name.name binds) (local_places p.name.name a.locals) h)
    where
      more : PlaceFrom s p.clauses p.name.name (handed_from 1 a.params p.arguments) (filter_map handed_value (handed_from 1 a.params p.arguments)) q → PlaceFrom s p.clauses p.name.name (handed_from 1 a.params p.arguments) (names_with p a) q
      more (is_own y e b) = is_own y e (among_left y (filter_map handed_value (handed_from 1 a.params p.arguments)) (map (λ (d : Declaration). d.name.name) a.locals) b)
      more (is_whole i g e b c n m) = is_whole i g e b c n m

      go : IsAmong q (parameter_places p.name.name (map (binding_of s p.clauses) (handed_from 1 a.params p.arguments))) ⊎ IsAmong q (local_places p.name.name a.locals) → PlaceFrom s p.clauses p.name.name (handed_from 1 a.params p.arguments) (names_with p a) q
      go (inl b) = more (parameter_from s p.clauses p.name.name (handed_from 1 a.params p.arguments) q b)
      go (inr b) =
          let m = from_map (λ (d : Declaration). (d.name.name, Own (written p.name.name d.name.name))) q a.locals b in
          is_own m.0.name.name m.2 (among_right m.0.name.name (filter_map handed_value (handed_from 1 a.params p.arguments)) (map (λ (d : Declaration). d.name.name) a.locals) (among_map (λ (d : Declaration). d.name.name) m.0 a.locals m.1))

pub found_there : {A : Type 0} (x : Name) (v : A) (xs : List (Name × A)) → find x xs ≡ Some v → IsAmong (x, v) xs
found_there x v [] h = absurd (cc)
found_there {A} x v (q ∷ xs) h = go (same_name x q.0) refl h (found_there x v xs)
  where
    go : (b : Bool) → same_name x q.0 ≡ b → (if b then Some q.1 else find x xs) ≡ Some v → (find x xs ≡ Some v → IsAmong (x, v) xs) → IsAmong (x, v) (q ∷ xs)
    go true e k more = inl (let f = same_name-is x q.0 e in let g : q.1 ≡ v = cc in (λ i. (f i, sym g i)))
    go false e k more = inr (more k)

pub from_filter : {A : Type 0} (f : A → Bool) (x : A) (xs : List A) → IsAmong x (filter f xs) → IsAmong x xs × (f x ≡ true)
from_filter f x [] m = absurd m
from_filter {A} f x (y ∷ ys) m = go (f y) refl m (from_filter f x ys)
  where
    go : (b : Bool) → f y ≡ b → IsAmong x (cond b (y ∷ filter f ys) (filter f ys)) → (IsAmong x (filter f ys) → IsAmong x ys × (f x ≡ true)) → IsAmong x (y ∷ ys) × (f x ≡ true)
    go true e (inl q) more = (inl q, ap f q ∙ e)
    go true e (inr k) more = let r = more k in (inr r.0, r.1)
    go false e k more = let r = more k in (inr r.0, r.1)

pub handed_among : (n : ℕ) (ps : List Parameter) (es : List Argument) (h : Handed) → IsAmong h (handed_from n ps es) → IsAmong h.argument es
handed_among n [] es h a = absurd a
handed_among n (p ∷ ps) [] h a = absurd a
handed_among n (p ∷ ps) (x ∷ es) h (inl e) = inl (ap (λ (h : Handed). h.argument) e)
handed_among n (p ∷ ps) (x ∷ es) h (inr a) = inr (handed_among (suc n) ps es h a)

own_of : (q : Name × Place) (x : Name) → own_name q.1 ≡ Some x → q.1 ≡ Own x
own_of q x h = go q.1 h
  where
    go : (z : Place) → own_name z ≡ Some x → z ≡ Own x
    go (Whole y) k = absurd (cc)
    go (Own y) k = let e : y ≡ x = cc in ap Own e

-- ---- own variables are variables; a place is a global or an own variable
module _ (s : Spec) (heads : unknown_heads (tables_of s) s.processes ≡ []) (p : Process) (a : Archetype) (among : IsAmong p s.processes) (named : archetype_named p.archetype.name s.archetypes ≡ Some a) where
  own_variable : (y : Name) → IsAmong y (names_with p a) → is_among (written p.name.name y) (variables_of s) ≡ true
  own_variable y h =
      let front = map (λ (d : Declaration). d.name.name) s.globals ++ (pc ∷ []) in
      let f = λ (q : Process). map (written q.name.name) (bind.own_names s q) in
      is_among_there (written p.name.name y) (variables_of s)
      (among_right (written p.name.name y) front (flat_map f s.processes) (among_flat_map f p (written p.name.name y) s.processes among (subst (λ o. IsAmong (written p.name.name y) (map (written p.name.name) (names_or_none p o))) (sym named) (among_map (written p.name.name) y (names_with p a) h))))

  pub owns : (x : Name) → is_among x (own_variables p.name.name a (binds s p a)) ≡ true → is_among x (variables_of s) ≡ true
  owns x h =
      let m = from_filter_map (λ (q : Name × Place). own_name q.1) x (places_of p.name.name a (binds s p a)) (among_is x (own_variables p.name.name a (binds s p a)) h) in
      go m.0 (own_of m.0 x m.2) (place_from s p a m.0 m.1)
    where
      go : (q : Name × Place) → q.1 ≡ Own x → PlaceFrom s p.clauses p.name.name (hands s p a) (names_with p a) q → is_among x (variables_of s) ≡ true
      go q e (is_own y f b) =
          let same : Own x ≡ Own (written p.name.name y) = sym e ∙ ap (λ (z : Name × Place). z.1) f in
          let k : x ≡ written p.name.name y = ap variable_of same in
          subst (λ z. is_among z (variables_of s) ≡ true) (sym k) (own_variable y b)
      go q e (is_whole i g t b c n f) = absurd (let same : Own x ≡ Whole g.name = sym e ∙ ap (λ (z : Name × Place). z.1) f in cc)

  -- a global that a parameter is handed
  pub handed_global : (h : Handed) (g : PlacedName) (e : Extent) → IsAmong h (hands s p a) → h.argument ≡ arguments.Ref g e → is_among g.name (map (λ (d : Declaration). d.name.name) s.globals) ≡ true
  handed_global h g e b c =
      let d = ref_declared s heads p among g e (subst (λ x. IsAmong x p.arguments) c (handed_among 1 a.params p.arguments h b)) in
      is_among_there g.name (map (λ (d : Declaration). d.name.name) s.globals) (subst (λ x. IsAmong x (map (λ (d : Declaration). d.name.name) s.globals)) d.2 (among_map (λ (d : Declaration). d.name.name) d.0 s.globals d.1))

  -- what is asked of a place, over any globals and own variables of these names
  abbrev pub IsPlaceOf : Place → Type 0
  IsPlaceOf (Whole x) = is_among x (map (λ (d : Declaration). d.name.name) s.globals) ≡ true
  IsPlaceOf (Own x) = is_among x (own_variables p.name.name a (binds s p a)) ≡ true

  pub places : (x : Name) (z : Place) → find x (places_of p.name.name a (binds s p a)) ≡ Some z → IsPlaceOf z
  places x z h =
      let there = found_there x z (places_of p.name.name a (binds s p a)) h in go z there (place_from s p a (x, z) there)
    where
      go : (z : Place) → IsAmong (x, z) (places_of p.name.name a (binds s p a)) → PlaceFrom s p.clauses p.name.name (hands s p a) (names_with p a) (x, z) → IsPlaceOf z
      go (Own y) b f =
          is_among_there y (own_variables p.name.name a (binds s p a)) (among_filter_map (λ (q : Name × Place). own_name q.1) (x, Own y) y (places_of p.name.name a (binds s p a)) b refl)
      go (Whole y) b (is_own w f c) = absurd (let same : Whole y ≡ Own (written p.name.name w) = ap (λ (z : Name × Place). z.1) f in cc)
      go (Whole y) b (is_whole i g t c d n f) =
          let k : y ≡ g.name = ap (λ (z : Name × Place). variable_of z.1) f in
          subst (λ w. is_among w (map (λ (d : Declaration). d.name.name) s.globals) ≡ true) (sym k) (handed_global i g t c d)

  -- ---- an unmapped parameter is of a global as a whole

  speaking_among : (n : ℕ) (g : Name) (c : MappingClause) → IsAmong c (speaking n g p.clauses) → IsAmong c p.clauses
  speaking_among n g c h =
      go (filter (λ (c : MappingClause). is_of_number n c.target) p.clauses) (λ b. (from_filter (λ (c : MappingClause). is_of_number n c.target) c p.clauses b).0) h
    where
      go : (bs : List MappingClause) → (IsAmong c bs → IsAmong c p.clauses) → IsAmong c (unless_any bs (filter (λ (c : MappingClause). is_of_name g c.target) p.clauses)) → IsAmong c p.clauses
      go [] f k = (from_filter (λ (c : MappingClause). is_of_name g c.target) c p.clauses k).0
      go (d ∷ ds) f k = f k

  pub unmapped_whole : (n : ℕ) (g : Name) (e : Extent) → mapping_by s e (speaking n g p.clauses) ≡ None → e ≡ WholeExtent
  unmapped_whole n g e h = go (speaking n g p.clauses) (λ c b. speaking_among n g c b) h
    where
      without : (e : Extent) → mapping_without e ≡ None → e ≡ WholeExtent
      without WholeExtent k = refl
      without Element k = absurd (cc)

      go : (cs : List MappingClause) → ((c : MappingClause) → IsAmong c cs → IsAmong c p.clauses) → mapping_by s e cs ≡ None → e ≡ WholeExtent
      go [] f k = without e k
      go (c ∷ cs) f k =
          let m = mapping_found s heads p among c (f c (inl refl)) in
          absurd (let q : None ≡ Some (Macro m.0) = sym k ∙ ap (option_map Macro) m.1 in cc)

-- ---- a global that is bound as a whole by some instance is no global that is bound by element

whole_list : (es : List Extent) → IsAmong WholeExtent es → list_all is_element es ≡ false
whole_list [] h = absurd h
whole_list (e ∷ es) (inl q) = ap (λ x. is_element x && list_all is_element es) (sym q)
whole_list (e ∷ es) (inr h) = go (is_element e) (whole_list es h)
  where
    go : (b : Bool) → list_all is_element es ≡ false → b && list_all is_element es ≡ false
    go true k = k
    go false k = refl

whole_kind : (es : List Extent) → IsAmong WholeExtent es → is_by_element (kind_of_extents es) ≡ false
whole_kind [] h = absurd h
whole_kind (e ∷ es) h = ap (λ b. is_by_element (if b then ByElement else AsWhole)) (whole_list (e ∷ es) h)

pub bound_whole : (b : Bound) (i : Instance) (x : Binding) (g : Name) → IsAmong i b.instances → IsAmong x i.bindings → target_extent g x.target ≡ Some WholeExtent → is_by_element (kind_in b g) ≡ false
bound_whole b i x g h k e =
    whole_kind (flat_map (λ i. filter_map (λ x. target_extent g x.target) i.bindings) b.instances) (among_flat_map (λ (i : Instance). filter_map (λ (x : Binding). target_extent g x.target) i.bindings) i WholeExtent b.instances h (among_filter_map (λ (x : Binding). target_extent g x.target) x WholeExtent i.bindings k e))

pub target_whole : (s : Spec) (cs : List MappingClause) (n : ℕ) (g : PlacedName) → target_extent g.name (target_of s cs n (arguments.Ref g WholeExtent)) ≡ Some WholeExtent
target_whole s cs n g = ap (λ b. if b then Some WholeExtent else None) (same_name-self g.name)
