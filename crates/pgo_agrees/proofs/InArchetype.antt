-- Names in the statements of an archetype that a process runs.
use Rattle.std.proofs.Common.{◌≡◌, ℕ, suc, Bool, true, false, ◌||◌, not, if◌then◌else◌, List, [], ◌∷◌, ◌++◌, map, length, Option, Some, None, refl, ap, sym, ◌∙◌, subst, inl, inr}
use Rattle.std.proofs.lemmas.Bool.{not-false}
use Rattle.std.specs.Prelude.{◌⊎◌, slice_get}
use Rattle.std.specs.List.{AllByRecursion, filter_map}
use Rattle.pgo_base.specs.Data.{Data}
use Rattle.pgo_base.specs.Lookup.{Name, same_name, find}
use Rattle.pgo_model.specs.Names.{same_name-self, same_name-is, is_among}
use Rattle.pgo_syntax.specs.declared.archetype.Archetype.{Archetype}
use Rattle.pgo_syntax.specs.declared.archetype.Extent.{Extent}
use Rattle.pgo_syntax.specs.declared.archetype.Extent.TheVariants.{Whole as WholeExtent, Element}
use Rattle.pgo_syntax.specs.declared.archetype.Parameter.{Parameter}
use Rattle.pgo_syntax.specs.declared.archetype.ParameterKind.TheVariants as kinds
use Rattle.pgo_syntax.specs.declared.declaration.Declaration.{Declaration}
use Rattle.pgo_syntax.specs.declared.process.Process.{Process}
use Rattle.pgo_syntax.specs.Statement.{labeled}
use Rattle.pgo_heads.specs.Refusals.{bind_refusal}
use Rattle.pgo_syntax.specs.declared.process.Argument.{Argument}
use Rattle.pgo_syntax.specs.declared.process.Argument.TheVariants as arguments
use Rattle.pgo_syntax.specs.declared.spec.Spec.{Spec}
use Rattle.pgo_uses.specs.AllUses.{start, parameter_names, variable_names, parameter_uses, local_uses, archetype_uses}
use Rattle.pgo_uses.specs.StatementUses.{at_place, uses_of_block}
use Rattle.pgo_uses.specs.declared.uses.Around.{Around}
use Rattle.pgo_uses.specs.declared.uses.Form.TheVariants as forms
use Rattle.pgo_uses.specs.declared.uses.Home.TheVariants as homes
use Rattle.pgo_uses.specs.declared.uses.Shape.{Shape}
use Rattle.pgo_uses.specs.declared.uses.Shape.TheVariants.{Bare, OneIndex, Further}
use Rattle.pgo_uses.specs.declared.uses.Use.{Use}
use Rattle.pgo_scope.specs.Findings.{found_where}
use Rattle.pgo_scope.specs.Mapped.{some_process, mapped_kind, mapped_among, mapped_of, mapped_in, wrong_read, wrong_write, mapped_read, mapped_write, mapped_use_of}
use Rattle.pgo_scope.specs.Underscores.{has_double}
use Rattle.pgo_scope.specs.Usage.{macro_table}
use Rattle.pgo_scope.specs.declared.errors.ScopeError.TheVariants as errors
use Rattle.pgo_scope.specs.declared.mapped.Mapped.{Mapped as Kind}
use Rattle.pgo_scope.specs.declared.mapped.Mapped.TheVariants.{ByElement}
use Rattle.pgo_bound.specs.Among.{IsAmong, among_left, among_append, from_map, from_filter_map}
use Rattle.pgo_bound.specs.Runs.{Handed, handed_from, archetype_named}
use Rattle.pgo_bound.specs.State.{names_with, value_name}
use Rattle.pgo_accept.proofs.Heads.{nothing_if}
use Rattle.pgo_accept.proofs.Variables.{handed_value}
use Rattle.pgo_accept.proofs.Fitting.{ArgumentsFit}
use Rattle.pgo_sections.specs.Access.{Mapped}
use Rattle.pgo_sections.specs.Code.{Place}
use Rattle.pgo_sections.specs.WellFormed.{NotMade}
use Rattle.pgo_meaning.specs.Parameters.{by_element, all_mapped, places_of}
use Rattle.pgo_meaning.proofs.Trees.{among_front}
use Rattle.pgo_agrees.specs.Accepted.{IsOfText}
use Rattle.pgo_agrees.proofs.Closed.{apart}
use Rattle.pgo_agrees.proofs.Env.{C, D, Inside, InStatements, NamedFacts, named_facts}
use Rattle.pgo_agrees.proofs.FromUses.{IsAt, member_split}
use Rattle.pgo_agrees.proofs.Further.{names_written}
use Rattle.pgo_agrees.proofs.Hoist.{never}
use Rattle.pgo_agrees.proofs.Kept.{NoFindings}
use Rattle.pgo_agrees.proofs.MappedPlaces.{mapped_from, element_kind, parameter_or_mapped, local_placed}
use Rattle.pgo_agrees.proofs.Meanings.{common_apart, common_single}
use Rattle.pgo_agrees.proofs.Names.{or_right, single}
use Rattle.pgo_agrees.proofs.Places.{PlaceFrom, is_own, is_whole, hands, binds, place_from, found_there}
use Rattle.pgo_agrees.proofs.Uses.{FineUse}
use Rattle.pgo_agrees.proofs.Variables.{parameter_fine, local_fine}

-- ---- lists of names

member_end : (x y : Name) (xs : List Name) → x ≡ y → is_among x (xs ++ y ∷ []) ≡ true
member_end x y [] e = ap (λ b. b || false) (ap (same_name x) (sym e) ∙ same_name-self x)
member_end x y (z ∷ xs) e = go (same_name x z) (member_end x y xs e)
  where
    go : (b : Bool) → is_among x (xs ++ y ∷ []) ≡ true → (b || is_among x (xs ++ y ∷ [])) ≡ true
    go true h = refl
    go false h = h

parameter_of : (x : Name) (ps : List Parameter) → is_among x (parameter_names ps) ≡ true → (q : Parameter) × IsAmong q ps × (x ≡ q.name.name)
parameter_of x [] h = never h
parameter_of x (p ∷ ps) h = go (same_name x p.name.name) refl h (parameter_of x ps)
  where
    go : (b : Bool) → same_name x p.name.name ≡ b → (b || is_among x (parameter_names ps)) ≡ true → (is_among x (parameter_names ps) ≡ true → (q : Parameter) × IsAmong q ps × (x ≡ q.name.name)) → (q : Parameter) × IsAmong q (p ∷ ps) × (x ≡ q.name.name)
    go true e k more = (p, inl refl, same_name-is x p.name.name e)
    go false e k more = let r = more k in (r.0, inr r.1, r.2)

local_of : (x : Name) (ds : List Declaration) → is_among x (variable_names ds) ≡ true → (d : Declaration) × IsAmong d ds × (x ≡ d.name.name)
local_of x [] h = never h
local_of x (d ∷ ds) h = go (same_name x d.name.name) refl h (local_of x ds)
  where
    go : (b : Bool) → same_name x d.name.name ≡ b → (b || is_among x (variable_names ds)) ≡ true → (is_among x (variable_names ds) ≡ true → (e : Declaration) × IsAmong e ds × (x ≡ e.name.name)) → (e : Declaration) × IsAmong e (d ∷ ds) × (x ≡ e.name.name)
    go true e k more = (d, inl refl, same_name-is x d.name.name e)
    go false e k more = let r = more k in (r.0, inr r.1, r.2)

handed_of : (n : ℕ) (ps : List Parameter) (es : List Argument) (h : Handed) → IsAmong h (handed_from n ps es) → IsAmong h.parameter ps
handed_of n [] es h a = absurd a
handed_of n (p ∷ ps) [] h a = absurd a
handed_of n (p ∷ ps) (x ∷ es) h (inl e) = inl (ap (λ (h : Handed). h.parameter) e)
handed_of n (p ∷ ps) (x ∷ es) h (inr a) = inr (handed_of (suc n) ps es h a)

module _ (s : Spec) (k : NoFindings s) (fit : AllByRecursion (ArgumentsFit s.archetypes) s.processes) (of_text : IsOfText s) where
  -- ---- parameters differ

  fresh_later : (ns : List Name) (a : Around) (ps : List Parameter) → ((u : Use) → IsAmong u (parameter_uses ns a ps) → FineUse s u) → (q : Parameter) → IsAmong q ps → (y : Name) → is_among y ns ≡ true → same_name q.name.name y ≡ false
  fresh_later ns a [] f q h y m = absurd h
  fresh_later ns a (p ∷ ps) f q (inl e) y m = go (same_name q.name.name y) refl
    where
      facts : NamedFacts s k fit of_text (record { name = p.name.name; form = forms.Named; inner = is_among p.name.name ns; around = at_place p.name.place a })
      facts = named_facts s k fit of_text (record { name = p.name.name; form = forms.Named; inner = is_among p.name.name ns; around = at_place p.name.place a }) (f (record { name = p.name.name; form = forms.Named; inner = is_among p.name.name ns; around = at_place p.name.place a }) (inl refl)) refl

      go : (b : Bool) → same_name q.name.name y ≡ b → same_name q.name.name y ≡ false
      go false g = g
      go true g =
          let same : p.name.name ≡ y = sym (ap (λ (z : Parameter). z.name.name) e) ∙ same_name-is q.name.name y g in
          absurd (let z : true ≡ false = sym m ∙ ap (λ w. is_among w ns) (sym same) ∙ facts.fresh in cc)
  fresh_later ns a (p ∷ ps) f q (inr h) y m = fresh_later (ns ++ p.name.name ∷ []) a ps (λ u b. f u (inr b)) q h y (among_front y ns (p.name.name ∷ []) m)

  kind_of_parameter : (r : Name) (procs : List Process) (n : ℕ) (ns : List Name) (a : Around) (ps : List Parameter) → ((u : Use) → IsAmong u (parameter_uses ns a ps) → FineUse s u) → (q : Parameter) → IsAmong q ps → q.kind ≡ kinds.Ref Element → mapped_among r procs n ps q.name.name ≡ ByElement
  kind_of_parameter r procs n ns a [] f q h e = absurd h
  kind_of_parameter r procs n ns a (p ∷ ps) f q (inl g) e =
      ap (λ b. if b then mapped_kind (some_process r n procs) p.kind else mapped_among r procs (suc n) ps q.name.name) (ap (λ (z : Parameter). same_name z.name.name p.name.name) g ∙ same_name-self p.name.name)
      ∙ ap (mapped_kind (some_process r n procs)) (sym (ap (λ (z : Parameter). z.kind) g) ∙ e)
  kind_of_parameter r procs n ns a (p ∷ ps) f q (inr h) e =
      ap (λ b. if b then mapped_kind (some_process r n procs) p.kind else mapped_among r procs (suc n) ps q.name.name) (fresh_later (ns ++ p.name.name ∷ []) a ps (λ u b. f u (inr b)) q h p.name.name (member_end p.name.name p.name.name ns refl))
      ∙ kind_of_parameter r procs (suc n) (ns ++ p.name.name ∷ []) a ps (λ u b. f u (inr b)) q h e

  module _ (consts : List (Name × Data)) (none : bind_refusal s consts ≡ None) (p : Process) (a : Archetype) (among : IsAmong p s.processes) (named : archetype_named p.archetype.name s.archetypes ≡ Some a) (declared : IsAmong a s.archetypes) (len : length a.params ≡ length p.arguments) (j : ℕ) (at_j : slice_get s.archetypes j ≡ Some a) (there : (u : Use) → IsAmong u (archetype_uses j a) → FineUse s u) where
    abbrev pub names : List Name
    names = parameter_names a.params ++ variable_names a.locals

    abbrev pub at' : Around
    at' = start (homes.Body j) a.name.place

    abbrev pub places : List (Name × Place)
    places = places_of p.name.name a (binds s p a)

    -- what names of parameters and locals are
    pub record Mine (x : Name) : Type 0 where
      pub use' : Use
      pub fine : FineUse s use'
      pub name : use'.name ≡ x
      pub form : use'.form ≡ forms.Named
      pub number : ℕ
      pub home : use'.around.home ≡ homes.Body number

    mine_parameter : (q : Parameter) → IsAmong q a.params → Mine q.name.name
    mine_parameter q h =
        let u = parameter_fine s k a declared q h in
        record { use' = u.0; fine = u.1; name = u.2; form = u.3; number = u.4.0; home = u.4.1 }

    mine_local : (d : Declaration) → IsAmong d a.locals → Mine d.name.name
    mine_local d h =
        let u = local_fine s k a declared d h in
        record { use' = u.0; fine = u.1; name = u.2; form = u.3; number = u.4.0; home = u.4.1 }

    pub mine : (x : Name) → is_among x names ≡ true → Mine x
    mine x h = go (member_split x (parameter_names a.params) (variable_names a.locals) h)
      where
        go : (is_among x (parameter_names a.params) ≡ true) ⊎ (is_among x (variable_names a.locals) ≡ true) → Mine x
        go (inl e) = let q = parameter_of x a.params e in subst Mine (sym q.2) (mine_parameter q.0 q.1)
        go (inr e) = let d = local_of x a.locals e in subst Mine (sym d.2) (mine_local d.0 d.1)

    pub mine_single : (x : Name) → Mine x → NotMade x
    mine_single x m = single x (ap has_double (sym m.name) ∙ m.fine.double)

    mine_declared : (x : Name) → Mine x → D s k fit of_text x
    mine_declared x m = subst (D s k fit of_text) m.name (named_facts s k fit of_text m.use' m.fine m.form).declared

    -- ---- a parameter or a local has a place, or is mapped
    place_or_mapped : (x : Name) → is_among x names ≡ true → ((z : Place) × (find x places ≡ Some z)) ⊎ ((m : Mapped) × (find x (all_mapped (binds s p a)) ≡ Some m))
    place_or_mapped x h = go (member_split x (parameter_names a.params) (variable_names a.locals) h)
      where
        go : (is_among x (parameter_names a.params) ≡ true) ⊎ (is_among x (variable_names a.locals) ≡ true) → ((z : Place) × (find x places ≡ Some z)) ⊎ ((m : Mapped) × (find x (all_mapped (binds s p a)) ≡ Some m))
        go (inl e) =
            let q = parameter_of x a.params e in
            subst (λ y. ((z : Place) × (find y places ≡ Some z)) ⊎ ((m : Mapped) × (find y (all_mapped (binds s p a)) ≡ Some m))) (sym q.2) (parameter_or_mapped s p a q.0 len q.1)
        go (inr e) =
            let d = local_of x a.locals e in
            subst (λ y. ((z : Place) × (find y places ≡ Some z)) ⊎ ((m : Mapped) × (find y (all_mapped (binds s p a)) ≡ Some m))) (sym d.2) (inl (local_placed s p a d.0 d.1))

    -- what has a place is a parameter or a local
    placed_mine : (x : Name) (z : Place) → find x places ≡ Some z → Mine x
    placed_mine x z h = go (place_from s p a (x, z) (found_there x z places h))
      where
        own : (y : Name) → IsAmong y (names_with p a) → Mine y
        own y b = by (among_append y (filter_map handed_value (hands s p a)) (map (λ (d : Declaration). d.name.name) a.locals) b)
          where
            valued : (h : Handed) → handed_value h ≡ Some y → h.parameter.name.name ≡ y
            valued h e = go h.argument e
              where
                go : (x : Argument) → value_name h.parameter.name.name x ≡ Some y → h.parameter.name.name ≡ y
                go (arguments.Value q t) f = let r : h.parameter.name.name ≡ y = cc in r
                go (arguments.Ref g t) f = absurd (cc)

            by : IsAmong y (filter_map handed_value (hands s p a)) ⊎ IsAmong y (map (λ (d : Declaration). d.name.name) a.locals) → Mine y
            by (inl b) =
                let m = from_filter_map handed_value y (hands s p a) b in
                subst Mine (valued m.0 m.2) (mine_parameter m.0.parameter (handed_of 1 a.params p.arguments m.0 m.1))
            by (inr b) = let m = from_map (λ (d : Declaration). d.name.name) y a.locals b in subst Mine (sym m.2) (mine_local m.0 m.1)

        go : PlaceFrom s p.clauses p.name.name (hands s p a) (names_with p a) (x, z) → Mine x
        go (is_own y e b) = subst Mine (sym (ap (λ (q : Name × Place). q.0) e)) (own y b)
        go (is_whole h g e b c n f) =
            subst Mine (sym (ap (λ (q : Name × Place). q.0) f)) (mine_parameter h.parameter (handed_of 1 a.params p.arguments h b))

    pub applied_no_place : (x : Name) → C s k fit of_text x → find x places ≡ None
    applied_no_place x c = go (find x places) refl
      where
        go : (o : Option Place) → find x places ≡ o → find x places ≡ None
        go None e = e
        go (Some z) e =
            absurd (let d = mine_declared x (placed_mine x z e) in let q : true ≡ false = sym (same_name-self x) ∙ d.1 x c in cc)

    -- ---- kinds of mapped parameters
    abbrev pub kind : Name → Kind
    kind x = mapped_in s (homes.Body j) x

    pub element_is : (x : Name) (m : Mapped) → find x (all_mapped (binds s p a)) ≡ Some m → m.by_element ≡ true → kind x ≡ ByElement
    element_is x m h e =
        let f = mapped_from s p.clauses (hands s p a) x m h in
        let g : by_element f.extent ≡ true = ap (λ (z : Mapped). z.by_element) (sym f.is) ∙ e in
        let t = extent f.extent g in
        let q = element_kind s consts none p a among named f.handed f.global f.among (f.argument ∙ ap (arguments.Ref f.global) t) in
        let r = kind_of_parameter a.name.name s.processes 0 [] at' a.params (λ u b. there u (among_left u (parameter_uses [] at' a.params ++ local_uses j (parameter_names a.params) at' a.locals) (uses_of_block names at' (labeled a.body)) (among_left u (parameter_uses [] at' a.params) (local_uses j (parameter_names a.params) at' a.locals) b))) f.handed.parameter (handed_of 1 a.params p.arguments f.handed f.among) q in
        ap (λ o. mapped_of s.processes o x) at_j ∙ ap (mapped_among a.name.name s.processes 0 a.params) (sym f.named) ∙ r
      where
        extent : (t : Extent) → by_element t ≡ true → t ≡ Element
        extent WholeExtent h = never h
        extent Element h = refl

    -- ---- what is asked of names where the archetype runs
    abbrev pub Hoisted' : Bool → Name → Type 0
    Hoisted' i x = (m : Mapped) × (find x (all_mapped (binds s p a)) ≡ Some m) × (m.by_element ≡ true → i ≡ true)

    abbrev pub RunName : List Name → Bool → Bool → Name → Type 0
    RunName ns h i x =
        NotMade x × ((is_among x ns ≡ true) ⊎ (((z : Place) × (find x places ≡ Some z)) ⊎ ((is_among x (names_written s) ≡ false) ⊎ Hoisted' i x)))

    abbrev pub RunAssigned : List Name → Shape → Name → Type 0
    RunAssigned ns h x = NotMade x × (kind x ≡ ByElement → h ≡ OneIndex)

    -- how it may be read where it stands
    abbrev pub MayRead : Bool → Bool → Name → Type 0
    MayRead h i x = kind x ≡ ByElement → i ≡ true

    pub may_read : (a : Around) (x : Name) → wrong_read a (kind x) ≡ false → MayRead a.hidden a.indexed x
    may_read a x h e = not-false a.indexed (or_right a.hidden (not a.indexed) (ap (wrong_read a) (sym e) ∙ h))

    pub may_write : (h : Shape) (x : Name) → wrong_write h (kind x) ≡ false → kind x ≡ ByElement → h ≡ OneIndex
    may_write h x g e = go h (ap (wrong_write h) (sym e) ∙ g)
      where
        go : (h : Shape) → wrong_write h ByElement ≡ false → h ≡ OneIndex
        go Bare f = absurd (cc)
        go OneIndex f = refl
        go Further f = absurd (cc)

    pub run_name : (ns : List Name) (h i : Bool) (x : Name) → Inside s k fit of_text names ns x → MayRead h i x → RunName ns h i x
    run_name ns h i x (inl (inl e)) f = (single x e.1.0, inl e.0)
    run_name ns h i x (inl (inr e)) f = (mine_single x (mine x e), by (place_or_mapped x e))
      where
        by : ((z : Place) × (find x places ≡ Some z)) ⊎ ((m : Mapped) × (find x (all_mapped (binds s p a)) ≡ Some m)) → (is_among x ns ≡ true) ⊎ (((z : Place) × (find x places ≡ Some z)) ⊎ ((is_among x (names_written s) ≡ false) ⊎ Hoisted' i x))
        by (inl z) = inr (inl z)
        by (inr m) = inr (inr (inr (m.0, m.1, λ g. f (element_is x m.0 m.1 g))))
    run_name ns h i x (inr c) f =
        (common_single s k fit of_text x c, inr (inr (inl (apart s k fit of_text x (common_apart s k fit of_text x c)))))

    pub statements : InStatements s k fit of_text (homes.Body j)
    statements x = refl

    -- a use that is read
    pub read_fine : (u : Use) → u.around.home ≡ homes.Body j → mapped_read s u ≡ [] → MayRead u.around.hidden u.around.indexed u.name
    read_fine u h f =
        may_read u.around u.name (ap (λ z. wrong_read u.around (mapped_in s z u.name)) (sym h) ∙ nothing_if (wrong_read u.around (mapped_in s u.around.home u.name)) u.around.place (errors.MappedReadHere u.name) f)

    pub alone_read : (u : Use) → FineUse s u → IsAt (homes.Body j) false u.around → u.form ≡ forms.Alone → MayRead u.around.hidden u.around.indexed u.name
    alone_read u f w e =
        let g = subst (λ z. mapped_use_of s (macro_table s.macros) u z ≡ []) e f.mapped in
        read_fine u w.0 (ap (λ b. found_where (not b) (mapped_read s u)) (sym w.1) ∙ g)

    pub written_fine : (a : Around) (x : Name) (h : Shape) → a.home ≡ homes.Body j → mapped_write s a x h ≡ [] → kind x ≡ ByElement → h ≡ OneIndex
    written_fine a x h e f =
        may_write h x (ap (λ z. wrong_write h (mapped_in s z x)) (sym e) ∙ nothing_if (wrong_write h (mapped_in s a.home x)) a.place (errors.MappedReadHere x) f)

    pub assigned_fine : (ns : List Name) (u : Use) (h : Shape) → FineUse s u → IsAt (homes.Body j) false u.around → u.form ≡ forms.Assigned h → RunAssigned ns h u.name
    assigned_fine ns u h f w e = (single u.name f.double, written_fine u.around u.name h w.0 (subst (λ z. mapped_use_of s (macro_table s.macros) u z ≡ []) e f.mapped))
