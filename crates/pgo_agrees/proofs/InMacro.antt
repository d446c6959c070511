-- Each macro's body, with the macros before it in place, has names that stand as in a macro; by the order of the macros.
use Rattle.std.proofs.Common.{◌≡◌, ◌<◌, ℕ, zero, suc, ◌+◌, Bool, true, false, ◌||◌, not, ◌&&◌, if◌then◌else◌, List, [], ◌∷◌, ◌++◌, map, length, Some, None, refl, ap, sym, ◌∙◌, subst, inl, inr, arith}
use Rattle.std.proofs.lemmas.Bool.{not-false}
use Rattle.std.specs.Prelude.{◌⊎◌, slice_get}
use Rattle.std.specs.List.{AllByRecursion}
use Rattle.std.proofs.lemmas.Option.{same_Some}
use Rattle.pgo_base.proofs.LastPlaces.{last_at}
use Rattle.pgo_base.specs.Lookup.{Name, same_name, find}
use Rattle.pgo_base.specs.Tree.{Tree}
use Rattle.pgo_model.specs.Names.{same_name-self, same_name-is, is_among}
use Rattle.pgo_syntax.specs.Statement.{block, labeled}
use Rattle.pgo_syntax.specs.declared.macros.Macro.{Macro}
use Rattle.pgo_syntax.specs.declared.name.PlacedName.{PlacedName}
use Rattle.pgo_syntax.specs.declared.spec.Spec.{Spec}
use Rattle.pgo_uses.specs.AllUses.{names_of, heads, start, macro_uses}
use Rattle.pgo_uses.specs.Names.{first_at}
use Rattle.pgo_uses.specs.StatementUses.{at_place, as_passed, argument_uses, uses_of_block}
use Rattle.pgo_uses.specs.Tables.{macro_rows, tables_of}
use Rattle.pgo_uses.specs.Uses.{inside, uses}
use Rattle.pgo_uses.specs.declared.uses.Around.{Around}
use Rattle.pgo_uses.specs.declared.uses.Form.TheVariants as forms
use Rattle.pgo_uses.specs.declared.uses.Home.TheVariants as homes
use Rattle.pgo_uses.specs.declared.uses.Shape.{Shape}
use Rattle.pgo_uses.specs.declared.uses.Use.{Use}
use Rattle.pgo_scope.specs.Assigned.{parameter_in, may_assign, assigned_arguments, assigned_of}
use Rattle.pgo_scope.specs.Unknown.{may_call, knows_self}
use Rattle.pgo_scope.specs.Usage.{MacroTable, join, left_shape, left_uses, read_usage, write_usage, usage_if, no_usage, passed_usage, call_usage, usage_by, usage_in, macro_table_from, macro_table, each_parameter}
use Rattle.pgo_scope.specs.declared.errors.ScopeError.TheVariants as errors
use Rattle.pgo_scope.specs.declared.usage.Usage.{Usage}
use Rattle.pgo_bound.specs.Among.{IsAmong, among_left, among_right, all_at}
use Rattle.pgo_bound.specs.Sound.{labels_among}
use Rattle.pgo_bound.specs.Different as different
use Rattle.pgo_accept.proofs.Heads.{nothing_if}
use Rattle.pgo_accept.proofs.Fitting.{ArgumentsFit}
use Rattle.pgo_meaning.specs.LabelSections.{AreUnlabelled}
use Rattle.pgo_meaning.specs.MacrosPlaced.{marked as marked', Body, Bodies, placed, bodies_with, bodies}
use Rattle.pgo_agrees.specs.Accepted.{IsOfText, MacroOfText, MacroParameterOfText}
use Rattle.pgo_agrees.specs.Spoken.{ArgumentsSpoken}
use Rattle.pgo_agrees.proofs.Arguments.{Joins, Given}
use Rattle.pgo_agrees.proofs.Calls.{rows, each_rows, InPairs, assigned_at, Among, among_trans, read_way_is, write_way_is, use_among, read_among, passed_read, passed_write, base_among, path_among, call_among}
use Rattle.pgo_agrees.proofs.Env.{C, B, Common, D, Known', Inside, InStatements, named_facts, named_uncommon, applicable_no_bang, bytes_no_bang, UnitRules, tells_all}
use Rattle.pgo_agrees.proofs.Fine.{Fine}
use Rattle.pgo_agrees.proofs.FineUses.{Within, labeled_fine}
use Rattle.pgo_agrees.proofs.FromUses.{Known, IsAt}
use Rattle.pgo_agrees.proofs.GoodCode.{less_or_same}
use Rattle.pgo_agrees.proofs.Hoist.{never}
use Rattle.pgo_agrees.proofs.Kept.{NoFindings}
use Rattle.pgo_agrees.proofs.MacroCalls.{MacroOk, all_names, called_known, parameters_are, call_ok, assigned_base}
use Rattle.pgo_agrees.proofs.MacroNames.{FirstMacro, first_macro, one_macro, earlier_first}
use Rattle.pgo_agrees.proofs.Names.{identifier_bytes}
use Rattle.pgo_agrees.proofs.Placing.{reads_so, writes_so, has_bang, marked_bang, marked_single, bang_apart, MacroName, MacroAssigned, MacroWith, Target, CallOk, fine_placed}
use Rattle.pgo_agrees.proofs.Stands.{or_second}
use Rattle.pgo_agrees.proofs.Uses.{FineUse, fine_use, of_macro_at}

-- ---- names of parameters

bang_not_member : (x : Name) (qs : List Name) → has_bang x ≡ true → AllByRecursion (λ q. has_bang q ≡ false) qs → is_among x qs ≡ false
bang_not_member x [] h a = refl
bang_not_member x (q ∷ qs) h a = ap (λ b. b || is_among x qs) (bang q h a.0) ∙ bang_not_member x qs h a.1
  where
    bang : (q : Name) → has_bang x ≡ true → has_bang q ≡ false → same_name x q ≡ false
    bang q h g = go (same_name x q) refl
      where
        go : (b : Bool) → same_name x q ≡ b → same_name x q ≡ false
        go false e = e
        go true e = absurd (let z : true ≡ false = sym h ∙ ap has_bang (same_name-is x q e) ∙ g in cc)

prefix_get : {A : Type 0} (xs ys : List A) (j : ℕ) (x : A) → slice_get xs j ≡ Some x → slice_get (xs ++ ys) j ≡ Some x
prefix_get [] ys j x h = absurd (cc)
prefix_get (z ∷ xs) ys zero x h = h
prefix_get (z ∷ xs) ys (suc j) x h = prefix_get xs ys j x h

last_length : {A : Type 0} (xs : List A) (x : A) → length (xs ++ x ∷ []) ≡ suc (length xs)
last_length [] x = refl
last_length (z ∷ xs) x = ap suc (last_length xs x)

later_get : (ms : List Macro) (known : MacroTable) (i j : ℕ) (r : List (Name × Usage)) → slice_get known.1 j ≡ Some r → slice_get (macro_table_from known i ms).1 j ≡ Some r
later_get [] known i j r h = h
later_get (m ∷ ms) known i j r h =
    later_get ms (known.0, known.1 ++ each_parameter known (macro_uses i m) (names_of m.params) ∷ []) (suc i) j r (prefix_get known.1 (each_parameter known (macro_uses i m) (names_of m.params) ∷ []) j r h)

names_map : (ps : List PlacedName) → map (λ (p : PlacedName). p.name) ps ≡ names_of ps
names_map [] = refl
names_map (p ∷ ps) = ap (λ ns. p.name ∷ ns) (names_map ps)

less_or_more : (j i : ℕ) → (j < i) ⊎ ((n : ℕ) × (j ≡ i + n))
less_or_more j zero = inr (j, omega arith)
less_or_more zero (suc i) = inl (omega arith)
less_or_more (suc j) (suc i) = go (less_or_more j i)
  where
    go : (j < i) ⊎ ((n : ℕ) × (j ≡ i + n)) → (suc j < suc i) ⊎ ((n : ℕ) × (suc j ≡ suc i + n))
    go (inl l) = inl (omega (arith, l))
    go (inr e) = inr (e.0, let q = e.1 in omega (arith, q))

module _ (s : Spec) (k : NoFindings s) (fit : AllByRecursion (ArgumentsFit s.archetypes) s.processes) (of_text : IsOfText s) (unlabelled : AreUnlabelled s.macros) where
  -- ---- one macro, where those before it are known
  module _ (m : Macro) (m_among : IsAmong m s.macros) (i : ℕ) (at_i : slice_get s.macros i ≡ Some m) (there : (u : Use) → IsAmong u (macro_uses i m) → FineUse s u) (none : labels_among (labeled m.body) ≡ []) (known : List (List (Name × Usage))) (bs : Bodies) (before : (x : Name) (j : ℕ) → first_at x (macro_rows s.macros) ≡ Some j → j < i → (o : MacroOk s k fit of_text bs x j) × (slice_get known j ≡ Some (rows o.usage (names_of o.macro.it.params)))) where
    abbrev pub qs : List Name
    qs = names_of m.params

    abbrev pub us : List Use
    us = macro_uses i m

    abbrev pub K : MacroTable
    K = (macro_rows s.macros, known)

    abbrev pub w : Name → Usage
    w x = usage_in K x us

    abbrev N : List Name → Bool → Bool → Name → Type 0
    N = MacroName (C s k fit of_text) (B s k fit of_text) (Common s k fit of_text) qs w

    abbrev A : List Name → Shape → Name → Type 0
    A = MacroAssigned (C s k fit of_text) (B s k fit of_text) (Common s k fit of_text) qs w

    abbrev W : Name → Type 0
    W = MacroWith (C s k fit of_text) (B s k fit of_text) (Common s k fit of_text) qs

    text : MacroOfText m
    text = all_at MacroOfText m s.macros of_text.macros m_among

    no_bangs : AllByRecursion (λ q. has_bang q ≡ false) qs
    no_bangs = go m.params text.0
      where
        go : (ps : List PlacedName) → AllByRecursion MacroParameterOfText ps → AllByRecursion (λ q. has_bang q ≡ false) (names_of ps)
        go [] h = tt
        go (p ∷ ps) h = (bytes_no_bang p.name (identifier_bytes p.name h.0), go ps h.1)

    target : Target (C s k fit of_text) (B s k fit of_text) (Common s k fit of_text) N W A ⊥
    target = record {
      more_names = more;
      more_assigned = λ z x ns h g. g;
      marked_names = λ x ns h i d e. inl (e, marked x d);
      marked_with = λ x d. (marked x d, bang_not_member (marked' x) qs (marked_bang x) no_bangs);
      common = λ x ns h i c. inr (inr c);
    }
      where
        more : (z x : Name) (ns : List Name) (h i : Bool) → N ns h i x → N (z ∷ ns) h i x
        more z x ns h i (inl e) = inl (or_second (same_name x z) (is_among x ns) e.0, e.1)
        more z x ns h i (inr e) = inr e

        marked : (x : Name) → D s k fit of_text x → D s k fit of_text (marked' x)
        marked x d = (marked_single x d.0, λ y c. bang_apart (marked' x) y (marked_bang x) (applicable_no_bang s k fit of_text y c))

    -- how a name may be read where it stands
    abbrev J : Bool → Bool → Name → Type 0
    J h i x = is_among x qs ≡ true → reads_so (w x) h i ≡ true

    abbrev R : Use → Type 0
    R v = v.form ≡ forms.Alone → is_among v.name qs ≡ true → reads_so (w v.name) v.around.hidden v.around.indexed ≡ true

    name_here : (ns : List Name) (h i : Bool) (x : Name) → Inside s k fit of_text qs ns x → J h i x → N ns h i x
    name_here ns h i x (inl (inl e)) f = inl e
    name_here ns h i x (inl (inr e)) f = inr (inl (e, f e))
    name_here ns h i x (inr c) f = inr (inr c)

    joins : Joins N (C s k fit of_text) (B s k fit of_text) W A ⊥ (Common s k fit of_text) (Inside s k fit of_text qs) R J (homes.Macro i) false
    joins = record { names = name_here; reads = λ u r g e. r e }

    statements : InStatements s k fit of_text (homes.Macro i)
    statements x = refl

    abbrev P : Use → Type 0
    P u = FineUse s u × IsAmong u us

    own_read : (u : Use) → P u → IsAt (homes.Macro i) false u.around → u.form ≡ forms.Alone → J u.around.hidden u.around.indexed u.name
    own_read u p g e mem =
        (use_among K u.name us u p.1).reads u.around.hidden u.around.indexed
        (ap (λ f. reads_so (usage_by K u.name u f) u.around.hidden u.around.indexed) e
        ∙ ap (λ b. reads_so (usage_if (not b && same_name u.name u.name) (read_usage u.around.hidden u.around.indexed)) u.around.hidden u.around.indexed) g.1
        ∙ ap (λ b. reads_so (usage_if b (read_usage u.around.hidden u.around.indexed)) u.around.hidden u.around.indexed) (same_name-self u.name)
        ∙ read_way_is u.around.hidden u.around.indexed)

    may_be : (x : Name) → may_assign s (homes.Macro i) x ≡ true → is_among x qs ≡ true
    may_be x h = ap (λ o. parameter_in o x) (sym at_i) ∙ h

    own_assigned : (ns : List Name) (u : Use) (h : Shape) → P u → IsAt (homes.Macro i) false u.around → u.form ≡ forms.Assigned h → A ns h u.name
    own_assigned ns u h p g e = (
      may_be u.name (ap (λ z. may_assign s z u.name) (sym g.0) ∙ not-false (may_assign s u.around.home u.name) (nothing_if (not (may_assign s u.around.home u.name)) u.around.place (errors.AssignedNotRef u.name) (subst (λ f. assigned_of s (macro_table s.macros) u f ≡ []) e p.0.assigned))),
      (use_among K u.name us u p.1).writes h
          (ap (λ f. writes_so (usage_by K u.name u f) h) e ∙ ap (λ b. writes_so (usage_if b (write_usage h)) h) (same_name-self u.name) ∙ write_way_is h),
    )

    -- ---- a call in the body
    module _ (u : Use) (ts : List Tree) (p : P u) (form : u.form ≡ forms.Called ts) (home : u.around.home ≡ homes.Macro i) (j : ℕ) (first : first_at u.name (macro_rows s.macros) ≡ Some j) (o : MacroOk s k fit of_text bs u.name j) (row : slice_get known j ≡ Some (rows o.usage (names_of o.macro.it.params))) where
      passed : (x y : Name) (t : Tree) → InPairs (x, o.usage x) t (rows o.usage (names_of o.macro.it.params)) ts → Among (passed_usage (o.usage x) u.around y t) (w y)
      passed x y t h =
          among_trans (passed_usage (o.usage x) u.around y t) (usage_by K y u u.form) (w y) (subst (λ f. Among (passed_usage (o.usage x) u.around y t) (usage_by K y u f)) (sym form) (subst (λ qs. Among (passed_usage (o.usage x) u.around y t) (call_usage qs u.around y ts)) (sym (parameters_are s k fit of_text K u.name j o.usage (names_of o.macro.it.params) refl first row)) (call_among no_usage (x, o.usage x) t (rows o.usage (names_of o.macro.it.params)) u.around y ts h))) (use_among K y us u p.1)

      given : (ns : List Name) (x : Name) (t : Tree) → InPairs (x, o.usage x) t (rows o.usage (names_of o.macro.it.params)) ts → Given N (C s k fit of_text) (B s k fit of_text) W A ⊥ (Common s k fit of_text) (Inside s k fit of_text qs) R J (homes.Macro i) false joins ns u.around (o.usage x) t
      given ns x t h = record {
        reads = λ a b e. different.all_from R (uses [] (record u.around { hidden = a; indexed = b }) t) (λ v c f g. (passed x v.name t h).reads v.around.hidden v.around.indexed ((passed_read (o.usage x) u.around v.name t a b e).reads v.around.hidden v.around.indexed (read_among (uses [] (record u.around { hidden = a; indexed = b }) t) v c f)));
        writes = λ a e.
            (let full = parameters_are s k fit of_text (macro_table s.macros) u.name j o.usage (names_of o.macro.it.params) (all_names s k fit of_text) first o.known in
            let none = subst (λ f. assigned_of s (macro_table s.macros) u f ≡ []) form p.0.assigned in
            let found = assigned_at s u (x, o.usage x) t (rows o.usage (names_of o.macro.it.params)) ts h (subst (λ qs. assigned_arguments s u qs ts ≡ []) full none) in
            let b = assigned_base s k fit of_text u x (o.usage x) t a e found in
            (b.0, b.1, (may_be b.0 (ap (λ z. may_assign s z b.0) (sym home) ∙ b.2), (passed x b.0 t h).writes (join (left_shape t) a) ((passed_write (o.usage x) u.around b.0 t a e).writes (join (left_shape t) a) (base_among a u.around b.0 t b.1))), different.all_from R (left_uses [] (inside u.around) t) (λ v c f g. (passed x v.name t h).reads v.around.hidden v.around.indexed ((passed_write (o.usage x) u.around v.name t a e).reads v.around.hidden v.around.indexed ((path_among a u.around v.name t).reads v.around.hidden v.around.indexed (read_among (left_uses [] (inside u.around) t) v c f))))));
      }

    called : (ns ms : List Name) (a : Around) (c : PlacedName) (ts : List Tree) → P (record { name = c.name; form = forms.Called ts; inner = is_among c.name ms; around = at_place c.place a }) → IsAt (homes.Macro i) false a → (a.hidden ≡ false) × (a.indexed ≡ false) → Known (Known' s k fit of_text qs ns) ms [] → Within qs ms → ArgumentsSpoken ts → AllByRecursion P (argument_uses ms (as_passed (at_place c.place a)) ts)
        → CallOk (C s k fit of_text) (B s k fit of_text) (Common s k fit of_text) N W A ⊥ target bs ns c ts
    called ns ms a c ts p g f v within spoken fine =
        let u : Use = record { name = c.name; form = forms.Called ts; inner = is_among c.name ms; around = at_place c.place a } in
        let e = earlier_first i c.name (macro_rows s.macros) (subst (λ z. may_call (tables_of s) z c.name ≡ true) g.0 (called_known s k fit of_text u ts p.0 refl)) in
        let o = before c.name e.0 e.1 e.2 in
        call_ok s k fit of_text N W A (homes.Macro i) statements qs R J target joins bs ns ms a c ts e.0 o.0 p.0 g f v spoken (only (argument_uses ms (as_passed (at_place c.place a)) ts) fine) (λ x t h. given u ts p refl g.0 e.0 e.1 o.0 o.1 ns x t h)
      where
        only : (vs : List Use) → AllByRecursion P vs → AllByRecursion (FineUse s) vs
        only [] h = tt
        only (v ∷ vs) h = (h.0.0, only vs h.1)

    rules : UnitRules s k fit of_text (homes.Macro i) statements qs P N W A (CallOk (C s k fit of_text) (B s k fit of_text) (Common s k fit of_text) N W A ⊥ target bs) ⊥ J
    rules = record {
      fine = λ u p. p.0;
      reads = own_read;
      names = name_here;
      with_of = λ x d e. (d, e);
      declared = λ x d. d.0;
      assigned = λ ns u h p g e inner. own_assigned ns u h p g e;
      called = called;
    }

    pub body_fine : Fine N (C s k fit of_text) (B s k fit of_text) W A (λ ns m ts. Unit {0}) ⊥ false [] (placed bs (block 0 (labeled m.body)))
    body_fine =
        let at' = start (homes.Macro i) m.name.place in
        let hs = heads forms.Named [] at' m.params in
        let body = uses_of_block qs at' (labeled m.body) in
        fine_placed (C s k fit of_text) (B s k fit of_text) (Common s k fit of_text) N W A ⊥ target bs (block 0 (labeled m.body)) false []
        (labeled_fine P (homes.Macro i) qs N (C s k fit of_text) (B s k fit of_text) W A (CallOk (C s k fit of_text) (B s k fit of_text) (Common s k fit of_text) N W A ⊥ target bs) ⊥ (Known' s k fit of_text qs) (tells_all s k fit of_text (homes.Macro i) statements qs P N W A (CallOk (C s k fit of_text) (B s k fit of_text) (Common s k fit of_text) N W A ⊥ target bs) ⊥ J rules) (labeled m.body) false qs [] at' none (refl, refl) (refl, refl) (record { known = λ x e. inr (inr e); unit = λ x e. e }) text.1 (different.all_from P body (λ u c. (let d = among_right u hs body c in (there u d, d)))))

    head_named : (y : Name) (ns : List Name) (a : Around) (ps : List PlacedName) → is_among y (names_of ps) ≡ true → (u : Use) × IsAmong u (heads forms.Named ns a ps) × (u.name ≡ y) × (u.form ≡ forms.Named) × (u.around.home ≡ a.home)
    head_named y ns a [] h = never h
    head_named y ns a (p ∷ ps) h = go (same_name y p.name) refl h (head_named y (ns ++ p.name ∷ []) a ps)
      where
        go : (b : Bool) → same_name y p.name ≡ b → (b || is_among y (names_of ps)) ≡ true → (is_among y (names_of ps) ≡ true → (u : Use) × IsAmong u (heads forms.Named (ns ++ p.name ∷ []) a ps) × (u.name ≡ y) × (u.form ≡ forms.Named) × (u.around.home ≡ a.home))
            → (u : Use) × IsAmong u (heads forms.Named ns a (p ∷ ps)) × (u.name ≡ y) × (u.form ≡ forms.Named) × (u.around.home ≡ a.home)
        go true e g more = (record { name = p.name; form = forms.Named; inner = is_among p.name ns; around = at_place p.place a }, inl refl, sym (same_name-is y p.name e), refl, refl)
        go false e g more = let r = more g in (r.0, inr r.1, r.2, r.3, r.4)

    pub parameters_apart : (y : Name) → Common s k fit of_text y → is_among y qs ≡ false
    parameters_apart y c = go (is_among y qs) refl
      where
        go : (b : Bool) → is_among y qs ≡ b → is_among y qs ≡ false
        go false e = e
        go true e =
            let at' = start (homes.Macro i) m.name.place in
            let r = head_named y [] at' m.params e in
            let f = there r.0 (among_left r.0 (heads forms.Named [] at' m.params) (uses_of_block qs at' (labeled m.body)) r.1) in
            absurd (named_uncommon s k fit of_text r.0 (named_facts s k fit of_text r.0 f r.3) (ap knows_self r.4) (subst (Common s k fit of_text) (sym r.2) c))

  -- ---- all macros, each with those before it

  abbrev Before : Bodies → List (List (Name × Usage)) → ℕ → Type 0
  Before bs known i = (x : Name) (j : ℕ) → first_at x (macro_rows s.macros) ≡ Some j → j < i → (o : MacroOk s k fit of_text bs x j) × (slice_get known j ≡ Some (rows o.usage (names_of o.macro.it.params)))

  all_unlabelled : (m : Macro) (ms : List Macro) → AreUnlabelled ms → IsAmong m ms → labels_among (labeled m.body) ≡ []
  all_unlabelled m [] u a = absurd a
  all_unlabelled m (n ∷ ms) u (inl e) = ap (λ (z : Macro). labels_among (labeled z.body)) e ∙ u.0
  all_unlabelled m (n ∷ ms) u (inr a) = all_unlabelled m ms u.1 a

  get_among : (ms : List Macro) (n : ℕ) (m : Macro) → slice_get ms n ≡ Some m → IsAmong m ms
  get_among [] n m h = absurd (cc)
  get_among (z ∷ ms) zero m h = inl (sym (same_Some z m h))
  get_among (z ∷ ms) (suc n) m h = inr (get_among ms n m h)

  uses_there : (m : Macro) (i : ℕ) → slice_get s.macros i ≡ Some m → (u : Use) → IsAmong u (macro_uses i m) → FineUse s u
  uses_there m i h u a = fine_use s k u (of_macro_at s m i h u a)

  -- one more macro is known
  step : (m : Macro) (ms : List Macro) (i : ℕ) (bs : Bodies) (known : List (List (Name × Usage))) → slice_get s.macros i ≡ Some m → length known ≡ i → macro_table_from (macro_rows s.macros, known ++ each_parameter (macro_rows s.macros, known) (macro_uses i m) (names_of m.params) ∷ []) (suc i) ms ≡ macro_table s.macros → Before bs known i
      → Before ((m.name.name, record { parameters = map (λ (p : PlacedName). p.name) m.params; statement = placed bs (block 0 (labeled m.body)) }) ∷ bs) (known ++ each_parameter (macro_rows s.macros, known) (macro_uses i m) (names_of m.params) ∷ []) (suc i)
  step m ms i bs known at_i size full before x j first below = go (less_or_same j i below)
    where
      among : IsAmong m s.macros
      among = get_among s.macros i m at_i

      go : (j < i) ⊎ (j ≡ i) → (o : MacroOk s k fit of_text ((m.name.name, record { parameters = map (λ (p : PlacedName). p.name) m.params; statement = placed bs (block 0 (labeled m.body)) }) ∷ bs) x j) × (slice_get (known ++ each_parameter (macro_rows s.macros, known) (macro_uses i m) (names_of m.params) ∷ []) j ≡ Some (rows o.usage (names_of o.macro.it.params)))
      go (inl l) =
          let r = before x j first l in
          let o = r.0 in
          (record { macro = o.macro; usage = o.usage; known = o.known; body = o.body; found = other (same_name x m.name.name) refl o.macro o.body o.found; parameters = o.parameters; fine = o.fine; apart = o.apart }, prefix_get known (each_parameter (macro_rows s.macros, known) (macro_uses i m) (names_of m.params) ∷ []) j (rows o.usage (names_of o.macro.it.params)) r.1)
        where
          other : (b : Bool) → same_name x m.name.name ≡ b → FirstMacro s.macros x j → (y : Body) → find x bs ≡ Some y → find x ((m.name.name, record { parameters = map (λ (p : PlacedName). p.name) m.params; statement = placed bs (block 0 (labeled m.body)) }) ∷ bs) ≡ Some y
          other true e f y g =
              absurd (let z = one_macro s.macros k.macros j i f.it m f.at' at_i (f.named ∙ same_name-is x m.name.name e) in omega (arith, z, l))
          other false e f y g = ap (λ b. if b then Some (record { parameters = map (λ (p : PlacedName). p.name) m.params; statement = placed bs (block 0 (labeled m.body)) }) else find x bs) e ∙ g
      go (inr e) =
          let f = first_macro s.macros x j first in
          let same : f.it ≡ m = same_Some f.it m (sym f.at' ∙ ap (slice_get s.macros) e ∙ at_i) in
          let none = all_unlabelled m s.macros unlabelled among in
          let usage = w m among i at_i (uses_there m i at_i) none known bs before in
          let here : slice_get (known ++ each_parameter (macro_rows s.macros, known) (macro_uses i m) (names_of m.params) ∷ []) j ≡ Some (rows usage (names_of m.params)) =
          ap (slice_get (known ++ each_parameter (macro_rows s.macros, known) (macro_uses i m) (names_of m.params) ∷ [])) (e ∙ sym size) ∙ last_at known (each_parameter (macro_rows s.macros, known) (macro_uses i m) (names_of m.params)) ∙ ap Some (each_rows (macro_rows s.macros, known) (macro_uses i m) (names_of m.params)) in (
            record {
              macro = record { it = m; at' = ap (slice_get s.macros) e ∙ at_i; named = ap (λ (z : Macro). z.name.name) (sym same) ∙ f.named; row = f.row ∙ ap (λ (z : Macro). Some (length z.params)) same };
              usage = usage;
              known = sym (ap (λ (z : MacroTable). slice_get z.1 j) full) ∙ later_get ms (macro_rows s.macros, known ++ each_parameter (macro_rows s.macros, known) (macro_uses i m) (names_of m.params) ∷ []) (suc i) j (rows usage (names_of m.params)) here;
              body = record { parameters = map (λ (p : PlacedName). p.name) m.params; statement = placed bs (block 0 (labeled m.body)) };
              found = ap (λ b. if b then Some (record { parameters = map (λ (p : PlacedName). p.name) m.params; statement = placed bs (block 0 (labeled m.body)) }) else find x bs) (ap (λ y. same_name y m.name.name) (sym f.named ∙ ap (λ (z : Macro). z.name.name) same) ∙ same_name-self m.name.name);
              parameters = names_map m.params;
              fine = body_fine m among i at_i (uses_there m i at_i) none known bs before;
              apart = parameters_apart m among i at_i (uses_there m i at_i) none known bs before;
            },
            here,
          )

  all_from : (ms : List Macro) (i : ℕ) (bs : Bodies) (known : List (List (Name × Usage))) → ((n : ℕ) → slice_get s.macros (i + n) ≡ slice_get ms n) → length known ≡ i → macro_table_from (macro_rows s.macros, known) i ms ≡ macro_table s.macros → Before bs known i
      → (x : Name) (j : ℕ) → first_at x (macro_rows s.macros) ≡ Some j → MacroOk s k fit of_text (bodies_with bs ms) x j
  all_from [] i bs known tail size full before x j first = go (less_or_more j i)
    where
      go : (j < i) ⊎ ((n : ℕ) × (j ≡ i + n)) → MacroOk s k fit of_text bs x j
      go (inl l) = (before x j first l).0
      go (inr n) = let f = first_macro s.macros x j first in absurd (let z : None ≡ Some f.it = sym (tail n.0) ∙ ap (slice_get s.macros) (sym n.1) ∙ f.at' in cc)
  all_from (m ∷ ms) i bs known tail size full before x j first =
      let at_i : slice_get s.macros i ≡ Some m = ap (slice_get s.macros) (let z : i ≡ i + 0 = omega arith in z) ∙ tail 0 in
      let new = each_parameter (macro_rows s.macros, known) (macro_uses i m) (names_of m.params) in
      all_from ms (suc i) ((m.name.name, record { parameters = map (λ (p : PlacedName). p.name) m.params; statement = placed bs (block 0 (labeled m.body)) }) ∷ bs) (known ++ new ∷ []) (λ n. ap (slice_get s.macros) (let z : suc i + n ≡ i + suc n = omega arith in z) ∙ tail (suc n)) (last_length known new ∙ ap suc size) full (step m ms i bs known at_i size full before) x j first

  pub all_macros : (x : Name) (j : ℕ) → first_at x (macro_rows s.macros) ≡ Some j → MacroOk s k fit of_text (bodies s.macros) x j
  all_macros =
      all_from s.macros 0 [] [] (λ n. ap (slice_get s.macros) (let z : 0 + n ≡ n = omega arith in z)) refl refl (λ x j e l. absurd (omega (arith, l)))
