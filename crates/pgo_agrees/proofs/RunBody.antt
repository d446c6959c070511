-- The body of an archetype that a process runs, with macros in the place of their calls.
use Rattle.std.proofs.Common.{◌≡◌, ℕ, Bool, true, false, ◌||◌, List, [], ◌∷◌, ◌++◌, length, Some, None, refl, ap, sym, ◌∙◌, subst, inl, inr}
use Rattle.std.specs.Prelude.{◌⊎◌, slice_get, flat_map}
use Rattle.std.specs.List.{AllByRecursion}
use Rattle.pgo_base.specs.Data.{Data}
use Rattle.pgo_base.specs.Lookup.{Name, same_name}
use Rattle.pgo_base.specs.Tree.{Tree}
use Rattle.pgo_syntax.specs.Statement.{labeled}
use Rattle.pgo_syntax.specs.declared.archetype.Archetype.{Archetype}
use Rattle.pgo_syntax.specs.declared.archetype.Parameter.{Parameter}
use Rattle.pgo_syntax.specs.declared.archetype.ParameterKind.{ParameterKind}
use Rattle.pgo_syntax.specs.declared.archetype.ParameterKind.TheVariants as kinds
use Rattle.pgo_syntax.specs.declared.name.PlacedName.{PlacedName}
use Rattle.pgo_syntax.specs.declared.process.Process.{Process}
use Rattle.pgo_syntax.specs.declared.spec.Spec.{Spec}
use Rattle.pgo_uses.specs.AllUses.{names_of, parameter_names, variable_names, parameter_uses, local_uses, start, archetype_uses}
use Rattle.pgo_uses.specs.Names.{first_at}
use Rattle.pgo_uses.specs.StatementUses.{at_place, as_passed, argument_uses, uses_of_block}
use Rattle.pgo_uses.specs.Tables.{macro_rows, tables_of}
use Rattle.pgo_uses.specs.Uses.{inside, uses}
use Rattle.pgo_uses.specs.declared.uses.Around.{Around}
use Rattle.pgo_uses.specs.declared.uses.Form.TheVariants as forms
use Rattle.pgo_uses.specs.declared.uses.Home.TheVariants as homes
use Rattle.pgo_uses.specs.declared.uses.Shape.{Shape}
use Rattle.pgo_uses.specs.declared.uses.Shape.TheVariants.{Bare, OneIndex, Further}
use Rattle.pgo_uses.specs.declared.uses.Use.{Use}
use Rattle.pgo_scope.specs.Assigned.{ref_names, assignable_in, may_assign, assigned_arguments, assigned_of}
use Rattle.pgo_scope.specs.Findings.{found_where}
use Rattle.pgo_scope.specs.Mapped.{read_of, read_use, argument_read, base_written, argument_written, argument_reads, argument_findings, arguments_findings, mapped_use_of}
use Rattle.pgo_scope.specs.Unknown.{may_call}
use Rattle.pgo_scope.specs.Usage.{join, left_base, left_shape, left_uses, macro_table}
use Rattle.pgo_scope.specs.declared.finding.Finding.{Finding}
use Rattle.pgo_scope.specs.declared.usage.Usage.{Usage}
use Rattle.pgo_bound.specs.Among.{IsAmong, among_right, all_at, none_left, none_right}
use Rattle.pgo_bound.specs.Runs.{archetype_named}
use Rattle.pgo_bound.specs.Different.{all_from}
use Rattle.pgo_heads.specs.Refusals.{bind_refusal}
use Rattle.pgo_accept.proofs.Fitting.{ArgumentsFit}
use Rattle.pgo_labels.specs.LabelHere.{label_in_with}
use Rattle.pgo_model.specs.Names.{is_among}
use Rattle.pgo_meaning.specs.LabelSections.{AreUnlabelled}
use Rattle.pgo_meaning.specs.MacrosPlaced.{marked as marked', bodies, placed_among}
use Rattle.pgo_meaning.proofs.Trees.{among_front}
use Rattle.pgo_agrees.specs.Accepted.{IsOfText, ArchetypeOfText}
use Rattle.pgo_agrees.specs.Spoken.{ArgumentsSpoken}
use Rattle.pgo_agrees.proofs.Arguments.{Joins, Given}
use Rattle.pgo_agrees.proofs.Calls.{rows, InPairs, assigned_at, mapped_at}
use Rattle.pgo_agrees.proofs.Closed.{apart}
use Rattle.pgo_agrees.proofs.Env.{C, B, Common, D, Known', Inside, applicable_no_bang, UnitRules, tells_all}
use Rattle.pgo_agrees.proofs.Fine.{LabeledFine}
use Rattle.pgo_agrees.proofs.FineUses.{Within, labeled_fine}
use Rattle.pgo_agrees.proofs.FreeWiths.{body_free}
use Rattle.pgo_agrees.proofs.FromUses.{Known, IsAt}
use Rattle.pgo_agrees.proofs.InArchetype as run
use Rattle.pgo_agrees.proofs.InMacro.{all_macros}
use Rattle.pgo_agrees.proofs.Kept.{NoFindings}
use Rattle.pgo_agrees.proofs.MacroCalls.{MacroOk, all_names, called_known, parameters_are, call_ok, assigned_base}
use Rattle.pgo_agrees.proofs.MacroNames.{there_first}
use Rattle.pgo_agrees.proofs.Names.{single}
use Rattle.pgo_agrees.proofs.Meanings.{common_apart, common_single}
use Rattle.pgo_agrees.proofs.Placing.{reads_so, writes_so, marked_bang, marked_single, bang_apart, Target, CallOk, among_placed}
use Rattle.pgo_agrees.proofs.Stands.{or_in, or_second}
use Rattle.pgo_agrees.proofs.Uses.{FineUse}

all_empty : (f : Use → List Finding) (us : List Use) → flat_map f us ≡ [] → AllByRecursion (λ u. f u ≡ []) us
all_empty f [] h = tt
all_empty f (u ∷ us) h = (none_left (f u) (flat_map f us) h, all_empty f us (none_right (f u) (flat_map f us) h))

where_true : (b : Bool) (fs : List Finding) → b ≡ true → found_where b fs ≡ [] → fs ≡ []
where_true true fs e h = h
where_true false fs e h = absurd (cc)

ref_parameter : (x : Name) (ps : List Parameter) → is_among x (ref_names ps) ≡ true → is_among x (parameter_names ps) ≡ true
ref_parameter x [] h = h
ref_parameter x (p ∷ ps) h = go p.kind h (ref_parameter x ps)
  where
    go : (k : ParameterKind) → is_among x (elim k as (λ k. List Name) [ kinds.Value ↦ ref_names ps | kinds.Ref extent ↦ p.name.name ∷ ref_names ps ]) ≡ true → (is_among x (ref_names ps) ≡ true → is_among x (parameter_names ps) ≡ true) → is_among x (parameter_names (p ∷ ps)) ≡ true
    go kinds.Value e more = by (same_name x p.name.name) (more e)
      where
        by : (b : Bool) → is_among x (parameter_names ps) ≡ true → (b || is_among x (parameter_names ps)) ≡ true
        by true f = refl
        by false f = f
    go (kinds.Ref extent) e more = by (same_name x p.name.name) e
      where
        by : (b : Bool) → (b || is_among x (ref_names ps)) ≡ true → (b || is_among x (parameter_names ps)) ≡ true
        by true f = refl
        by false f = more f

member_last : (x : Name) (xs ys : List Name) → is_among x ys ≡ true → is_among x (xs ++ ys) ≡ true
member_last x [] ys h = h
member_last x (z ∷ xs) ys h = go (same_name x z) (member_last x xs ys h)
  where
    go : (b : Bool) → is_among x (xs ++ ys) ≡ true → (b || is_among x (xs ++ ys)) ≡ true
    go true k = refl
    go false k = k

module _ (s : Spec) (k : NoFindings s) (fit : AllByRecursion (ArgumentsFit s.archetypes) s.processes) (of_text : IsOfText s) (unlabelled : AreUnlabelled s.macros) (consts : List (Name × Data)) (none : bind_refusal s consts ≡ None) (p : Process) (a : Archetype) (among : IsAmong p s.processes) (named : archetype_named p.archetype.name s.archetypes ≡ Some a) (declared : IsAmong a s.archetypes) (len : length a.params ≡ length p.arguments) (j : ℕ) (at_j : slice_get s.archetypes j ≡ Some a) (there : (u : Use) → IsAmong u (archetype_uses j a) → FineUse s u) where
  abbrev pub qs : List Name
  qs = parameter_names a.params ++ variable_names a.locals

  abbrev pub N : List Name → Bool → Bool → Name → Type 0
  N = run.RunName s k fit of_text consts none p a among named declared len j at_j there

  abbrev pub A : List Name → Shape → Name → Type 0
  A = run.RunAssigned s k fit of_text consts none p a among named declared len j at_j there

  abbrev J : Bool → Bool → Name → Type 0
  J = run.MayRead s k fit of_text consts none p a among named declared len j at_j there

  abbrev R : Use → Type 0
  R v = read_use s v ≡ []

  target : Target (C s k fit of_text) (B s k fit of_text) (Common s k fit of_text) N (D s k fit of_text) A ⊥
  target = record {
    more_names = more;
    more_assigned = λ z x ns h g. g;
    marked_names = λ x ns h i d e. (single (marked' x) (marked_single x d.0), inl e);
    marked_with = λ x d. (marked_single x d.0, λ y c. bang_apart (marked' x) y (marked_bang x) (applicable_no_bang s k fit of_text y c));
    common = λ x ns h i c. (common_single s k fit of_text x c, inr (inr (inl (apart s k fit of_text x (common_apart s k fit of_text x c)))));
  }
    where
      more : (z x : Name) (ns : List Name) (h i : Bool) → N ns h i x → N (z ∷ ns) h i x
      more z x ns h i n = (n.0, go n.1)
        where
          go : {T : Type 0} → (is_among x ns ≡ true) ⊎ T → (is_among x (z ∷ ns) ≡ true) ⊎ T
          go (inl e) = inl (or_second (same_name x z) (is_among x ns) e)
          go (inr e) = inr e

  joins : Joins N (C s k fit of_text) (B s k fit of_text) (D s k fit of_text) A ⊥ (Common s k fit of_text) (Inside s k fit of_text qs) R J (homes.Body j) false
  joins = record {
    names = run.run_name s k fit of_text consts none p a among named declared len j at_j there;
    reads = λ u r g e. run.read_fine s k fit of_text consts none p a among named declared len j at_j there u g.0 (ap (read_of s u) (sym e) ∙ r);
  }

  mine_of : (x : Name) → may_assign s (homes.Body j) x ≡ true → is_among x qs ≡ true
  mine_of x h = go (or_in (is_among x (ref_names a.params)) (is_among x (variable_names a.locals)) (ap (λ o. assignable_in o x) (sym at_j) ∙ h))
    where
      go : (is_among x (ref_names a.params) ≡ true) ⊎ (is_among x (variable_names a.locals) ≡ true) → is_among x qs ≡ true
      go (inl e) = among_front x (parameter_names a.params) (variable_names a.locals) (ref_parameter x a.params e)
      go (inr e) = member_last x (parameter_names a.params) (variable_names a.locals) e

  -- ---- a call
  read_found : (b : Around) (w : Usage) (t : Tree) → argument_reads s b w t ≡ [] → (h i : Bool) → reads_so w h i ≡ true → argument_read s b h i t ≡ []
  read_found b w t f h i e = go h i e
    where
      first : found_where w.plain (argument_read s b false false t) ++ found_where w.indexed (argument_read s b false true t) ++ found_where w.hidden (argument_read s b true false t) ≡ []
      first = none_left (found_where w.plain (argument_read s b false false t) ++ found_where w.indexed (argument_read s b false true t) ++ found_where w.hidden (argument_read s b true false t)) (found_where w.hidden_indexed (argument_read s b true true t)) f

      two : found_where w.plain (argument_read s b false false t) ++ found_where w.indexed (argument_read s b false true t) ≡ []
      two = none_left (found_where w.plain (argument_read s b false false t) ++ found_where w.indexed (argument_read s b false true t)) (found_where w.hidden (argument_read s b true false t)) first

      go : (h i : Bool) → reads_so w h i ≡ true → argument_read s b h i t ≡ []
      go false false e = where_true w.plain (argument_read s b false false t) e (none_left (found_where w.plain (argument_read s b false false t)) (found_where w.indexed (argument_read s b false true t)) two)
      go false true e = where_true w.indexed (argument_read s b false true t) e (none_right (found_where w.plain (argument_read s b false false t)) (found_where w.indexed (argument_read s b false true t)) two)
      go true false e = where_true w.hidden (argument_read s b true false t) e (none_right (found_where w.plain (argument_read s b false false t) ++ found_where w.indexed (argument_read s b false true t)) (found_where w.hidden (argument_read s b true false t)) first)
      go true true e = where_true w.hidden_indexed (argument_read s b true true t) e (none_right (found_where w.plain (argument_read s b false false t) ++ found_where w.indexed (argument_read s b false true t) ++ found_where w.hidden (argument_read s b true false t)) (found_where w.hidden_indexed (argument_read s b true true t)) f)

  record Found (b : Around) (w : Usage) (t : Tree) : Type 0 where
    pub reads : argument_reads s b w t ≡ []
    pub bare : found_where w.bare (argument_written s b Bare t) ≡ []
    pub one : found_where w.one_index (argument_written s b OneIndex t) ≡ []
    pub more : found_where w.further (argument_written s b Further t) ≡ []

  found : (b : Around) (w : Usage) (t : Tree) → argument_findings s b w t ≡ [] → Found b w t
  found b w t f =
      let r = argument_reads s b w t in
      let x = found_where w.bare (argument_written s b Bare t) in
      let y = found_where w.one_index (argument_written s b OneIndex t) in
      let z = found_where w.further (argument_written s b Further t) in
      let f3 = none_left (r ++ x ++ y) z f in
      let f2 = none_left (r ++ x) y f3 in
      record { reads = none_left r x f2; bare = none_right r x f2; one = none_right (r ++ x) y f3; more = none_right (r ++ x ++ y) z f }

  written_found : (b : Around) (w : Usage) (t : Tree) → Found b w t → (h : Shape) → writes_so w h ≡ true → argument_written s b h t ≡ []
  written_found b w t f Bare e = where_true w.bare (argument_written s b Bare t) e f.bare
  written_found b w t f OneIndex e = where_true w.one_index (argument_written s b OneIndex t) e f.one
  written_found b w t f Further e = where_true w.further (argument_written s b Further t) e f.more

  given : (u : Use) (ts : List Tree) (n : ℕ) (o : MacroOk s k fit of_text (bodies s.macros) u.name n) → FineUse s u → u.form ≡ forms.Called ts → u.around.home ≡ homes.Body j → first_at u.name (macro_rows s.macros) ≡ Some n
      → (ns : List Name) (x : Name) (t : Tree) → InPairs (x, o.usage x) t (rows o.usage (names_of o.macro.it.params)) ts → Given N (C s k fit of_text) (B s k fit of_text) (D s k fit of_text) A ⊥ (Common s k fit of_text) (Inside s k fit of_text qs) R J (homes.Body j) false joins ns u.around (o.usage x) t
  given u ts n o f form home first ns x t h =
      let names = names_of o.macro.it.params in
      let full = parameters_are s k fit of_text (macro_table s.macros) u.name n o.usage names (all_names s k fit of_text) first o.known in
      let mapped = mapped_at s u.around (x, o.usage x) t (rows o.usage names) ts h (subst (λ qs. arguments_findings s u.around qs ts ≡ []) full (subst (λ g. mapped_use_of s (macro_table s.macros) u g ≡ []) form f.mapped)) in
      let assigned = assigned_at s u (x, o.usage x) t (rows o.usage names) ts h (subst (λ qs. assigned_arguments s u qs ts ≡ []) full (subst (λ g. assigned_of s (macro_table s.macros) u g ≡ []) form f.assigned)) in
      let all = found u.around (o.usage x) t mapped in
      record {
        reads = λ b c e. all_empty (read_use s) (uses [] (record u.around { hidden = b; indexed = c }) t) (read_found u.around (o.usage x) t all.reads b c e);
        writes = λ b e.
            (let w = written_found u.around (o.usage x) t all b e in
            let l = assigned_base s k fit of_text u x (o.usage x) t b e assigned in
            let base = none_left (base_written s u.around (left_base t) (join (left_shape t) b)) (flat_map (read_use s) (left_uses [] (inside u.around) t)) w in
            let path = none_right (base_written s u.around (left_base t) (join (left_shape t) b)) (flat_map (read_use s) (left_uses [] (inside u.around) t)) w in
            let one = ap (λ o. base_written s u.around o (join (left_shape t) b)) (sym l.1) ∙ base in
            let mem = mine_of l.0 (ap (λ z. may_assign s z l.0) (sym home) ∙ l.2) in
            (l.0, l.1, (run.mine_single s k fit of_text consts none p a among named declared len j at_j there l.0 (run.mine s k fit of_text consts none p a among named declared len j at_j there l.0 mem), run.written_fine s k fit of_text consts none p a among named declared len j at_j there u.around l.0 (join (left_shape t) b) home one), all_empty (read_use s) (left_uses [] (inside u.around) t) path));
      }

  called : (ns ms : List Name) (b : Around) (c : PlacedName) (ts : List Tree) → FineUse s (record { name = c.name; form = forms.Called ts; inner = is_among c.name ms; around = at_place c.place b }) → IsAt (homes.Body j) false b → (b.hidden ≡ false) × (b.indexed ≡ false) → Known (Known' s k fit of_text qs ns) ms [] → Within qs ms → ArgumentsSpoken ts → AllByRecursion (FineUse s) (argument_uses ms (as_passed (at_place c.place b)) ts)
      → CallOk (C s k fit of_text) (B s k fit of_text) (Common s k fit of_text) N (D s k fit of_text) A ⊥ target (bodies s.macros) ns c ts
  called ns ms b c ts f g v known within spoken fine =
      let u : Use = record { name = c.name; form = forms.Called ts; inner = is_among c.name ms; around = at_place c.place b } in
      let e = there_first c.name (macro_rows s.macros) (subst (λ z. may_call (tables_of s) z c.name ≡ true) g.0 (called_known s k fit of_text u ts f refl)) in
      let o = all_macros s k fit of_text unlabelled c.name e.0 e.1 in
      call_ok s k fit of_text N (D s k fit of_text) A (homes.Body j) (λ x. refl) qs R J target joins (bodies s.macros) ns ms b c ts e.0 o f g v known spoken fine (λ x t h. given u ts e.0 o f refl g.0 e.1 ns x t h)

  rules : UnitRules s k fit of_text (homes.Body j) (λ x. refl) qs (FineUse s) N (D s k fit of_text) A (CallOk (C s k fit of_text) (B s k fit of_text) (Common s k fit of_text) N (D s k fit of_text) A ⊥ target (bodies s.macros)) ⊥ J
  rules = record {
    fine = λ u f. f;
    reads = run.alone_read s k fit of_text consts none p a among named declared len j at_j there;
    names = run.run_name s k fit of_text consts none p a among named declared len j at_j there;
    with_of = λ x d e. d;
    declared = λ x d. d;
    assigned = λ ns u h f w e inner. run.assigned_fine s k fit of_text consts none p a among named declared len j at_j there ns u h f w e;
    called = called;
  }

  pub body_fine : label_in_with a ≡ [] → LabeledFine N (C s k fit of_text) (B s k fit of_text) (D s k fit of_text) A (λ ns m ts. Unit {0}) ⊥ true [] (placed_among (bodies s.macros) (labeled a.body))
  body_fine free =
      let at' = start (homes.Body j) a.name.place in
      let ps = parameter_uses [] at' a.params in
      let ls = local_uses j (parameter_names a.params) at' a.locals in
      let body = uses_of_block qs at' (labeled a.body) in
      let text = all_at ArchetypeOfText a s.archetypes of_text.archetypes declared in
      among_placed (C s k fit of_text) (B s k fit of_text) (Common s k fit of_text) N (D s k fit of_text) A ⊥ target (bodies s.macros) (labeled a.body) true []
      (labeled_fine (FineUse s) (homes.Body j) qs N (C s k fit of_text) (B s k fit of_text) (D s k fit of_text) A (CallOk (C s k fit of_text) (B s k fit of_text) (Common s k fit of_text) N (D s k fit of_text) A ⊥ target (bodies s.macros)) ⊥ (Known' s k fit of_text qs) (tells_all s k fit of_text (homes.Body j) (λ x. refl) qs (FineUse s) N (D s k fit of_text) A (CallOk (C s k fit of_text) (B s k fit of_text) (Common s k fit of_text) N (D s k fit of_text) A ⊥ target (bodies s.macros)) ⊥ J rules) (labeled a.body) true qs [] at' (body_free a free) (refl, refl) (refl, refl) (record { known = λ x e. inr (inr e); unit = λ x e. e }) text.2 (all_from (FineUse s) body (λ u c. there u (among_right u (ps ++ ls) body c))))
