-- A call of a macro that the rules of names let pass.
use Rattle.std.proofs.Common.{◌≡◌, ℕ, suc, Bool, true, false, not, ◌||◌, if◌then◌else◌, nat_eq, List, [], ◌∷◌, ◌++◌, length, Option, Some, None, refl, ap, sym, ◌∙◌, subst}
use Rattle.std.proofs.lemmas.Bool.{not-false, eqb-true}
use Rattle.std.specs.Prelude.{slice_get}
use Rattle.std.specs.List.{AllByRecursion}
use Rattle.pgo_base.specs.Lookup.{Name, same_name, find}
use Rattle.pgo_base.specs.Tree.{Tree}
use Rattle.pgo_model.specs.Names.{is_among}
use Rattle.pgo_syntax.specs.declared.macros.Macro.{Macro}
use Rattle.pgo_syntax.specs.declared.name.PlacedName.{PlacedName}
use Rattle.pgo_syntax.specs.declared.spec.Spec.{Spec}
use Rattle.pgo_uses.specs.AllUses.{macro_uses, names_of}
use Rattle.pgo_uses.specs.Names.{first_at}
use Rattle.pgo_uses.specs.StatementUses.{at_place, as_passed, argument_uses}
use Rattle.pgo_uses.specs.Tables.{macro_rows, tables_of, value_name}
use Rattle.pgo_uses.specs.declared.uses.Around.{Around}
use Rattle.pgo_uses.specs.declared.uses.Form.TheVariants as forms
use Rattle.pgo_uses.specs.declared.uses.Home.{Home}
use Rattle.pgo_uses.specs.declared.uses.Shape.{Shape}
use Rattle.pgo_uses.specs.declared.uses.Shape.TheVariants.{Bare, OneIndex, Further}
use Rattle.pgo_uses.specs.declared.uses.Use.{Use}
use Rattle.pgo_scope.specs.Arity.{or_number, arity_of}
use Rattle.pgo_scope.specs.Assigned.{may_assign, assigned_argument, assigned_if}
use Rattle.pgo_scope.specs.Findings.{found_if, found_where}
use Rattle.pgo_scope.specs.Unknown.{may_call, is_unknown}
use Rattle.pgo_scope.specs.Usage.{MacroTable, macro_table_from, each_parameter, macro_table, item_at, or_none, parameters_of, is_assigned, left_base}
use Rattle.pgo_scope.specs.declared.errors.ScopeError.TheVariants as errors
use Rattle.pgo_scope.specs.declared.usage.Usage.{Usage}
use Rattle.pgo_accept.proofs.Heads.{nothing_if}
use Rattle.pgo_accept.proofs.Fitting.{ArgumentsFit}
use Rattle.pgo_meaning.specs.MacrosPlaced.{Body, Bodies, handed}
use Rattle.pgo_agrees.specs.Accepted.{IsOfText}
use Rattle.pgo_agrees.specs.Spoken.{ArgumentsSpoken}
use Rattle.pgo_agrees.proofs.Arguments.{Joins, Given, handed_so}
use Rattle.pgo_agrees.proofs.Calls.{rows, InPairs, pair_of, not_handed, spoken_at, uses_at}
use Rattle.pgo_agrees.proofs.Env.{C, B, Common, Known', Inside, InStatements, argument_first}
use Rattle.pgo_agrees.proofs.Fine.{Fine}
use Rattle.pgo_agrees.proofs.FromUses.{Known, IsAt}
use Rattle.pgo_agrees.proofs.Hoist.{never}
use Rattle.pgo_agrees.proofs.Kept.{NoFindings}
use Rattle.pgo_agrees.proofs.MacroNames.{FirstMacro}
use Rattle.pgo_agrees.proofs.Placing.{MacroName, MacroAssigned, MacroWith, Target, CallOk, writes_so}
use Rattle.pgo_agrees.proofs.Stands.{or_first, or_second}
use Rattle.pgo_agrees.proofs.Uses.{FineUse}

module _ (s : Spec) (k : NoFindings s) (fit : AllByRecursion (ArgumentsFit s.archetypes) s.processes) (of_text : IsOfText s) where
  -- a macro whose body, with the macros before it in place, is known to be fine
  pub record MacroOk (bs : Bodies) (x : Name) (j : ℕ) : Type 0 where
    pub macro : FirstMacro s.macros x j
    pub usage : Name → Usage
    pub known : slice_get (macro_table s.macros).1 j ≡ Some (rows usage (names_of macro.it.params))
    pub body : Body
    pub found : find x bs ≡ Some body
    pub parameters : body.parameters ≡ names_of macro.it.params
    pub fine : Fine (MacroName (C s k fit of_text) (B s k fit of_text) (Common s k fit of_text) (names_of macro.it.params) usage) (C s k fit of_text) (B s k fit of_text) (MacroWith (C s k fit of_text) (B s k fit of_text) (Common s k fit of_text) (names_of macro.it.params)) (MacroAssigned (C s k fit of_text) (B s k fit of_text) (Common s k fit of_text) (names_of macro.it.params) usage) (λ ns m ts. Unit {0}) ⊥ false [] body.statement
    pub apart : (y : Name) → Common s k fit of_text y → is_among y (names_of macro.it.params) ≡ false

  -- ---- what the rules say of a call
  pub called_known : (u : Use) (ts : List Tree) → FineUse s u → u.form ≡ forms.Called ts → may_call (tables_of s) u.around.home u.name ≡ true
  called_known u ts f e = not-false (may_call (tables_of s) u.around.home u.name) (subst (λ g. is_unknown (tables_of s) s.archetypes u g ≡ false) e f.unknown)

  names_length : (ps : List PlacedName) → length (names_of ps) ≡ length ps
  names_length [] = refl
  names_length (p ∷ ps) = ap suc (names_length ps)

  called_number : (u : Use) (ts : List Tree) (j : ℕ) (m : FirstMacro s.macros u.name j) → FineUse s u → u.form ≡ forms.Called ts → length (names_of m.it.params) ≡ length ts
  called_number u ts j m f e =
      let h = subst (λ g. arity_of (tables_of s) u g ≡ []) e f.arity in
      let n = or_number (find u.name (macro_rows s.macros)) (length ts) in
      let same = not-false (nat_eq n (length ts)) (nothing_if (not (nat_eq n (length ts))) u.around.place (errors.Arity u.name (length ts)) h) in
      names_length m.it.params ∙ eqb-true (length m.it.params) (length ts) (subst (λ o. nat_eq (or_number o (length ts)) (length ts) ≡ true) m.row same)

  kept_names : (ms : List Macro) (known : MacroTable) (i : ℕ) → (macro_table_from known i ms).0 ≡ known.0
  kept_names [] known i = refl
  kept_names (m ∷ ms) known i = kept_names ms (known.0, known.1 ++ each_parameter known (macro_uses i m) (names_of m.params) ∷ []) (suc i)

  pub parameters_are : (known : MacroTable) (x : Name) (j : ℕ) (w : Name → Usage) (ns : List Name) → known.0 ≡ macro_rows s.macros → first_at x (macro_rows s.macros) ≡ Some j → slice_get known.1 j ≡ Some (rows w ns) → parameters_of known x ≡ rows w ns
  parameters_are known x j w ns n e f =
      ap (λ rs. or_none (item_at (first_at x rs) known.1)) n ∙ ap (λ o. or_none (item_at o known.1)) e ∙ ap or_none f

  pub all_names : (macro_table s.macros).0 ≡ macro_rows s.macros
  all_names = kept_names s.macros (macro_rows s.macros, []) 0

  -- ---- the call, in a unit of these names
  module _ (N : List Name → Bool → Bool → Name → Type 0) (W : Name → Type 0) (A : List Name → Shape → Name → Type 0) (home : Home) (in' : InStatements s k fit of_text home) (qs : List Name) (R : Use → Type 0) (J : Bool → Bool → Name → Type 0) (target : Target (C s k fit of_text) (B s k fit of_text) (Common s k fit of_text) N W A ⊥) (joins : Joins N (C s k fit of_text) (B s k fit of_text) W A ⊥ (Common s k fit of_text) (Inside s k fit of_text qs) R J home false) where
    pub call_ok : (bs : Bodies) (ns ms : List Name) (a : Around) (m : PlacedName) (ts : List Tree) (j : ℕ) (o : MacroOk bs m.name j) → FineUse s (record { name = m.name; form = forms.Called ts; inner = is_among m.name ms; around = at_place m.place a }) → IsAt home false a → (a.hidden ≡ false) × (a.indexed ≡ false) → Known (Known' s k fit of_text qs ns) ms [] → ArgumentsSpoken ts → AllByRecursion (FineUse s) (argument_uses ms (as_passed (at_place m.place a)) ts)
        → ((x : Name) (t : Tree) → InPairs (x, o.usage x) t (rows o.usage (names_of o.macro.it.params)) ts → Given N (C s k fit of_text) (B s k fit of_text) W A ⊥ (Common s k fit of_text) (Inside s k fit of_text qs) R J home false joins ns (at_place m.place a) (o.usage x) t)
        → CallOk (C s k fit of_text) (B s k fit of_text) (Common s k fit of_text) N W A ⊥ target bs ns m ts
    call_ok bs ns ms a m ts j o f w v known spoken fine given =
        let names = names_of o.macro.it.params in
        let number = called_number (record { name = m.name; form = forms.Called ts; inner = is_among m.name ms; around = at_place m.place a }) ts j o.macro f refl in
        record {
          body = o.body;
          found = o.found;
          parameters = names;
          usage = o.usage;
          fine = o.fine;
          arguments = record {
            with' = λ x h. never h;
            parameter = λ x h g.
                (let q = pair_of o.usage x names ts number g in
                (q.0, ap (λ xs. find x (handed xs ts)) o.parameters ∙ q.1, handed_so N (C s k fit of_text) (B s k fit of_text) W A ⊥ (Common s k fit of_text) (Inside s k fit of_text qs) R J home false joins ns (at_place m.place a) (o.usage x) q.0 w v.0 (spoken_at (x, o.usage x) q.0 (rows o.usage names) ts q.2 spoken) (argument_first s k fit of_text home in' qs ns ms (at_place m.place a) q.0 w v known (spoken_at (x, o.usage x) q.0 (rows o.usage names) ts q.2 spoken) (uses_at (FineUse s) ms (as_passed (at_place m.place a)) (x, o.usage x) q.0 (rows o.usage names) ts q.2 fine)) (given x q.0 q.2)));
            other = λ x h g. ap (λ xs. find x (handed xs ts)) o.parameters ∙ not_handed x names ts g;
            apart = o.apart;
          };
        }

  -- ---- an argument that is assigned
  pub assigned_base : (u : Use) (p : Name) (w : Usage) (t : Tree) (h : Shape) → writes_so w h ≡ true → assigned_if s u p w t ≡ [] → (x : Name) × (left_base t ≡ Some x) × (may_assign s u.around.home x ≡ true)
  assigned_base u p w t h e f = go (left_base t) refl (is_none (is_assigned w) (is h e) f)
    where
      is : (h : Shape) → writes_so w h ≡ true → is_assigned w ≡ true
      is Bare e = or_first (w.bare || w.one_index) w.further (or_first w.bare w.one_index e)
      is OneIndex e = or_first (w.bare || w.one_index) w.further (or_second w.bare w.one_index e)
      is Further e = or_second (w.bare || w.one_index) w.further e

      is_none : (b : Bool) → b ≡ true → found_where b (assigned_argument s u p (left_base t)) ≡ [] → assigned_argument s u p (left_base t) ≡ []
      is_none true e f = f
      is_none false e f = absurd (cc)

      go : (o : Option Name) → left_base t ≡ o → assigned_argument s u p (left_base t) ≡ [] → (x : Name) × (left_base t ≡ Some x) × (may_assign s u.around.home x ≡ true)
      go None q f = absurd (let z : found_if true u.around.place (errors.AssignedNotRef p) ≡ [] = ap (assigned_argument s u p) (sym q) ∙ f in cc)
      go (Some x) q f = (x, q, by (same_name x value_name) (ap (assigned_argument s u p) (sym q) ∙ f))
        where
          by : (b : Bool) → (if b then found_if true u.around.place (errors.AssignedNotRef p) else found_if (not (may_assign s u.around.home x)) u.around.place (errors.AssignedNotRef x)) ≡ [] → may_assign s u.around.home x ≡ true
          by true f = absurd (cc)
          by false f = not-false (may_assign s u.around.home x) (nothing_if (not (may_assign s u.around.home x)) u.around.place (errors.AssignedNotRef x) f)
