-- What the rules of names say of a name in a statement.
use Rattle.std.proofs.Common.{◌≡◌, ℕ, Bool, true, false, not, ◌&&◌, ◌||◌, nat_eq, List, [], ◌∷◌, refl, ap, sym, ◌∙◌, subst, inl, inr, arith}
use Rattle.std.specs.Prelude.{◌⊎◌}
use Rattle.std.specs.List.{AllByRecursion}
use Rattle.pgo_base.specs.Lookup.{Name, same_name}
use Rattle.pgo_base.specs.Tree.{Tree}
use Rattle.pgo_model.specs.Names.{same_name-self, same_name-not, is_among}
use Rattle.pgo_model.specs.Written.{self_name, default_init_value}
use Rattle.pgo_syntax.specs.declared.name.PlacedName.{PlacedName}
use Rattle.pgo_syntax.specs.declared.spec.Spec.{Spec}
use Rattle.pgo_uses.specs.Names.{has_row}
use Rattle.pgo_uses.specs.StatementUses.{as_passed, at_place, argument_uses}
use Rattle.pgo_uses.specs.Tables.{all_definitions, tables_of, operator_rows}
use Rattle.pgo_uses.specs.Uses.{uses}
use Rattle.pgo_uses.specs.declared.uses.Around.{Around}
use Rattle.pgo_uses.specs.declared.uses.Form.TheVariants as forms
use Rattle.pgo_uses.specs.declared.uses.Home.{Home}
use Rattle.pgo_uses.specs.declared.uses.Shape.{Shape}
use Rattle.pgo_uses.specs.declared.uses.Use.{Use}
use Rattle.pgo_scope.specs.Twice.{is_reserved, may_be_global, hides, hiding_of}
use Rattle.pgo_scope.specs.Unknown.{is_common, knows_self, means}
use Rattle.pgo_bound.specs.Among.{all_at}
use Rattle.pgo_accept.proofs.Fitting.{ArgumentsFit}
use Rattle.pgo_sections.specs.Access.{place}
use Rattle.pgo_sections.specs.WellFormed.{Bindable}
use Rattle.pgo_agrees.specs.Accepted.{IsOfText, DefinitionOfText}
use Rattle.pgo_agrees.specs.Spoken.{Spoken, ArgumentsSpoken}
use Rattle.pgo_agrees.proofs.Closed.{bound_use_apart}
use Rattle.pgo_agrees.proofs.FineUses.{TellsAll, Within}
use Rattle.pgo_agrees.proofs.FromUses.{Known, IsAt, Tells, stands}
use Rattle.pgo_agrees.proofs.Further.{names_written}
use Rattle.pgo_agrees.proofs.Kept.{NoFindings}
use Rattle.pgo_agrees.proofs.Meanings.{IsCommon, IsApplicable, defined_row, row_test, alone_means, alone_no_global, common_here, applied_is}
use Rattle.pgo_agrees.proofs.Names.{or_left, or_right, and_left, and_right, single, identifier_bytes}
use Rattle.pgo_agrees.proofs.Placing.{has_bang, Declared}
use Rattle.pgo_agrees.proofs.Stands.{Stands, or_in, or_first, or_second}
use Rattle.pgo_agrees.proofs.WrittenNames.{bound_not_fixed}
use Rattle.pgo_agrees.proofs.Uses.{FineUse}
use Rattle.pgo_model.specs.ValueText.{is_word_byte, all_word_bytes}

-- ---- bytes of names

pub bytes_no_bang : (x : Name) → all_word_bytes x ≡ true → has_bang x ≡ false
bytes_no_bang [] h = refl
bytes_no_bang (b ∷ bs) h = go (nat_eq b 33) refl (bytes_no_bang bs (and_right (is_word_byte b) (all_word_bytes bs) h))
  where
    go : (c : Bool) → nat_eq b 33 ≡ c → has_bang bs ≡ false → c || has_bang bs ≡ false
    go false e r = r
    go true e r =
        absurd (let f : b ≡ 33 = grind (arith, e) in let g : is_word_byte b ≡ false = ap is_word_byte f in let q : true ≡ false = sym (and_left (is_word_byte b) (all_word_bytes bs) h) ∙ g in cc)

no_bang_operators : AllByRecursion (λ r. has_bang r.0 ≡ false) operator_rows
no_bang_operators = (refl, (refl, (refl, (refl, (refl, (refl, (refl, (refl, tt))))))))

abbrev hash_first : Name → Bool
hash_first [] = false
hash_first (b ∷ bs) = nat_eq b 35

no_hash_operators : AllByRecursion (λ r. hash_first r.0 ≡ false) operator_rows
no_hash_operators = (refl, (refl, (refl, (refl, (refl, (refl, (refl, (refl, tt))))))))

bytes_no_hash : (x : Name) → all_word_bytes x ≡ true → hash_first x ≡ false
bytes_no_hash [] h = refl
bytes_no_hash (b ∷ bs) h = go (nat_eq b 35) refl
  where
    go : (c : Bool) → nat_eq b 35 ≡ c → nat_eq b 35 ≡ false
    go false e = e
    go true e =
        absurd (let f : b ≡ 35 = grind (arith, e) in let g : is_word_byte b ≡ false = ap is_word_byte f in let q : true ≡ false = sym (and_left (is_word_byte b) (all_word_bytes bs) h) ∙ g in cc)

module _ (s : Spec) (k : NoFindings s) (fit : AllByRecursion (ArgumentsFit s.archetypes) s.processes) (of_text : IsOfText s) where
  abbrev pub C : Name → Type 0
  C = IsApplicable s

  abbrev pub B : Name → Type 0
  B = Bindable (names_written s)

  abbrev pub Common : Name → Type 0
  Common = IsCommon s

  abbrev pub D : Name → Type 0
  D = Declared C B Common

  pub applicable_no_bang : (x : Name) → C x → has_bang x ≡ false
  applicable_no_bang x (inr e) = row_test has_bang x operator_rows no_bang_operators e
  applicable_no_bang x (inl e) =
      let d = defined_row x (all_definitions s) e in
      let t = all_at DefinitionOfText d.0 (all_definitions s) of_text.definitions d.1 in
      ap has_bang d.2 ∙ bytes_no_bang d.0.name.name (identifier_bytes d.0.name.name t.0)

  hash_apart : (x : Name) → C x → hash_first x ≡ false
  hash_apart x (inr e) = row_test hash_first x operator_rows no_hash_operators e
  hash_apart x (inl e) =
      let d = defined_row x (all_definitions s) e in
      let t = all_at DefinitionOfText d.0 (all_definitions s) of_text.definitions d.1 in
      ap hash_first d.2 ∙ bytes_no_hash d.0.name.name (identifier_bytes d.0.name.name t.0)

  pub place_apart : (j : ℕ) (x : Name) → C x → same_name x (place j) ≡ false
  place_apart j x c = same_name-not x (place j) (λ e. (let q : true ≡ false = sym (ap hash_first e) ∙ hash_apart x c in cc))

  -- ---- what an expression binds
  pub bound_bindable : (u : Use) → FineUse s u → u.form ≡ forms.Bound → B u.name
  bound_bindable u f e = (
    single u.name f.double,
    bound_use_apart s k fit of_text u f e,
    same_name-not u.name self_name (λ g. bound_not_fixed s k.clashes u f.among e self_name (inr (inr (inr (inr (inr (inr (inr (inl refl)))))))) (sym g)),
  )

  -- ---- a name that is declared in an archetype or a macro
  pub record NamedFacts (u : Use) : Type 0 where
    pub fresh : u.inner ≡ false
    pub declared : D u.name
    pub no_constant : has_row u.name (tables_of s).constants ≡ false
    pub no_reserved : is_reserved u.name ≡ false
    pub no_definition : has_row u.name (tables_of s).definitions ≡ false
    pub no_self : knows_self u.around.home ≡ true → same_name u.name self_name ≡ false

  and_no : (a b : Bool) → a && b ≡ false → b ≡ true → a ≡ false
  and_no true b h g = absurd (let q : true ≡ false = sym g ∙ h in cc)
  and_no false b h g = refl

  pub named_facts : (u : Use) → FineUse s u → u.form ≡ forms.Named → NamedFacts u
  named_facts u f e =
      let ts = tables_of s in
      let inner = u.inner in
      let reserved = is_reserved u.name in
      let constant = has_row u.name ts.constants in
      let definition = has_row u.name ts.definitions in
      let self = same_name u.name self_name && knows_self u.around.home in
      let h : hides ts u ≡ false = or_left (hides ts u) (has_row u.name ts.globals && not (may_be_global u.around.home)) (subst (λ g. hiding_of ts u g ≡ false) e f.hiding) in
      let h4 = or_left (inner || reserved || constant || definition) self h in
      let h3 = or_left (inner || reserved || constant) definition h4 in
      let h2 = or_left (inner || reserved) constant h3 in
      let no_res = or_right inner reserved h2 in
      let no_def = or_right (inner || reserved || constant) definition h4 in
      record {
        fresh = or_left inner reserved h2;
        declared = (f.double, λ y c. apart_from y c no_res no_def);
        no_constant = or_right (inner || reserved) constant h3;
        no_reserved = no_res;
        no_definition = no_def;
        no_self = λ g. and_no (same_name u.name self_name) (knows_self u.around.home) (or_right (inner || reserved || constant || definition) self h) g;
      }
    where
      apart_from : (y : Name) → C y → is_reserved u.name ≡ false → has_row u.name (tables_of s).definitions ≡ false → same_name y u.name ≡ false
      apart_from y (inl d) r n = same_name-not y u.name (λ q. (let z : true ≡ false = sym d ∙ ap (λ x. has_row x (tables_of s).definitions) q ∙ n in cc))
      apart_from y (inr o) r n =
          same_name-not y u.name (λ q. (let z : true ≡ false = sym o ∙ ap (λ x. has_row x operator_rows) q ∙ or_left (has_row u.name operator_rows) (same_name u.name default_init_value) r in cc))

  -- it is no name that has a meaning everywhere
  pub named_uncommon : (u : Use) → NamedFacts u → knows_self u.around.home ≡ true → Common u.name → ⊥
  named_uncommon u f h (inl e) = go (or_in (has_row u.name (tables_of s).constants || has_row u.name operator_rows) (same_name u.name default_init_value) e)
    where
      second : (has_row u.name (tables_of s).constants ≡ true) ⊎ (has_row u.name operator_rows ≡ true) → ⊥
      second (inl g) = let z : true ≡ false = sym g ∙ f.no_constant in cc
      second (inr g) = let z : true ≡ false = sym g ∙ or_left (has_row u.name operator_rows) (same_name u.name default_init_value) f.no_reserved in cc

      go : (has_row u.name (tables_of s).constants || has_row u.name operator_rows ≡ true) ⊎ (same_name u.name default_init_value ≡ true) → ⊥
      go (inl g) = second (or_in (has_row u.name (tables_of s).constants) (has_row u.name operator_rows) g)
      go (inr g) = let z : true ≡ false = sym g ∙ or_right (has_row u.name operator_rows) (same_name u.name default_init_value) f.no_reserved in cc
  named_uncommon u f h (inr (inl e)) = let z : true ≡ false = sym e ∙ f.no_definition in cc
  named_uncommon u f h (inr (inr e)) =
      let z : true ≡ false = sym (ap (λ x. same_name x self_name) e ∙ same_name-self self_name) ∙ f.no_self h in cc

  -- ---- names that may stand in a unit, whose parameters and locals are qs
  abbrev pub Known' : List Name → List Name → Name → Type 0
  Known' qs ns x = ((is_among x ns ≡ true) × D x) ⊎ (is_among x qs ≡ true)

  abbrev pub Inside : List Name → List Name → Name → Type 0
  Inside qs ns x = Known' qs ns x ⊎ Common x

  abbrev pub InStatements : Home → Type 0
  InStatements home = (x : Name) → means (tables_of s) s.archetypes home x ≡ is_common (tables_of s) x || same_name x self_name

  pub inside_name : (home : Home) → InStatements home → (qs ns : List Name) (u : Use) → FineUse s u → u.around.home ≡ home → u.form ≡ forms.Alone → (u.inner ≡ true → Known' qs ns u.name) → Inside qs ns u.name
  inside_name home in' qs ns u f h e inner = go u.inner refl
    where
      go : (b : Bool) → u.inner ≡ b → Inside qs ns u.name
      go true j = inl (inner j)
      go false j =
          let m = sym (in' u.name) ∙ subst (λ z. means (tables_of s) s.archetypes z u.name ≡ true) h (alone_means s k fit of_text u f e j) in
          inr (common_here s k fit of_text u.name m (alone_no_global s k fit of_text u f e j))

  -- names in an argument of a call, whatever its place
  first_tells : (home : Home) → InStatements home → (passed : Bool) (qs ns : List Name) → Tells (FineUse s) home passed (λ h i. Inside qs ns) C B (Known' qs ns)
  first_tells home in' passed qs ns = record {
    alone = λ u f w e inner. inside_name home in' qs ns u f w.0 e inner;
    applied = λ u n f w e. applied_is s k fit of_text u n f e;
    binds = λ u f w e. bound_bindable u f e;
  }

  pub argument_first : (home : Home) → InStatements home → (qs ns ms : List Name) (a : Around) (t : Tree) → IsAt home false a → (a.hidden ≡ false) × (a.indexed ≡ false) → Known (Known' qs ns) ms [] → Spoken t → AllByRecursion (FineUse s) (uses ms (as_passed a) t) → Stands (λ h i. Inside qs ns) C B [] false false t
  argument_first home in' qs ns ms a t w f v s' h =
      subst (λ i. Stands (λ h i. Inside qs ns) C B [] false i t) f.1 (subst (λ i. Stands (λ h i. Inside qs ns) C B [] i a.indexed t) f.0 (stands (FineUse s) home true (λ h i. Inside qs ns) C B (Known' qs ns) (first_tells home in' true qs ns) ms [] (as_passed a) t (w.0, refl) v s' h))

  -- ---- a unit's statements
  module _ (home : Home) (in' : InStatements home) (qs : List Name) (P : Use → Type 0) (N : List Name → Bool → Bool → Name → Type 0) (W : Name → Type 0) (A : List Name → Shape → Name → Type 0) (M : List Name → PlacedName → List Tree → Type 0) (Y : Type 0) (J : Bool → Bool → Name → Type 0) where
    pub record UnitRules : Type 0 where
      pub fine : (u : Use) → P u → FineUse s u
      pub reads : (u : Use) → P u → IsAt home false u.around → u.form ≡ forms.Alone → J u.around.hidden u.around.indexed u.name
      pub names : (ns : List Name) (h i : Bool) (x : Name) → Inside qs ns x → J h i x → N ns h i x
      pub with_of : (x : Name) → D x → is_among x qs ≡ false → W x
      pub declared : (x : Name) → W x → D x
      pub assigned : (ns : List Name) (u : Use) (h : Shape) → P u → IsAt home false u.around → u.form ≡ forms.Assigned h → (u.inner ≡ true → Known' qs ns u.name) → A ns h u.name
      pub called : (ns ms : List Name) (a : Around) (m : PlacedName) (ts : List Tree) → P (record { name = m.name; form = forms.Called ts; inner = is_among m.name ms; around = at_place m.place a }) → IsAt home false a → (a.hidden ≡ false) × (a.indexed ≡ false) → Known (Known' qs ns) ms [] → Within qs ms → ArgumentsSpoken ts → AllByRecursion P (argument_uses ms (as_passed (at_place m.place a)) ts) → M ns m ts

    module _ (rules : UnitRules) where
      expressions : (ns : List Name) → Tells P home false (N ns) C B (Known' qs ns)
      expressions ns = record {
        alone = λ u p w e inner. rules.names ns u.around.hidden u.around.indexed u.name (inside_name home in' qs ns u (rules.fine u p) w.0 e inner) (rules.reads u p w e);
        applied = λ u n p w e. applied_is s k fit of_text u n (rules.fine u p) e;
        binds = λ u p w e. bound_bindable u (rules.fine u p) e;
      }

      older : (x y : Name) (ns : List Name) → Known' qs ns y → Known' qs (x ∷ ns) y
      older x y ns (inl e) = inl (or_second (same_name y x) (is_among y ns) e.0, e.1)
      older x y ns (inr e) = inr e

      pub tells_all : TellsAll P home qs N C B W A M Y (Known' qs)
      tells_all = record {
        expressions = expressions;
        assigned = rules.assigned;
        named = λ u p w e fresh. (let f = named_facts u (rules.fine u p) e in rules.with_of u.name f.declared (fresh f.fresh));
        called = rules.called;
        newest = λ x ns w. inl (or_first (same_name x x) (is_among x ns) (same_name-self x), rules.declared x w);
        older = older;
      }
