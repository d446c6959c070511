-- The blocks of mapping macros have well-formed names.
use Rattle.std.proofs.Common.{◌≡◌, Bool, true, false, ◌||◌, nat_eq, if◌then◌else◌, List, [], ◌∷◌, ◌++◌, map, Some, None, refl, ap, sym, ◌∙◌, subst, inl, inr, arith}
use Rattle.std.specs.Prelude.{◌⊎◌, flat_map}
use Rattle.std.specs.List.{AllByRecursion}
use Rattle.pgo_base.specs.Lookup.{Name, same_name, find}
use Rattle.pgo_base.specs.Tree.{Tree}
use Rattle.pgo_model.specs.Names.{same_name-is, same_name-not, is_among}
use Rattle.pgo_syntax.specs.Statement.{labeled}
use Rattle.pgo_syntax.specs.declared.bound.Mapping.{Mapping}
use Rattle.pgo_syntax.specs.declared.bound.Mapping.TheVariants.{Identity, Macro}
use Rattle.pgo_syntax.specs.declared.macros.MappingMacro.{MappingMacro}
use Rattle.pgo_syntax.specs.declared.name.PlacedName.{PlacedName}
use Rattle.pgo_syntax.specs.declared.spec.Spec.{Spec}
use Rattle.pgo_uses.specs.AllUses.{start, mapping_uses}
use Rattle.pgo_uses.specs.StatementUses.{uses_of_block}
use Rattle.pgo_uses.specs.Tables.{all_definitions, operator_rows, variable_name, value_name}
use Rattle.pgo_uses.specs.declared.uses.Home.TheVariants as homes
use Rattle.pgo_uses.specs.declared.uses.Shape.{Shape}
use Rattle.pgo_uses.specs.declared.uses.Use.{Use}
use Rattle.pgo_labels.specs.Labels.{labels_of}
use Rattle.pgo_labels.specs.Inside.{Item, with_inside}
use Rattle.pgo_labels.specs.Rules.{found_at, labels_here, label_in_mapping}
use Rattle.pgo_labels.specs.declared.errors.LabelError.TheVariants.{LabelHere}
use Rattle.pgo_bound.specs.Among.{IsAmong, among_left, among_right, all_at, empty_map, none_left, none_right, none_flat_map}
use Rattle.pgo_bound.specs.Sound.{labels_among}
use Rattle.pgo_bound.specs.Different.{all_from}
use Rattle.pgo_accept.proofs.Unlabelled.{names_of_body}
use Rattle.pgo_accept.proofs.Fitting.{ArgumentsFit}
use Rattle.pgo_sections.specs.Code.{Place, Whole, content_name, content_places}
use Rattle.pgo_sections.specs.WellFormed.{NotMade, PlainCode}
use Rattle.pgo_meaning.specs.Parameters.{block_setting, block_code, reads_by, writes_by}
use Rattle.pgo_agrees.specs.Accepted.{IsOfText, MappingOfText, DefinitionOfText, DeclarationOfText, ProcessOfText}
use Rattle.pgo_agrees.specs.Spoken.{LabeledSpoken}
use Rattle.pgo_agrees.proofs.Closed.{apart}
use Rattle.pgo_agrees.proofs.Env.{C, B, D, Known', Inside, InStatements, place_apart, UnitRules, tells_all}
use Rattle.pgo_agrees.proofs.Fine.{LabeledFine}
use Rattle.pgo_agrees.proofs.FineUses.{labeled_fine}
use Rattle.pgo_agrees.proofs.GoodCode.{CodeRules, order_good}
use Rattle.pgo_agrees.proofs.Hoist.{InScope, Hoistable, never}
use Rattle.pgo_agrees.proofs.Kept.{NoFindings}
use Rattle.pgo_agrees.proofs.Meanings.{common_apart, common_single, applicable_apart, applicable_single, applicable_not_self, defined_row, row_test}
use Rattle.pgo_agrees.proofs.Names.{and_left, single, written_marked, has_mark, identifier_bytes}
use Rattle.pgo_agrees.proofs.Unlabelled.{placed_name}
use Rattle.pgo_agrees.proofs.Uses.{FineUse, fine_use, of_mapping}
use Rattle.pgo_agrees.proofs.Further.{IsTaken, names_written, is_proc_set, is_terminating, is_process, is_written}
use Rattle.pgo_agrees.proofs.Variables.{is_global, is_place, is_own}
use Rattle.pgo_model.specs.ValueText.{is_word_byte, all_word_bytes}

-- `$`: no identifier begins with it
abbrev pub dollar_first : Name → Bool
dollar_first [] = false
dollar_first (b ∷ bs) = nat_eq b 36

pub bytes_no_dollar : (x : Name) → all_word_bytes x ≡ true → dollar_first x ≡ false
bytes_no_dollar [] h = refl
bytes_no_dollar (b ∷ bs) h = go (nat_eq b 36) refl
  where
    go : (c : Bool) → nat_eq b 36 ≡ c → nat_eq b 36 ≡ false
    go false e = e
    go true e =
        absurd (let f : b ≡ 36 = grind (arith, e) in let g : is_word_byte b ≡ false = ap is_word_byte f in let q : true ≡ false = sym (and_left (is_word_byte b) (all_word_bytes bs) h) ∙ g in cc)

no_dollar_operators : AllByRecursion (λ r. dollar_first r.0 ≡ false) operator_rows
no_dollar_operators = (refl, (refl, (refl, (refl, (refl, (refl, (refl, (refl, tt))))))))

abbrev given_names : List Name
given_names = variable_name ∷ value_name ∷ []

module _ (s : Spec) (k : NoFindings s) (fit : AllByRecursion (ArgumentsFit s.archetypes) s.processes) (of_text : IsOfText s) where
  abbrev vs : List Name
  vs = names_written s

  dollar_apart : (x y : Name) → C s k fit of_text x → dollar_first y ≡ true → same_name x y ≡ false
  dollar_apart x y c h = same_name-not x y (λ e. (let q : true ≡ false = sym h ∙ sym (ap dollar_first e) ∙ none x c in cc))
    where
      none : (x : Name) → C s k fit of_text x → dollar_first x ≡ false
      none x (inr e) = row_test dollar_first x operator_rows no_dollar_operators e
      none x (inl e) =
          let d = defined_row x (all_definitions s) e in
          let t = all_at DefinitionOfText d.0 (all_definitions s) of_text.definitions d.1 in
          ap dollar_first d.2 ∙ bytes_no_dollar d.0.name.name (identifier_bytes d.0.name.name t.0)

  -- `$value` is none of these
  value_apart : is_among value_name vs ≡ false
  value_apart = apart s k fit of_text value_name not_here
    where
      not_here : IsTaken s value_name → ⊥
      not_here (inl (is_global d a e)) =
          let t = all_at DeclarationOfText d s.globals of_text.globals a in
          let n = bytes_no_dollar d.name.name (identifier_bytes d.name.name t.0) in
          let q : true ≡ false = ap dollar_first e ∙ n in cc
      not_here (inl (is_place e)) = let q : true ≡ false = ap dollar_first e in cc
      not_here (inl (is_own p a y b e n q)) = let z : false ≡ true = ap has_mark q ∙ written_marked p.name.name y in cc
      not_here (inr (is_proc_set e)) = let q : true ≡ false = ap dollar_first e in cc
      not_here (inr (is_terminating e)) = let q : true ≡ false = ap dollar_first e in cc
      not_here (inr (is_process p a e)) =
          let t = all_at ProcessOfText p s.processes of_text.processes a in
          let n = bytes_no_dollar p.name.name (identifier_bytes p.name.name t.0) in
          let q : true ≡ false = ap dollar_first e ∙ n in cc
      not_here (inr (is_written p y a b e)) = let z : false ≡ true = ap has_mark e ∙ written_marked p.name.name y in cc

  abbrev BlockName : List Name → Bool → Bool → Name → Type 0
  BlockName ns h i x = NotMade x × ((is_among x ns ≡ true) ⊎ (((p : Place) × (find x content_places ≡ Some p)) ⊎ (is_among x vs ≡ false)))

  abbrev BlockAssigned : List Name → Shape → Name → Type 0
  BlockAssigned ns h x = NotMade x

  abbrev Any : List Name → PlacedName → List Tree → Type 0
  Any ns m ts = Unit {0}

  abbrev Always : Bool → Bool → Name → Type 0
  Always h i x = Unit {0}

  statements : InStatements s k fit of_text homes.Mapping
  statements x = refl

  given : (x : Name) → is_among x given_names ≡ true → (x ≡ variable_name) ⊎ (x ≡ value_name)
  given x h = go (same_name x variable_name) refl h
    where
      second : (b : Bool) → same_name x value_name ≡ b → (b || false) ≡ true → (x ≡ variable_name) ⊎ (x ≡ value_name)
      second true e g = inr (same_name-is x value_name e)
      second false e g = absurd (cc)

      go : (b : Bool) → same_name x variable_name ≡ b → (b || (same_name x value_name || false)) ≡ true → (x ≡ variable_name) ⊎ (x ≡ value_name)
      go true e g = inl (same_name-is x variable_name e)
      go false e g = second (same_name x value_name) refl g

  block_name : (ns : List Name) (h i : Bool) (x : Name) → Inside s k fit of_text given_names ns x → Unit {0} → BlockName ns h i x
  block_name ns h i x (inl (inl e)) u = (single x e.1.0, inl e.0)
  block_name ns h i x (inl (inr e)) u = by (given x e)
    where
      by : (x ≡ variable_name) ⊎ (x ≡ value_name) → BlockName ns h i x
      by (inl f) = subst (λ y. BlockName ns h i y) (sym f) (single variable_name refl, inr (inl (Whole content_name, refl)))
      by (inr f) = subst (λ y. BlockName ns h i y) (sym f) (single value_name refl, inr (inr value_apart))
  block_name ns h i x (inr c) u =
      (common_single s k fit of_text x c, inr (inr (apart s k fit of_text x (common_apart s k fit of_text x c))))

  rules : UnitRules s k fit of_text homes.Mapping statements given_names (FineUse s) BlockName (D s k fit of_text) BlockAssigned Any (Unit {0}) Always
  rules = record {
    fine = λ u f. f;
    reads = λ u f w e. tt;
    names = block_name;
    with_of = λ x d m. d;
    declared = λ x d. d;
    assigned = λ ns u h f w e inner. single u.name f.double;
    called = λ ns ms a m ts f w i v u s' h. tt;
  }

  -- names stand so in a block without labels
  block_fine : (m : MappingMacro) → IsAmong m s.mappings → (b : List Item) → labels_among (labeled b) ≡ [] → LabeledSpoken (Unit {0}) (labeled b)
      → ((u : Use) → IsAmong u (uses_of_block given_names (start homes.Mapping m.name.place) (labeled b)) → IsAmong u (mapping_uses m))
      → LabeledFine BlockName (C s k fit of_text) (B s k fit of_text) (D s k fit of_text) BlockAssigned Any (Unit {0}) false [] (labeled b)
  block_fine m a b none spoken there =
      labeled_fine (FineUse s) homes.Mapping given_names BlockName (C s k fit of_text) (B s k fit of_text) (D s k fit of_text) BlockAssigned Any (Unit {0}) (Known' s k fit of_text given_names) (tells_all s k fit of_text homes.Mapping statements given_names (FineUse s) BlockName (D s k fit of_text) BlockAssigned Any (Unit {0}) Always rules) (labeled b) false given_names [] (start homes.Mapping m.name.place) none (refl, refl) (refl, refl) (record { known = λ x e. inr (inr e); unit = λ x e. e }) spoken (all_from (FineUse s) (uses_of_block given_names (start homes.Mapping m.name.place) (labeled b)) (λ u c. fine_use s k u (of_mapping s m a u (there u c))))

  hoistable : (ns : List Name) → Hoistable vs [] content_places ns (BlockName ns) (C s k fit of_text) (B s k fit of_text)
  hoistable ns = record {
    none = λ h i x n e. n;
    element = λ h x m n e f. absurd (let q : None ≡ Some m = e in cc);
    bound = λ x b. b;
    applied = λ x c. (
      applicable_single s k fit of_text x c,
      apart s k fit of_text x (applicable_apart s k fit of_text x c),
      ap (λ b. if b then Some (Whole content_name) else None) (dollar_apart x content_name c refl),
      applicable_not_self s k fit of_text x c,
    );
  }

  code_rules : CodeRules vs (content_name ∷ []) block_setting (λ g. false) BlockName (C s k fit of_text) (B s k fit of_text) (D s k fit of_text) BlockAssigned Any (Unit {0})
  code_rules = record {
    hoistable = hoistable;
    assigned_element = λ ns h x m a e f. absurd (let q : None ≡ Some m = e in cc);
    assigned_single = λ ns h x a. a;
    mapped_global = λ x m e. absurd (let q : None ≡ Some m = e in cc);
    mapped_whole = λ x m e f. refl;
    mapped_reads = λ x m e. absurd (let q : None ≡ Some m = e in cc);
    mapped_writes = λ x m e. absurd (let q : None ≡ Some m = e in cc);
    places = λ x p e. refl;
    with_apart = λ x y d c. d.1 y c;
    place_apart = place_apart s k fit of_text;
    yields = λ y x. refl;
    block = λ e x. refl;
    content = λ e. refl;
  }

  block_plain : (ws : List Name) (b : List Item) → InScope [] (C s k fit of_text) ws 0 → LabeledFine BlockName (C s k fit of_text) (B s k fit of_text) (D s k fit of_text) BlockAssigned Any (Unit {0}) false [] (labeled b) → PlainCode vs (content_name ∷ []) content_places ws (block_code b)
  block_plain ws b z h =
      (order_good vs (content_name ∷ []) block_setting (λ g. false) BlockName (C s k fit of_text) (B s k fit of_text) (D s k fit of_text) BlockAssigned Any (Unit {0}) code_rules (labeled b) false [] ws [] h z).0

  no_names : InScope [] (C s k fit of_text) [] 0
  no_names = record { names = λ x h. never h; places = λ j h. absurd (omega (arith, h)); apart = λ x c. refl }

  value_bound : InScope [] (C s k fit of_text) (value_name ∷ []) 0
  value_bound = record {
    names = λ x h. never h;
    places = λ j h. absurd (omega (arith, h));
    apart = λ x c. ap (λ b. b || false) (dollar_apart x value_name c refl);
  }

  no_label : (owner : Name) (b : List Item) → labels_here owner (labels_of (with_inside b)) ≡ [] → labels_among (labeled b) ≡ []
  no_label owner b h =
      sym (names_of_body b) ∙ ap (map placed_name) (empty_map (λ l. found_at l.place (LabelHere owner l.name)) (labels_of (with_inside b)) h)

  pub blocks_plain : flat_map label_in_mapping s.mappings ≡ [] → (m : MappingMacro) → IsAmong m s.mappings → PlainCode vs (content_name ∷ []) content_places [] (reads_by (Macro m)) × PlainCode vs (content_name ∷ []) content_places (value_name ∷ []) (writes_by (Macro m))
  blocks_plain labels m a =
      let at' = start homes.Mapping m.name.place in
      let rs = uses_of_block given_names at' (labeled m.read) in
      let ws = uses_of_block given_names at' (labeled m.write) in
      let text = all_at MappingOfText m s.mappings of_text.mappings a in
      let found = none_flat_map label_in_mapping m s.mappings labels a in
      let both = empty_map (λ l. found_at l.place (LabelHere m.name.name l.name)) (labels_of (with_inside m.read) ++ labels_of (with_inside m.write)) found in
      let left = ap (λ ls. labels_here m.name.name ls) (none_left (labels_of (with_inside m.read)) (labels_of (with_inside m.write)) both) in
      let right = ap (λ ls. labels_here m.name.name ls) (none_right (labels_of (with_inside m.read)) (labels_of (with_inside m.write)) both) in (
        block_plain [] m.read no_names (block_fine m a m.read (no_label m.name.name m.read left) text.0 (λ u b. among_left u rs ws b)),
        block_plain (value_name ∷ []) m.write value_bound (block_fine m a m.write (no_label m.name.name m.write right) text.1 (λ u b. among_right u rs ws b)),
      )

  pub mapping_plain : flat_map label_in_mapping s.mappings ≡ [] → (q : Mapping) → ((m : MappingMacro) → q ≡ Macro m → IsAmong m s.mappings) → PlainCode vs (content_name ∷ []) content_places [] (reads_by q) × PlainCode vs (content_name ∷ []) content_places (value_name ∷ []) (writes_by q)
  mapping_plain labels Identity f = ((single content_name refl, inr (inl (Whole content_name, refl))), (single value_name refl, inl refl))
  mapping_plain labels (Macro m) f = blocks_plain labels m (f m refl)
