-- The expansions of a process's labels are well formed, where its specification's text is.
use Rattle.std.proofs.Common.{◌≡◌, ◌≤◌, ℕ, suc, Bool, true, false, ◌||◌, inl, inr, if◌then◌else◌, List, [], ◌∷◌, map, Option, Some, None, option_map, refl, ◌∙◌, subst, arith}
use Rattle.std.specs.List.{AllByRecursion}
use Rattle.pgo_base.specs.Lookup.{Name, same_name, find}
use Rattle.pgo_model.specs.Options.{on}
use Rattle.pgo_expr_write.specs.WellFormed.{IsName}
use Rattle.pgo_syntax.specs.Statement.{labeled}
use Rattle.pgo_syntax.specs.declared.archetype.Archetype.{Archetype}
use Rattle.pgo_syntax.specs.declared.archetype.Extent.{Extent}
use Rattle.pgo_syntax.specs.declared.archetype.Extent.TheVariants.{Whole as WholeExtent, Element}
use Rattle.pgo_syntax.specs.declared.archetype.Parameter.{Parameter}
use Rattle.pgo_syntax.specs.declared.bound.Mapping.{Mapping}
use Rattle.pgo_syntax.specs.declared.bound.Mapping.TheVariants.{Identity, Macro}
use Rattle.pgo_syntax.specs.declared.bound.Target.TheVariants as targets
use Rattle.pgo_syntax.specs.declared.declaration.Declaration.{Declaration}
use Rattle.pgo_syntax.specs.declared.macros.MappingMacro.{MappingMacro}
use Rattle.pgo_syntax.specs.declared.process.Argument.{Argument}
use Rattle.pgo_syntax.specs.declared.process.Argument.TheVariants as arguments
use Rattle.pgo_syntax.specs.declared.process.MappingClause.{MappingClause}
use Rattle.pgo_syntax.specs.declared.process.Process.{Process}
use Rattle.pgo_syntax.specs.declared.spec.Spec.{Spec}
use Rattle.pgo_bound.specs.Runs.{Handed, handed_from, archetype_named, mapping_named, mapping_by, speaking, binding_of, target_of}
use Rattle.pgo_bound.specs.State.{variables_of}
use Rattle.pgo_labels.specs.YieldRule.{keeps_yield_rule}
use Rattle.pgo_sections.specs.Access.{MappedNames}
use Rattle.pgo_model.specs.Names.{is_among}
use Rattle.pgo_sections.specs.Code.{Place, Whole, variable_of, Code, content_name, content_places, value_name}
use Rattle.pgo_sections.specs.Expand.{expansion}
use Rattle.pgo_sections.specs.Expansion.{Expansion}
use Rattle.pgo_sections.specs.Nodes.{nodes}
use Rattle.pgo_meaning.specs.Expansions.{expansions_of, process_bindings, process_expansions}
use Rattle.pgo_meaning.specs.LabelSections.{AreUnlabelled}
use Rattle.pgo_meaning.specs.MacrosPlaced.{bodies, placed_among}
use Rattle.pgo_meaning.specs.Parameters.{block_setting, reads_by, writes_by, mapped_of, all_mapped, place_of, parameter_places, local_places, places_of, setting_of}
use Rattle.pgo_meaning.specs.Sections.{sections_of}
use Rattle.pgo_agrees.proofs.EachToken.{all_joined}
use Rattle.pgo_written.specs.FormedCode.{IsShort, IsBase, Alone, CodeFormed, ExpansionFormed}
use Rattle.pgo_written.specs.FormedSpec.{NameShort, DeclarationFormed, MacroFormed, MappingFormed, ParameterFormed, ArchetypeFormed, ArgumentFormed, ProcessFormed, SpecFormed}
use Rattle.pgo_written.specs.FormedStatements.{Known}
use Rattle.pgo_written.proofs.FormedExpansion.{PlacesNamed, expansion_formed}
use Rattle.pgo_written.proofs.FormedMacros.{body_placed}
use Rattle.pgo_written.proofs.FormedReads.{MappedFormed, AllMapped, InScope}
use Rattle.pgo_written.proofs.FormedSections.{SettingFormed, order_good, sections_good}
use Rattle.pgo_written.proofs.Unmentioned.{read_without_value}
use Rattle.pgo_written.proofs.WrittenNames.{short_base, short_name, base_name, written_base, name_text}

-- ---- mapping macros

block_formed : SettingFormed block_setting
block_formed = record { process = refl; mapped = λ x m e. absurd (cc); places = λ x p b e. absurd (cc) }

-- `$variable` has a place in a block, and `$value` is bound in a `write`
content_stands : (ws : List Name) (x : Name) (b : Bool) → same_name x content_name ≡ b → b ≡ true → Alone content_places ws x
content_stands ws x b e h = inr (inr (Whole content_name, found (same_name x content_name) (e ∙ h)))
  where
    found : (c : Bool) → c ≡ true → (if c then Some (Whole content_name) else None) ≡ Some (Whole content_name)
    found true k = refl
    found false k = absurd (cc)

read_scope : InScope content_places (Known (content_name ∷ [])) [] 0
read_scope = record { names = names; places = λ j h. absurd (omega (arith, h)) }
  where
    names : (x : Name) → Known (content_name ∷ []) x → Alone content_places [] x
    names x (inl n) = inl n
    names x (inr h) = go (same_name x content_name) refl h
      where
        go : (b : Bool) → same_name x content_name ≡ b → b || false ≡ true → Alone content_places [] x
        go true e k = content_stands [] x true e refl
        go false e k = absurd (cc)

write_scope : InScope content_places (Known (content_name ∷ value_name ∷ [])) (value_name ∷ []) 0
write_scope = record { names = names; places = λ j h. absurd (omega (arith, h)) }
  where
    names : (x : Name) → Known (content_name ∷ value_name ∷ []) x → Alone content_places (value_name ∷ []) x
    names x (inl n) = inl n
    names x (inr h) = go (same_name x content_name) refl h
      where
        go : (b : Bool) → same_name x content_name ≡ b → b || (is_among x (value_name ∷ [])) ≡ true → Alone content_places (value_name ∷ []) x
        go true e k = content_stands (value_name ∷ []) x true e refl
        go false e k = inr (inl k)

abbrev Blocks : Mapping → Type 0
Blocks q = CodeFormed content_places [] (reads_by q) × CodeFormed content_places (value_name ∷ []) (writes_by q)

identity_blocks : Blocks Identity
identity_blocks = (inr (inr (Whole content_name, refl)), inr (inl refl))

macro_blocks : (m : MappingMacro) → MappingFormed m → keeps_yield_rule m ≡ true → Blocks (Macro m)
macro_blocks m f y =
    (order_good block_setting block_formed (labeled m.read) true true (content_name ∷ []) [] [] refl (read_without_value m y f.0) read_scope, order_good block_setting block_formed (labeled m.write) true true (content_name ∷ value_name ∷ []) (value_name ∷ []) [] refl f.1 write_scope)

abbrev pub AllYield : List MappingMacro → Type 0
AllYield ms = AllByRecursion (λ m. keeps_yield_rule m ≡ true) ms

abbrev IfBlocks : Option Mapping → Type 0
IfBlocks None = Unit {0}
IfBlocks (Some q) = Blocks q

named_blocks : (x : Name) (ms : List MappingMacro) → AllByRecursion MappingFormed ms → AllYield ms → IfBlocks (option_map Macro (mapping_named x ms))
named_blocks x [] f y = tt
named_blocks x (m ∷ ms) f y = go (same_name x m.name.name) (named_blocks x ms f.1 y.1)
  where
    go : (b : Bool) → IfBlocks (option_map Macro (mapping_named x ms)) → IfBlocks (option_map Macro (if b then Some m else mapping_named x ms))
    go true r = macro_blocks m f.0 y.0
    go false r = r

-- ---- what is handed to parameters

abbrev pub HandedFormed : Handed → Type 0
HandedFormed h = NameShort h.parameter.name × ArgumentFormed h.argument

pub handed_formed : (n : ℕ) (ps : List Parameter) (as' : List Argument) → AllByRecursion ParameterFormed ps → AllByRecursion ArgumentFormed as' → AllByRecursion HandedFormed (handed_from n ps as')
handed_formed n [] as' f g = tt
handed_formed n (p ∷ ps) [] f g = tt
handed_formed n (p ∷ ps) (a ∷ as') f g = ((f.0, g.0), handed_formed (suc n) ps as' f.1 g.1)

module _ (s : Spec) (f : AllByRecursion MappingFormed s.mappings) (y : AllYield s.mappings) where
  mapping_blocks : (e : Extent) (cs : List MappingClause) → IfBlocks (mapping_by s e cs)
  mapping_blocks e (c ∷ cs) = named_blocks c.mapping.name s.mappings f y
  mapping_blocks Element [] = identity_blocks
  mapping_blocks WholeExtent [] = tt

  abbrev EachMapped : MappedNames → Type 0
  EachMapped ms = AllByRecursion (λ m. MappedFormed m.1) ms

  mapped_each : (cs : List MappingClause) (hs : List Handed) → AllByRecursion HandedFormed hs → EachMapped (all_mapped (map (binding_of s cs) hs))
  mapped_each cs [] g = tt
  mapped_each cs (h ∷ hs) g = go h.argument g.0.1 (mapped_each cs hs g.1)
    where
      go : (a : Argument) → ArgumentFormed a → EachMapped (all_mapped (map (binding_of s cs) hs)) → EachMapped (mapped_of h.parameter.name.name (target_of s cs h.number a) (all_mapped (map (binding_of s cs) hs)))
      go (arguments.Value place e) k more = more
      go (arguments.Ref x e) k more = by (mapping_by s e (speaking h.number x.name cs)) (mapping_blocks e (speaking h.number x.name cs))
        where
          by : (o : Option Mapping) → IfBlocks o → EachMapped (mapped_of h.parameter.name.name (targets.Global x.name e o) (all_mapped (map (binding_of s cs) hs)))
          by None b = more
          by (Some q) b = (record { global = short_base x.name k; reads = b.0; writes = b.1 }, more)

  abbrev EachPlace : List (Name × Place) → Type 0
  EachPlace ps = AllByRecursion (λ q. IsBase (variable_of q.1)) ps

  places_each : (p : Name) → IsShort p → (cs : List MappingClause) (hs : List Handed) → AllByRecursion HandedFormed hs → EachPlace (parameter_places p (map (binding_of s cs) hs))
  places_each p short cs [] g = tt
  places_each p short cs (h ∷ hs) g = go h.argument g.0.1 (places_each p short cs hs g.1)
    where
      go : (a : Argument) → ArgumentFormed a → EachPlace (parameter_places p (map (binding_of s cs) hs)) → EachPlace (place_of p h.parameter.name.name (target_of s cs h.number a) (parameter_places p (map (binding_of s cs) hs)))
      go (arguments.Value place e) k more = (written_base p h.parameter.name.name short g.0.0, more)
      go (arguments.Ref x e) k more = by (mapping_by s e (speaking h.number x.name cs))
        where
          by : (o : Option Mapping) → EachPlace (place_of p h.parameter.name.name (targets.Global x.name e o) (parameter_places p (map (binding_of s cs) hs)))
          by None = (short_base x.name k, more)
          by (Some q) = more

  locals_each : (p : Name) → IsShort p → (ds : List Declaration) → AllByRecursion DeclarationFormed ds → EachPlace (local_places p ds)
  locals_each p short [] g = tt
  locals_each p short (d ∷ ds) g = (written_base p d.name.name short g.0.0, locals_each p short ds g.1)

  found_place : (ps : List (Name × Place)) → EachPlace ps → (x : Name) (q : Place) → find x ps ≡ Some q → IsBase (variable_of q)
  found_place [] h x q e = absurd (cc)
  found_place (p ∷ ps) h x q e = go (same_name x p.0) e (found_place ps h.1 x q)
    where
      go : (b : Bool) → (if b then Some p.1 else find x ps) ≡ Some q → (find x ps ≡ Some q → IsBase (variable_of q)) → IsBase (variable_of q)
      go true k more = let same : p.1 ≡ q = cc in subst (λ (z : Place). IsBase (variable_of z)) same h.0
      go false k more = more k

  found_mapped : (ms : MappedNames) → EachMapped ms → AllMapped ms
  found_mapped [] h x m e = absurd (cc)
  found_mapped (p ∷ ms) h x m e = go (same_name x p.0) e (found_mapped ms h.1 x m)
    where
      go : (b : Bool) → (if b then Some p.1 else find x ms) ≡ Some m → (find x ms ≡ Some m → MappedFormed m) → MappedFormed m
      go true k more = let same : p.1 ≡ m = cc in subst MappedFormed same h.0
      go false k more = more k

  -- ---- a process
  module _ (macros : AllByRecursion MacroFormed s.macros) (unlabelled : AreUnlabelled s.macros) (p : Process) (g : ProcessFormed p) (a : Archetype) (h : ArchetypeFormed a) where
    hands : AllByRecursion HandedFormed (handed_from 1 a.params p.arguments)
    hands = handed_formed 1 a.params p.arguments h.0 g.2

    each_place : EachPlace (places_of p.name.name a (process_bindings s p a))
    each_place = all_joined _ (parameter_places p.name.name (process_bindings s p a)) (local_places p.name.name a.locals) (places_each p.name.name g.0 p.clauses (handed_from 1 a.params p.arguments) hands) (locals_each p.name.name g.0 a.locals h.1)

    setting : SettingFormed (setting_of p.name.name a (process_bindings s p a))
    setting = record {
      process = name_text p.name.name (short_name p.name.name g.0);
      mapped = found_mapped (all_mapped (process_bindings s p a)) (mapped_each p.clauses (handed_from 1 a.params p.arguments) hands);
      places = λ x q b e. found_place (places_of p.name.name a (process_bindings s p a)) each_place x q e;
    }

    abbrev SectionFormed : Name × Code → Type 0
    SectionFormed c = IsName c.0 × CodeFormed (places_of p.name.name a (process_bindings s p a)) [] c.1

    sections : AllByRecursion SectionFormed (sections_of s.macros p.name.name a (process_bindings s p a))
    sections = sections_good (setting_of p.name.name a (process_bindings s p a)) setting g.0 (placed_among (bodies s.macros) (labeled a.body)) false true (body_placed s.macros (labeled a.body) macros unlabelled h.2)

    named : PlacesNamed (places_of p.name.name a (process_bindings s p a))
    named x q e = base_name (variable_of q) (found_place (places_of p.name.name a (process_bindings s p a)) each_place x q e)

    abbrev expanded : List (Name × Code) → List (Name × Expansion)
    expanded cs = map (λ c. (c.0, expansion (variables_of s) (places_of p.name.name a (process_bindings s p a)) c.1)) cs

    each_expanded : (cs : List (Name × Code)) → AllByRecursion SectionFormed cs → AllByRecursion (λ c. nodes c.1 ≤ 1048576) (expanded cs) → AllByRecursion (λ c. IsName c.0 × ExpansionFormed c.1) (expanded cs)
    each_expanded [] k n = tt
    each_expanded (c ∷ cs) k n =
        ((k.0.0, expansion_formed (variables_of s) (places_of p.name.name a (process_bindings s p a)) c.1 named k.0.1 n.0), each_expanded cs k.1 n.1)

  pub archetype_formed : (x : Name) (as' : List Archetype) → AllByRecursion ArchetypeFormed as' → (a : Archetype) → archetype_named x as' ≡ Some a → ArchetypeFormed a
  archetype_formed x [] h a e = absurd (cc)
  archetype_formed x (b ∷ bs) h a e = go (same_name x b.name.name) e (archetype_formed x bs h.1 a)
    where
      go : (c : Bool) → (if c then Some b else archetype_named x bs) ≡ Some a → (archetype_named x bs ≡ Some a → ArchetypeFormed a) → ArchetypeFormed a
      go true k more = let same : b ≡ a = cc in subst ArchetypeFormed same h.0
      go false k more = more k

-- a label's expansion stands under an identifier, and is well formed
abbrev pub LabelExpanded : Name × Expansion → Type 0
LabelExpanded c = IsName c.0 × ExpansionFormed c.1

pub process_formed : (s : Spec) → SpecFormed s → AllYield s.mappings → AreUnlabelled s.macros → (p : Process) → ProcessFormed p → AllByRecursion (λ c. nodes c.1 ≤ 1048576) (process_expansions s p) → AllByRecursion LabelExpanded (process_expansions s p)
process_formed s f y u p g n = go (archetype_named p.archetype.name s.archetypes) refl n
  where
    go : (o : Option Archetype) → archetype_named p.archetype.name s.archetypes ≡ o → AllByRecursion (λ c. nodes c.1 ≤ 1048576) (on [] o (λ a. expansions_of (variables_of s) s.macros p.name.name a (process_bindings s p a)))
        → AllByRecursion LabelExpanded (on [] o (λ a. expansions_of (variables_of s) s.macros p.name.name a (process_bindings s p a)))
    go None e n = tt
    go (Some a) e n =
        let h = archetype_formed s f.mappings y p.archetype.name s.archetypes f.archetypes a e in
        each_expanded s f.mappings y f.macros u p g a h (sections_of s.macros p.name.name a (process_bindings s p a)) (sections s f.mappings y f.macros u p g a h) n
