-- What Init asks of names holds of an accepted specification.
use Rattle.std.proofs.Common.{◌≡◌, true, false, List, map, refl, ap, sym, ◌∙◌, subst, inl, inr}
use Rattle.std.specs.Prelude.{◌⊎◌}
use Rattle.std.specs.List.{AllByRecursion}
use Rattle.pgo_base.specs.Data.{Data}
use Rattle.pgo_base.specs.Lookup.{Name}
use Rattle.pgo_model.specs.ModuleView.{defined_view}
use Rattle.pgo_model.specs.Written.{default_init_value}
use Rattle.pgo_syntax.specs.Statement.{labeled}
use Rattle.pgo_syntax.specs.declared.archetype.Archetype.{Archetype}
use Rattle.pgo_syntax.specs.declared.declaration.Declaration.{Declaration}
use Rattle.pgo_syntax.specs.declared.declaration.Definition.{Definition}
use Rattle.pgo_syntax.specs.declared.process.Process.{Process}
use Rattle.pgo_syntax.specs.declared.spec.Spec.{Spec}
use Rattle.pgo_uses.specs.Heads.{definition_names as placed_names, unit_names}
use Rattle.pgo_uses.specs.Tables.{all_definitions}
use Rattle.pgo_scope.specs.Twice.{is_reserved, reserved_name}
use Rattle.pgo_scope.specs.declared.errors.ScopeError.TheVariants as errors
use Rattle.pgo_bound.specs.Among.{IsAmong, among_left, among_right, among_append, from_map, none_flat_map}
use Rattle.pgo_bound.specs.Instances.{archetype_among}
use Rattle.pgo_bound.specs.Sound.{labels_among}
use Rattle.pgo_bound.specs.State.{variables_of}
use Rattle.pgo_bound.specs.Values.{define_of, defs_of}
use Rattle.pgo_bound.specs.Different.{all_from}
use Rattle.pgo_accept.proofs.Heads.{nothing_if}
use Rattle.pgo_accept.proofs.Fitting.{ArgumentsFit}
use Rattle.pgo_model.specs.Names.{is_among}
use Rattle.pgo_translate.specs.Premises.{OriginAvoids, ProcessAvoids, StartsAtLabel, StartNames, definition_names, further_names, taken_names, is_taken}
use Rattle.pgo_agrees.specs.Accepted.{IsOfText}
use Rattle.pgo_agrees.proofs.Avoided.{taken_apart, global_avoids, archetype_avoids, process_avoids}
use Rattle.pgo_agrees.proofs.Closed.{definitions_closed}
use Rattle.pgo_agrees.proofs.Fewer.{closed_fewer}
use Rattle.pgo_agrees.proofs.Further.{names_written, further_written, further_among}
use Rattle.pgo_agrees.proofs.FurtherNames.{name_of, named_further, not_done}
use Rattle.pgo_agrees.proofs.Kept.{NoFindings, NoLabelFindings}
use Rattle.pgo_agrees.proofs.Meanings.{defined_name, global_unit, shared_of, reserved_apart}
use Rattle.pgo_agrees.proofs.Variables.{not_among, is_among_there}

module _ (s : Spec) (k : NoFindings s) (labels : NoLabelFindings s) (fit : AllByRecursion (ArgumentsFit s.archetypes) s.processes) (of_text : IsOfText s) where
  -- the variables and the further definitions are among the names that the module writes
  pub taken_written : (x : Name) → is_among x (names_written s) ≡ false → is_among x (taken_names s) ≡ false
  taken_written x h = not_among x (taken_names s) (λ a. there (among_append x (variables_of s) (further_names s) a))
    where
      listed : IsAmong x (names_written s) → ⊥
      listed a = let q : true ≡ false = sym (is_among_there x (names_written s) a) ∙ h in cc

      there : IsAmong x (variables_of s) ⊎ IsAmong x (further_names s) → ⊥
      there (inl b) = listed (among_left x (variables_of s) (further_written s) b)
      there (inr b) =
          listed (among_right x (variables_of s) (further_written s) (further_among s x (named_further s k labels x (name_of s k labels x b))))

  -- ---- `defaultInitValue`
  definition_reserved : (d : Definition) → IsAmong d (all_definitions s) → is_reserved d.name.name ≡ false
  definition_reserved d a =
      let there = global_unit s k fit of_text d.name (shared_of s k fit of_text d.name (among_right d.name s.constants (placed_names (all_definitions s)) (defined_name d (all_definitions s) a))) in
      nothing_if (is_reserved d.name.name) d.name.place (errors.Twice d.name.name) (none_flat_map reserved_name d.name (unit_names s) k.reserved there)

  no_definition : (d : Definition) → IsAmong d (all_definitions s) → default_init_value ≡ d.name.name → ⊥
  no_definition d a e = let q : true ≡ false = ap is_reserved e ∙ definition_reserved d a in cc

  abbrev first : List Name
  first = map (λ (d : Definition). d.name.name) s.definitions

  abbrev second : List Name
  second = map (λ (d : Definition). d.name.name) (define_of s.define)

  not_defined : is_among default_init_value (definition_names s) ≡ false
  not_defined = not_among default_init_value (definition_names s) (λ a. go (among_append default_init_value first second a))
    where
      go : IsAmong default_init_value first ⊎ IsAmong default_init_value second → ⊥
      go (inl b) =
          let m = from_map (λ (d : Definition). d.name.name) default_init_value s.definitions b in
          no_definition m.0 (among_left m.0 s.definitions (define_of s.define) m.1) m.2
      go (inr b) =
          let m = from_map (λ (d : Definition). d.name.name) default_init_value (define_of s.define) b in
          no_definition m.0 (among_right m.0 s.definitions (define_of s.define) m.1) m.2

  -- ---- where processes start
  starts_at : (p : Process) → StartsAtLabel s p
  starts_at p a l t rest named body =
      not_done s k labels a (archetype_among p.archetype.name s.archetypes a named) l.name (subst (λ is. IsAmong l.name (labels_among (labeled is))) (sym body) (inl refl))

  pub start_names : (consts : List (Name × Data)) → StartNames s consts
  start_names consts = record {
    bodies = closed_fewer (names_written s) (taken_names s) taken_written (map defined_view (defs_of s consts)) (definitions_closed s k fit of_text consts);
    globals = all_from (λ (d : Declaration). OriginAvoids (is_taken s) d.initial) s.globals (global_avoids s k labels fit of_text);
    processes = all_from (ProcessAvoids s) s.processes (process_avoids s k labels fit of_text);
    archetypes = all_from (λ (a : Archetype). AllByRecursion (λ d. OriginAvoids (is_taken s) d.initial) a.locals) s.archetypes (archetype_avoids s k labels fit of_text);
    default = taken_apart s k labels fit of_text default_init_value (reserved_apart s k fit of_text default_init_value refl refl);
    default_defined = not_defined;
    places = all_from (StartsAtLabel s) s.processes (λ p a. starts_at p);
  }
