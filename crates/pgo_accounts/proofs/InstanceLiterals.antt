-- The literals of what an instance of a specification runs are within limits, where those of the specification are.
use Rattle.std.proofs.Common.{◌≡◌, ℕ, Bool, true, false, if◌then◌else◌, List, [], ◌∷◌, map, Some, option_map, sym, subst}
use Rattle.std.specs.List.{AllByRecursion}
use Rattle.pgo_base.specs.Data.{Data}
use Rattle.pgo_base.specs.Lookup.{Name, same_name}
use Rattle.pgo_model.specs.Machine.{nth}
use Rattle.pgo_syntax.specs.Statement.{labeled}
use Rattle.pgo_syntax.specs.declared.archetype.Extent.{Extent}
use Rattle.pgo_syntax.specs.declared.archetype.Extent.TheVariants.{Whole, Element}
use Rattle.pgo_syntax.specs.declared.bound.Instance.{Instance}
use Rattle.pgo_syntax.specs.declared.bound.Mapping.TheVariants.{Macro}
use Rattle.pgo_syntax.specs.declared.bound.Target.TheVariants as targets
use Rattle.pgo_syntax.specs.declared.macros.MappingMacro.{MappingMacro}
use Rattle.pgo_syntax.specs.declared.process.Argument.{Argument}
use Rattle.pgo_syntax.specs.declared.process.Argument.TheVariants as arguments
use Rattle.pgo_syntax.specs.declared.process.MappingClause.{MappingClause}
use Rattle.pgo_syntax.specs.declared.spec.Spec.{Spec}
use Rattle.pgo_bound.specs.Among.{all_at}
use Rattle.pgo_bound.specs.BoundOf.{bound_of}
use Rattle.pgo_bound.specs.Runs.{run_with, mapping_named, mapping_by, speaking, target_of, binding_of}
use Rattle.pgo_bound.specs.Values.{defs_of}
use Rattle.pgo_agrees.proofs.Instances.{runs_as}
use Rattle.pgo_systems.specs.StatementLiterals.{BlocksWithin, LabeledWithin, SpecificationWithin, TargetWithin, TextWithin}
use Rattle.pgo_values.specs.Limits.{Limits}

pub all_map : {A B : Type 0} (f : A → B) (P : B → Type 0) (xs : List A) → ((x : A) → P (f x)) → AllByRecursion P (map f xs)
all_map f P [] h = tt
all_map f P (x ∷ xs) h = (h x, all_map f P xs h)

module _ (limits : Limits) where
  -- ---- literals of mapping macros

  macro_fits : (x : Name) (ms : List MappingMacro) → AllByRecursion (BlocksWithin limits) ms → (g : Name) (e : Extent) → TargetWithin limits (targets.Global g e (option_map Macro (mapping_named x ms)))
  macro_fits x [] h g e = tt
  macro_fits x (m ∷ ms) h g e = go (same_name x m.name.name) (macro_fits x ms h.1 g e)
    where
      go : (b : Bool) → TargetWithin limits (targets.Global g e (option_map Macro (mapping_named x ms))) → TargetWithin limits (targets.Global g e (option_map Macro (if b then Some m else mapping_named x ms)))
      go true r = h.0
      go false r = r

  mapping_fits : (s : Spec) → AllByRecursion (BlocksWithin limits) s.mappings → (g : Name) (e : Extent) (cs : List MappingClause) → TargetWithin limits (targets.Global g e (mapping_by s e cs))
  mapping_fits s h g Whole [] = tt
  mapping_fits s h g Element [] = tt
  mapping_fits s h g e (c ∷ cs) = macro_fits c.mapping.name s.mappings h g e

  target_fits : (s : Spec) → AllByRecursion (BlocksWithin limits) s.mappings → (cs : List MappingClause) (n : ℕ) (a : Argument) → TargetWithin limits (target_of s cs n a)
  target_fits s h cs n (arguments.Value place e) = tt
  target_fits s h cs n (arguments.Ref g e) = mapping_fits s h g.name e (speaking n g.name cs)

  module _ (s : Spec) (consts : List (Name × Data)) (literals : SpecificationWithin limits s) where
    pub text_fits : (k : ℕ) (i : Instance) → nth (bound_of s consts).instances k ≡ Some i → TextWithin limits (bound_of s consts) i
    text_fits k i at_k =
        let r = runs_as s consts k i at_k in
        let run = run_with (defs_of s consts) r.process r.archetype in
        subst (TextWithin limits (bound_of s consts)) (sym r.is) (record {
          body = all_at (λ a. LabeledWithin limits (labeled a.body)) r.archetype s.archetypes literals.archetypes r.declared;
          macros = literals.macros;
          mappings = all_map (binding_of s run.process.clauses) (λ x. TargetWithin limits x.target) run.handed (λ z. target_fits s literals.mappings run.process.clauses z.number z.argument);
        })
