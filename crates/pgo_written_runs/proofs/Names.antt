-- The names of variables and labels are names of the module, and so identifiers of at most 512 bytes.
use Rattle.std.proofs.Common.{◌≡◌, ℕ, ◌&&◌, IsTrue, List, [], ◌∷◌, ◌++◌, map, length, Some, inl, inr, refl, ap, sym, ◌∙◌, subst, option_map}
use Rattle.std.proofs.lemmas.Bool.{le-leb}
use Rattle.std.specs.List.{AllByRecursion, flat_map}
use Rattle.std.specs.Prelude.{nat_le}
use Rattle.pgo_base.specs.Data.{Data}
use Rattle.pgo_base.specs.Lookup.{Name, find}
use Rattle.pgo_model.specs.BundleParts.{is_read_name}
use Rattle.pgo_model.specs.Machine.{nth}
use Rattle.pgo_model.specs.Written.{pc, written}
use Rattle.pgo_syntax.specs.declared.bound.Instance.{Instance}
use Rattle.pgo_syntax.specs.declared.process.Process.{Process}
use Rattle.pgo_syntax.specs.declared.spec.Spec.{Spec}
use Rattle.pgo_bound.specs.Among.{IsAmong, among_flat_map, among_left, among_map, among_nth, among_right, from_flat_map, from_map, all_at}
use Rattle.pgo_bound.specs.BoundOf.{bound_of}
use Rattle.pgo_bound.specs.Sound.{IsGlobal, IsLabel}
use Rattle.pgo_bound.specs.State.{own_names, variables_of}
use Rattle.pgo_expr_write.specs.WellFormed.{AreNames, IsName}
use Rattle.pgo_meaning.specs.Expansions.{process_expansions, trees_of}
use Rattle.pgo_meaning.specs.Parameters.{places_of}
use Rattle.pgo_meaning.specs.System.{owned, owned_by, system_of}
use Rattle.pgo_meaning.specs.TreesAgree.{sections_at}
use Rattle.pgo_meaning.proofs.LabelSections.{label_section}
use Rattle.pgo_model.specs.System.{Owned}
use Rattle.pgo_module_spells.specs.Written.{IsWritten, IsWrittenAction, IsWrittenProcess}
use Rattle.pgo_sections.specs.Code.{Code}
use Rattle.pgo_sections.specs.Expand.{expansion}
use Rattle.pgo_sections.specs.Expansion.{Expansion}
use Rattle.pgo_pluscal.specs.PlusCalOf.{pluscal_of, process_of}
use Rattle.pgo_pluscal.proofs.OwnNames.{own_names_are}
use Rattle.pgo_translate.specs.ModuleOf.{declared, label_actions, module_of, variables_in, written_process}
use Rattle.pgo_agrees.specs.Accepted.{IsAccepted}
use Rattle.pgo_agrees.proofs.Premises as premises
use Rattle.pgo_agrees.proofs.Places.{found_there}
use Rattle.pgo_agrees.proofs.Labels.{find_map}

pub read_name : (x : Name) → IsName x → IsTrue (is_read_name x)
read_name x h = ap (λ b. b && nat_le (length x) 512) h.0 ∙ le-leb (length x) 512 h.1

pub name_among : (x : Name) (xs : List Name) → AreNames xs → IsAmong x xs → IsName x
name_among x [] h m = absurd m
name_among x (y ∷ ys) h (inl e) = subst IsName (sym e) h.0
name_among x (y ∷ ys) h (inr m) = name_among x ys h.1 m

flat_each : {A B C : Type 0} (f : A → B) (g : B → List C) (h : A → List C) (xs : List A) → ((x : A) → g (f x) ≡ h x) → flat_map g (map f xs) ≡ flat_map h xs
flat_each f g h [] e = refl
flat_each f g h (x ∷ xs) e = λ i. e x i ++ flat_each f g h xs e i

pub variables_same : (s : Spec) → variables_of s ≡ (module_of s).variables
variables_same s =
    sym (ap (λ xs. (map (λ d. d.name.name) s.globals ++ (pc ∷ [])) ++ xs)
    (flat_each (process_of s) (λ q. declared q.variables) (λ (p : Process). map (written p.name.name) (own_names s p)) s.processes (own_names_are s)))

module _ (s : Spec) (w : IsWritten (module_of s)) where
  -- variables
  pub variable_name : (x : Name) → IsAmong x (variables_of s) → IsTrue (is_read_name x)
  variable_name x m = read_name x (name_among x (variables_of s) (subst AreNames (sym (variables_same s)) w.variables) m)

  abbrev global_names : List Name
  global_names = map (λ d. d.name.name) s.globals

  abbrev own_variables : List Name
  own_variables = flat_map (λ (p : Process). map (written p.name.name) (own_names s p)) s.processes

  pub place_name : IsTrue (is_read_name pc)
  place_name = variable_name pc (among_left pc (global_names ++ (pc ∷ [])) own_variables (among_right pc global_names (pc ∷ []) (inl refl)))

  action_name : (p : Process) (l : Name) (x : Expansion) → IsAmong p s.processes → IsAmong (l, x) (process_expansions s p) → IsName l
  action_name p l x m a =
      let vs = variables_in (pluscal_of s) in
      let gs = declared s.globals in
      let one : IsWrittenProcess (written_process vs gs (process_of s p)) =
      all_at IsWrittenProcess (written_process vs gs (process_of s p)) (map (written_process vs gs) (map (process_of s) s.processes)) w.processes (among_map (written_process vs gs) (process_of s p) (map (process_of s) s.processes) (among_map (process_of s) p s.processes m)) in
      (each_action vs gs (process_expansions s p) one.actions a).0
    where
      each_action : (vs gs : List Name) (ls : List (Name × Expansion)) → AllByRecursion IsWrittenAction (label_actions vs gs ls) → IsAmong (l, x) ls → IsName l × Unit {0}
      each_action vs gs [] h k = absurd k
      each_action vs gs (q ∷ ls) h (inl e) = (subst IsName (sym (ap (λ z. z.0) e)) h.0.0, tt)
      each_action vs gs (q ∷ ls) h (inr k) = each_action vs gs ls h.1 k

  module _ (consts : List (Name × Data)) (accepted : IsAccepted s consts) where
    -- labels of an instance's process
    pub label_name : (k : ℕ) (i : Instance) → nth (bound_of s consts).instances k ≡ Some i → (l : Name) → IsLabel i l → IsTrue (is_read_name l)
    label_name k i at_k l is_label =
        let b = bound_of s consts in
        let c = label_section b i (premises.unlabelled s consts accepted) (premises.none_done s consts accepted k i at_k) l is_label in
        let f : Code → Expansion = expansion (variables_of s) (places_of i.process i.archetype i.bindings) in
        let here = find_map f (sections_at b i) l ∙ ap (option_map f) c.1 in
        let tree : find l (trees_of s) ≡ Some (f c.0) = premises.own_labels s consts accepted k i at_k l c.0 c.1 ∙ here in
        let p = from_flat_map (process_expansions s) (l, f c.0) s.processes (found_there l (f c.0) (trees_of s) tree) in
        read_name l (action_name p.0 l (f c.0) p.1 p.2)

    -- the globals of resources
    pub global_name : (g : Name) → IsGlobal (bound_of s consts) g → IsTrue (is_read_name g)
    global_name g h =
        let d = h.0 in
        let here : IsAmong g global_names = subst (λ x. IsAmong x global_names) d.3 (among_map (λ d. d.name.name) d.1 s.globals (among_nth d.1 s.globals d.0 d.2)) in
        variable_name g (among_left g (global_names ++ (pc ∷ [])) own_variables (among_left g global_names (pc ∷ []) here))

    -- what belongs to instances
    pub own_name : (o : Owned) → IsAmong o (system_of (bound_of s consts)).own → IsTrue (is_read_name o.variable)
    own_name o m =
        let p = from_flat_map (owned_by (bound_of s consts)) o s.processes m in
        let x = from_map (owned (bound_of s consts) p.0) o (own_names s p.0) p.2 in
        let here : IsAmong (written p.0.name.name x.0) own_variables = among_flat_map (λ (p : Process). map (written p.name.name) (own_names s p)) p.0 (written p.0.name.name x.0) s.processes p.1 (among_map (written p.0.name.name) x.0 (own_names s p.0) x.1) in
        subst (λ y. IsTrue (is_read_name y)) (sym (ap (λ (z : Owned). z.variable) x.2)) (variable_name (written p.0.name.name x.0) (among_right (written p.0.name.name x.0) (global_names ++ (pc ∷ [])) own_variables here))
