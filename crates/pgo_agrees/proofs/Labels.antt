-- At a label of a process the trees of the whole specification have the expansion of that process.
use Rattle.std.proofs.Common.{◌≡◌, ◌≤◌, ◌<◌, ◌^◌, ℕ, Bool, true, false, if◌then◌else◌, List, [], ◌∷◌, ◌++◌, map, Option, Some, None, option_map, refl, ap, sym, ◌∙◌, subst, inl, inr, arith}
use Rattle.std.specs.Prelude.{◌⊎◌, is_some}
use Rattle.std.specs.List.{flat_map}
use Rattle.pgo_base.specs.Lookup.{Name, same_name, find}
use Rattle.pgo_model.specs.Names.{same_name-self, same_name-is, or_that, find_append, is_among}
use Rattle.pgo_model.specs.Options.{on}
use Rattle.pgo_model.specs.Written.{done, written}
use Rattle.pgo_syntax.specs.declared.name.PlacedName.{PlacedName}
use Rattle.pgo_syntax.specs.declared.archetype.Archetype.{Archetype}
use Rattle.pgo_syntax.specs.declared.process.Process.{Process}
use Rattle.pgo_syntax.specs.declared.spec.Spec.{Spec}
use Rattle.pgo_syntax.specs.Statement.{Statement, skip, assign, if_then, if_else, while_do, either_of, await_that, with_in, print_out, assert_that, go_to, call_macro, yield_as, block, Statements, no_statements, more_statements, LabeledStatements, no_labeled, more_labeled, GuardedStatements, no_guarded, more_guarded, labeled}
use Rattle.pgo_uses.specs.AllUses.{parameter_names, variable_names, parameter_uses, local_uses, start, archetype_uses}
use Rattle.pgo_uses.specs.Names.{Rows, has_row}
use Rattle.pgo_uses.specs.StatementUses.{at_place, label_uses, with_uses, with_names, statement_uses, uses_of_alternatives, uses_of_block, uses_of_branches}
use Rattle.pgo_uses.specs.Uses.{uses}
use Rattle.pgo_uses.specs.declared.uses.Around.{Around}
use Rattle.pgo_uses.specs.declared.uses.Form.TheVariants as forms
use Rattle.pgo_uses.specs.declared.uses.Home.TheVariants as homes
use Rattle.pgo_uses.specs.declared.uses.Use.{Use}
use Rattle.pgo_scope.specs.Clash.{value_names, new_label, labels_from, own_names, or_none, own_module_name, own_module_names, process_module_names, name_clashes}
use Rattle.pgo_scope.specs.declared.module_names.ModuleName.{ModuleName}
use Rattle.pgo_labels.specs.ReservedDone.{reserved_done}
use Rattle.pgo_bound.specs.Among.{IsAmong, among_left, among_right, among_append, from_map, nth_among, none_flat_map}
use Rattle.pgo_bound.specs.Instances.{archetype_among}
use Rattle.pgo_bound.specs.Runs.{archetype_named}
use Rattle.pgo_bound.specs.Sound.{labels_in, labels_each, labels_among, labels_guarded}
use Rattle.pgo_bound.specs.State.{variables_of}
use Rattle.pgo_accept.proofs.Variables.{found_own}
use Rattle.pgo_accept.proofs.WrittenOnce.{writes, writes-append}
use Rattle.pgo_sections.specs.Code.{Code}
use Rattle.pgo_sections.specs.Expand.{expansion}
use Rattle.pgo_sections.specs.Expansion.{Expansion}
use Rattle.pgo_sections.specs.NodeLaws.{names_below_nodes}
use Rattle.pgo_sections.specs.Nodes.{most_names}
use Rattle.pgo_meaning.specs.Expansions.{expansions_of, process_bindings, process_expansions, trees_of}
use Rattle.pgo_meaning.specs.LabelSections.{AreUnlabelled}
use Rattle.pgo_meaning.specs.Parameters.{places_of}
use Rattle.pgo_meaning.specs.Sections.{sections_of}
use Rattle.pgo_meaning.specs.Statements.{label_of}
use Rattle.pgo_meaning.proofs.LabelSections.{sections_are}
use Rattle.pgo_agrees.specs.Accepted.{AreSmall}
use Rattle.pgo_agrees.proofs.WrittenNames.{writes_some, counted, rows_of, own_among}
use Rattle.pgo_agrees.proofs.Unlabelled.{none_is_done}

-- ---- a label is used as a label

abbrev pub LabelUse : Name → List Use → Type 0
LabelUse x us = (u : Use) × IsAmong u us × (u.form ≡ forms.Label) × (u.name ≡ x)

first_part : (x : Name) (us vs : List Use) → LabelUse x us → LabelUse x (us ++ vs)
first_part x us vs l = (l.0, among_left l.0 us vs l.1, l.2, l.3)

second_part : (x : Name) (us vs : List Use) → LabelUse x vs → LabelUse x (us ++ vs)
second_part x us vs l = (l.0, among_right l.0 us vs l.1, l.2, l.3)

of_label : (x : Name) (ns : List Name) (a : Around) (o : Option PlacedName) → IsAmong x (on [] o (λ y. y.name ∷ [])) → LabelUse x (label_uses ns a o)
of_label x ns a None h = absurd h
of_label x ns a (Some l) (inl e) =
    (record { name = l.name; form = forms.Label; inner = is_among l.name ns; around = at_place l.place a }, inl refl, refl, sym e)
of_label x ns a (Some l) (inr h) = absurd h

either_part : (x : Name) (us vs : List Use) (xs ys : List Name) → (IsAmong x xs → LabelUse x us) → (IsAmong x ys → LabelUse x vs) → IsAmong x (xs ++ ys) → LabelUse x (us ++ vs)
either_part x us vs xs ys f g h = go (among_append x xs ys h)
  where
    go : IsAmong x xs ⊎ IsAmong x ys → LabelUse x (us ++ vs)
    go (inl a) = first_part x us vs (f a)
    go (inr a) = second_part x us vs (g a)

mutual
  label_in : (t : Statement) (x : Name) (ns : List Name) (a : Around) → IsAmong x (labels_in t) → LabelUse x (statement_uses ns a t)
  label_in (skip p) x ns a h = absurd h
  label_in (assign p as') x ns a h = absurd h
  label_in (if_then p bs) x ns a h = label_guarded bs x ns a h
  label_in (if_else p bs t) x ns a h =
      either_part x (uses_of_branches ns a bs) (statement_uses ns a t) (labels_guarded bs) (labels_in t) (λ k. label_guarded bs x ns a k) (λ k. label_in t x ns a k) h
  label_in (while_do p e t) x ns a h = second_part x (uses ns (at_place p a) e) (statement_uses ns a t) (label_in t x ns a h)
  label_in (either_of p ts) x ns a h = label_each ts x ns a h
  label_in (await_that p e) x ns a h = absurd h
  label_in (with_in p ws t) x ns a h = second_part x (with_uses ns a ws) (statement_uses (ns ++ with_names ws) a t) (label_in t x (ns ++ with_names ws) a h)
  label_in (print_out p e) x ns a h = absurd h
  label_in (assert_that p e) x ns a h = absurd h
  label_in (go_to p l) x ns a h = absurd h
  label_in (call_macro p m ts) x ns a h = absurd h
  label_in (yield_as p e) x ns a h = absurd h
  label_in (block p ls) x ns a h = label_among ls x ns a h

  label_each : (ts : Statements) (x : Name) (ns : List Name) (a : Around) → IsAmong x (labels_each ts) → LabelUse x (uses_of_alternatives ns a ts)
  label_each no_statements x ns a h = absurd h
  label_each (more_statements t ts) x ns a h =
      either_part x (statement_uses ns a t) (uses_of_alternatives ns a ts) (labels_in t) (labels_each ts) (λ k. label_in t x ns a k) (λ k. label_each ts x ns a k) h

  pub label_among : (ls : LabeledStatements) (x : Name) (ns : List Name) (a : Around) → IsAmong x (labels_among ls) → LabelUse x (uses_of_block ns a ls)
  label_among no_labeled x ns a h = absurd h
  label_among (more_labeled l t ls) x ns a h =
      either_part x (label_uses ns a l ++ statement_uses ns a t) (uses_of_block ns a ls) (on [] l (λ y. y.name ∷ []) ++ labels_in t) (labels_among ls) (λ k. either_part x (label_uses ns a l) (statement_uses ns a t) (on [] l (λ y. y.name ∷ [])) (labels_in t) (λ j. of_label x ns a l j) (λ j. label_in t x ns a j) k) (λ k. label_among ls x ns a k) h

  label_guarded : (bs : GuardedStatements) (x : Name) (ns : List Name) (a : Around) → IsAmong x (labels_guarded bs) → LabelUse x (uses_of_branches ns a bs)
  label_guarded no_guarded x ns a h = absurd h
  label_guarded (more_guarded p e t bs) x ns a h =
      either_part x (uses ns (at_place p a) e ++ statement_uses ns a t) (uses_of_branches ns a bs) (labels_in t) (labels_guarded bs) (λ k. second_part x (uses ns (at_place p a) e) (statement_uses ns a t) (label_in t x ns a k)) (λ k. label_guarded bs x ns a k) h

-- ---- and so it is a name that the archetype's processes write

one_more : (x l : Name) (before : Rows) → has_row x (before ++ (l, 0) ∷ []) ≡ true → (has_row x before ≡ true) ⊎ (x ≡ l)
one_more x l before h = go (find x before) refl (same_name x l) refl (ap is_some (sym (find_append x before ((l, 0) ∷ []))) ∙ h)
  where
    go : (o : Option ℕ) → find x before ≡ o → (b : Bool) → same_name x l ≡ b → is_some (or_that o (if b then Some 0 else None)) ≡ true → (has_row x before ≡ true) ⊎ (x ≡ l)
    go (Some n) e b f k = inl (ap is_some e)
    go None e true f k = inr (same_name-is x l f)
    go None e false f k = absurd (cc)

label_listed : (u : Use) (before : Rows) (us : List Use) → IsAmong u us → u.form ≡ forms.Label → (has_row u.name before ≡ true) ⊎ IsAmong u.name (labels_from before us)
label_listed u before [] a e = absurd a
label_listed u before (v ∷ us) (inl q) e = go (has_row u.name before) refl
  where
    is : new_label before v v.form ≡ (if has_row u.name before then None else Some u.name)
    is = ap (λ (w : Use). new_label before w w.form) (sym q) ∙ ap (new_label before u) e

    go : (b : Bool) → has_row u.name before ≡ b → (has_row u.name before ≡ true) ⊎ IsAmong u.name (elim (new_label before v v.form) [ None ↦ labels_from before us | Some l ↦ l ∷ labels_from (before ++ (l, 0) ∷ []) us ])
    go true f = inl f
    go false f =
        inr (subst (λ o. IsAmong u.name (elim o [ None ↦ labels_from before us | Some l ↦ l ∷ labels_from (before ++ (l, 0) ∷ []) us ])) (sym (is ∙ ap (λ b. if b then None else Some u.name) f)) (inl refl))
label_listed u before (v ∷ us) (inr a) e = go (new_label before v v.form) (label_listed u before us a e) (λ l. label_listed u (before ++ (l, 0) ∷ []) us a e)
  where
    go : (o : Option Name) → (has_row u.name before ≡ true) ⊎ IsAmong u.name (labels_from before us) → ((l : Name) → (has_row u.name (before ++ (l, 0) ∷ []) ≡ true) ⊎ IsAmong u.name (labels_from (before ++ (l, 0) ∷ []) us))
        → (has_row u.name before ≡ true) ⊎ IsAmong u.name (elim o [ None ↦ labels_from before us | Some l ↦ l ∷ labels_from (before ++ (l, 0) ∷ []) us ])
    go None r f = r
    go (Some l) r f = more (f l)
      where
        here : (has_row u.name before ≡ true) ⊎ (u.name ≡ l) → (has_row u.name before ≡ true) ⊎ IsAmong u.name (l ∷ labels_from (before ++ (l, 0) ∷ []) us)
        here (inl g) = inl g
        here (inr g) = inr (inl g)

        more : (has_row u.name (before ++ (l, 0) ∷ []) ≡ true) ⊎ IsAmong u.name (labels_from (before ++ (l, 0) ∷ []) us) → (has_row u.name before ≡ true) ⊎ IsAmong u.name (l ∷ labels_from (before ++ (l, 0) ∷ []) us)
        more (inl g) = here (one_more u.name l before g)
        more (inr g) = inr (inr g)

-- a label of the body is listed
pub body_label : (j : ℕ) (a : Archetype) (x : Name) → IsAmong x (labels_among (labeled a.body)) → IsAmong x (labels_from [] (archetype_uses j a))
body_label j a x h =
    let s = start (homes.Body j) a.name.place in
    let ns = parameter_names a.params ++ variable_names a.locals in
    let ps = parameter_uses [] s a.params in
    let ls = local_uses j (parameter_names a.params) s a.locals in
    let bs = uses_of_block ns s (labeled a.body) in
    let u = second_part x (ps ++ ls) bs (label_among (labeled a.body) x ns s h) in
    subst (λ y. IsAmong y (labels_from [] (archetype_uses j a))) u.3 (listed u.0.name (label_listed u.0 [] (archetype_uses j a) u.1 u.2))
  where
    listed : (y : Name) → (has_row y [] ≡ true) ⊎ IsAmong y (labels_from [] (archetype_uses j a)) → IsAmong y (labels_from [] (archetype_uses j a))
    listed y (inl e) = absurd (let q : false ≡ true = e in cc)
    listed y (inr b) = b

pub label_own : (j : ℕ) (a : Archetype) (x : Name) → IsAmong x (labels_among (labeled a.body)) → IsAmong x (own_names j a)
label_own j a x h =
    among_right x (value_names a.params ++ variable_names a.locals) (labels_from [] (archetype_uses j a)) (body_label j a x h)

there : {A : Type 0} (l : Name) (x : A) (xs : List (Name × A)) → find l xs ≡ Some x → IsAmong l (map (λ c. c.0) xs)
there l x [] h = absurd (cc)
there {A} l x (q ∷ xs) h = go (same_name l q.0) refl h (there l x xs)
  where
    go : (b : Bool) → same_name l q.0 ≡ b → (if b then Some q.1 else find l xs) ≡ Some x → (find l xs ≡ Some x → IsAmong l (map (λ c. c.0) xs)) → IsAmong l (q.0 ∷ map (λ c. c.0) xs)
    go true e k more = inl (same_name-is l q.0 e)
    go false e k more = inr (more k)

pub find_map : {A B : Type 0} → (f : A → B) (l : List (Name × A)) (x : Name) → find x (map (λ c. (c.0, f c.1)) l) ≡ option_map f (find x l)
find_map f [] x = refl
find_map {A} {B} f (p ∷ l) x = go (same_name x p.0) (find_map f l x)
  where
    go : (b : Bool) → find x (map (λ c. (c.0, f c.1)) l) ≡ option_map f (find x l) → (if b then Some (f p.1) else find x (map (λ c. (c.0, f c.1)) l)) ≡ option_map f (if b then Some p.1 else find x l)
    go true e = refl
    go false e = e

pub label_written : (p x : Name) → same_name x done ≡ false → label_of p x ≡ written p x
label_written p x e = ap (λ b. if b then done else written p x) e

module _ (s : Spec) (clashes : name_clashes s ≡ []) (unlabelled : AreUnlabelled s.macros) (dones : flat_map reserved_done s.archetypes ≡ []) where
  -- a label with a section is written of its process
  label_thing : (p : Process) (a : Archetype) → archetype_named p.archetype.name s.archetypes ≡ Some a → (l : Name) (c : Code) → find l (sections_of s.macros p.name.name a (process_bindings s p a)) ≡ Some c → (y : Name) × IsAmong y (or_none (find p.archetype.name (rows_of s))) × (l ≡ written p.name.name y)
  label_thing p a e l c h =
      let names = labels_among (labeled a.body) in
      let sections = sections_of s.macros p.name.name a (process_bindings s p a) in
      let m = from_map (label_of p.name.name) l names (subst (IsAmong l) (sections_are s.macros p.name.name a (process_bindings s p a) unlabelled) (there l c sections h)) in
      let n = nth_among m.0 names m.1 in
      let not_done = none_is_done a (none_flat_map reserved_done a s.archetypes dones (archetype_among p.archetype.name s.archetypes a e)) n.0 m.0 n.1 in
      let f = found_own p.archetype.name 0 s.archetypes a e in
      (m.0, subst (λ o. IsAmong m.0 (or_none o)) (sym f.1) (label_own f.0 a m.0 m.1), m.2 ∙ label_written p.name.name m.0 not_done)

  abbrev own_of : Process → List ModuleName
  own_of p = own_module_names p (or_none (find p.archetype.name (rows_of s)))

  own_count : (p : Process) (y l : Name) → IsAmong y (or_none (find p.archetype.name (rows_of s))) → l ≡ written p.name.name y → 1 ≤ writes l (own_of p)
  own_count p y l a e =
      writes_some l (own_module_name p y) (own_of p) (own_among p y (or_none (find p.archetype.name (rows_of s))) a) (ap (same_name l) (sym e) ∙ same_name-self l)

  -- no tree of another process has the label
  no_tree : (q : Process) (l : Name) → writes l (own_of q) ≡ 0 → find l (process_expansions s q) ≡ None
  no_tree q l z = go (archetype_named q.archetype.name s.archetypes) refl
    where
      go : (o : Option Archetype) → archetype_named q.archetype.name s.archetypes ≡ o → find l (on [] o (λ a. expansions_of (variables_of s) s.macros q.name.name a (process_bindings s q a))) ≡ None
      go None e = refl
      go (Some a) e = find_map (expansion (variables_of s) (places_of q.name.name a (process_bindings s q a))) (sections_of s.macros q.name.name a (process_bindings s q a)) l ∙ by (find l (sections_of s.macros q.name.name a (process_bindings s q a))) refl
        where
          by : (o : Option Code) → find l (sections_of s.macros q.name.name a (process_bindings s q a)) ≡ o → option_map (expansion (variables_of s) (places_of q.name.name a (process_bindings s q a))) (find l (sections_of s.macros q.name.name a (process_bindings s q a))) ≡ None
          by None k = ap (option_map (expansion (variables_of s) (places_of q.name.name a (process_bindings s q a)))) k
          by (Some c) k = absurd (let t = label_thing q a e l c k in let n = own_count q t.0 l t.1 t.2 in omega (arith, n, z))

  all_there : (p : Process) (y l : Name) (ps : List Process) → IsAmong p ps → IsAmong y (or_none (find p.archetype.name (rows_of s))) → l ≡ written p.name.name y → 1 ≤ writes l (process_module_names (rows_of s) ps)
  all_there p y l [] a h e = absurd a
  all_there p y l (q ∷ ps) (inl f) h e =
      let n = subst (λ (r : Process). 1 ≤ writes l (own_of r)) f (own_count p y l h e) in
      let w = writes-append l (own_of q) (process_module_names (rows_of s) ps) in
      omega (arith, n, w)
  all_there p y l (q ∷ ps) (inr a) h e =
      let n = all_there p y l ps a h e in
      let w = writes-append l (own_of q) (process_module_names (rows_of s) ps) in
      omega (arith, n, w)

  one_tree : (p : Process) (y l : Name) (x : Expansion) → IsAmong y (or_none (find p.archetype.name (rows_of s))) → l ≡ written p.name.name y → find l (process_expansions s p) ≡ Some x → (ps : List Process) → IsAmong p ps → writes l (process_module_names (rows_of s) ps) ≤ 1 → find l (flat_map (process_expansions s) ps) ≡ Some x
  one_tree p y l x h e f [] a w = absurd a
  one_tree p y l x h e f (q ∷ ps) (inl k) w =
      find_append l (process_expansions s q) (flat_map (process_expansions s) ps) ∙ ap (λ o. or_that o (find l (flat_map (process_expansions s) ps))) (ap (λ r. find l (process_expansions s r)) (sym k) ∙ f)
  one_tree p y l x h e f (q ∷ ps) (inr a) w =
      let n = all_there p y l ps a h e in
      let v = writes-append l (own_of q) (process_module_names (rows_of s) ps) in
      let z : writes l (own_of q) ≡ 0 = omega (arith, n, v, w) in
      let rest : writes l (process_module_names (rows_of s) ps) ≤ 1 = omega (arith, v, w) in
      find_append l (process_expansions s q) (flat_map (process_expansions s) ps) ∙ ap (λ o. or_that o (find l (flat_map (process_expansions s) ps))) (no_tree q l z) ∙ one_tree p y l x h e f ps a rest

  -- the tree of a label
  pub tree_of_label : (p : Process) (a : Archetype) → IsAmong p s.processes → archetype_named p.archetype.name s.archetypes ≡ Some a → (l : Name) (c : Code) → find l (sections_of s.macros p.name.name a (process_bindings s p a)) ≡ Some c
      → (find l (trees_of s) ≡ Some (expansion (variables_of s) (places_of p.name.name a (process_bindings s p a)) c)) × (find l (expansions_of (variables_of s) s.macros p.name.name a (process_bindings s p a)) ≡ Some (expansion (variables_of s) (places_of p.name.name a (process_bindings s p a)) c))
  tree_of_label p a b e l c h =
      let f = expansion (variables_of s) (places_of p.name.name a (process_bindings s p a)) in
      let sections = sections_of s.macros p.name.name a (process_bindings s p a) in
      let here = find_map f sections l ∙ ap (option_map f) h in
      let t = label_thing p a e l c h in
      let own = ap (λ o. find l (on [] o (λ a. expansions_of (variables_of s) s.macros p.name.name a (process_bindings s p a)))) e ∙ here in
      let n = counted s clashes l in
      let w : writes l (process_module_names (rows_of s) s.processes) ≤ 1 = omega (arith, n) in
      (one_tree p t.0 l (f c) t.1 t.2 own s.processes b w, here)

-- ---- few names are bound on a path
pub few_names : (s : Spec) → AreSmall s → (l : Name) (x : Expansion) → find l (trees_of s) ≡ Some x → most_names x < 2 ^ 64
few_names s h l x e = let a = h l x e in let b = names_below_nodes x in omega (arith, a, b)
