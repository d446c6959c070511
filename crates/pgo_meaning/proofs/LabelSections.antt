-- The sections of a process are those of its labels, in the order of the text.
use Rattle.std.proofs.Common.{◌≡◌, ℕ, Bool, true, false, if◌then◌else◌, List, [], ◌∷◌, ◌++◌, map, Option, Some, None, refl, ap, sym, ◌∙◌, subst, inl, inr}
use Rattle.std.specs.List.{AllByRecursion}
use Rattle.pgo_base.specs.Data.{Data, boolean, integer, string, model, set, function}
use Rattle.pgo_base.specs.Lookup.{Name, Vars, same_name, find}
use Rattle.pgo_base.specs.Tree.{Tree}
use Rattle.pgo_model.specs.Machine.{nth}
use Rattle.pgo_model.specs.Names.{same_name-self, same_name-is}
use Rattle.pgo_model.specs.Options.{on}
use Rattle.pgo_model.specs.System.{Words}
use Rattle.pgo_model.specs.Written.{done, pc, written}
use Rattle.pgo_syntax.specs.Statement.{Statement, skip, assign, if_then, if_else, while_do, either_of, await_that, with_in, print_out, assert_that, go_to, call_macro, yield_as, block, Statements, no_statements, more_statements, LabeledStatements, no_labeled, more_labeled, GuardedStatements, no_guarded, more_guarded, labeled}
use Rattle.pgo_syntax.specs.declared.archetype.Archetype.{Archetype}
use Rattle.pgo_syntax.specs.declared.bound.Binding.{Binding}
use Rattle.pgo_syntax.specs.declared.bound.Bound.{Bound}
use Rattle.pgo_syntax.specs.declared.bound.Instance.{Instance}
use Rattle.pgo_syntax.specs.declared.macros.Macro.{Macro}
use Rattle.pgo_syntax.specs.declared.name.PlacedName.{PlacedName}
use Rattle.pgo_bound.specs.Among.{IsAmong, among_map, from_map, among_nth, nth_among}
use Rattle.pgo_bound.specs.Declares.{value_in}
use Rattle.pgo_bound.specs.Sound.{labels_in, labels_each, labels_among, labels_guarded, IsLabel}
use Rattle.pgo_bound.specs.State.{id_of}
use Rattle.pgo_bound.specs.StartNames.{map-append}
use Rattle.pgo_sections.specs.Code.{Code, Seq, Goto}
use Rattle.pgo_meaning.specs.LabelSections.{AreUnlabelled, NoneIsDone}
use Rattle.pgo_meaning.specs.Labels.{own, labelled, within, within_branches, within_arms, within_order}
use Rattle.pgo_meaning.specs.MacrosPlaced.{Arguments, put, put_each, put_among, put_guarded, under_names, Body, Bodies, handed, walked, placed, placed_each, placed_among, placed_guarded, bodies_with, bodies}
use Rattle.pgo_meaning.specs.Parameters.{setting_of}
use Rattle.pgo_sections.specs.Section.{section}
use Rattle.pgo_meaning.specs.Sect.{context_of, code_at, nothing, Sect}
use Rattle.pgo_meaning.specs.Sections.{sections_of}
use Rattle.pgo_meaning.specs.Statements.{Setting, label_of, in_order}
use Rattle.pgo_meaning.specs.TreesAgree.{sections_at}

abbrev name_of : Name × Code → Name
name_of p = p.0

-- ---- statements have a section for each label in them
module _ (s : Setting) where
  abbrev written_as : Name → Name
  written_as x = label_of s.process x

  abbrev Are : List (Name × Code) → List Name → Type 0
  Are cs xs = map name_of cs ≡ map written_as xs

  joined : (cs ds : List (Name × Code)) (xs ys : List Name) → Are cs xs → Are ds ys → Are (cs ++ ds) (xs ++ ys)
  joined cs ds xs ys f g = map-append name_of cs ds ∙ (λ i. f i ++ g i) ∙ sym (map-append written_as xs ys)

  own_is : (x : Option PlacedName) (t : Statement) (c : Code) → Are (own s x t c) (on [] x (λ y. y.name ∷ []))
  own_is None t c = refl
  own_is (Some x) t c = refl

  mutual
    within_is : (t : Statement) (l : Name) (c : Code) → Are (within s l t c) (labels_in t)
    within_is (skip p) l c = refl
    within_is (assign p as') l c = refl
    within_is (if_then p bs) l c = branches_are bs l c
    within_is (if_else p bs t) l c =
        joined (within_branches s l bs c) (within s l t c) (labels_guarded bs) (labels_in t) (branches_are bs l c) (within_is t l c)
    within_is (while_do p e t) l c = within_is t l (Goto l)
    within_is (either_of p ts) l c = arms_are ts l c
    within_is (await_that p e) l c = refl
    within_is (with_in p ws t) l c = within_is t l c
    within_is (print_out p e) l c = refl
    within_is (assert_that p e) l c = refl
    within_is (go_to p x) l c = refl
    within_is (call_macro p m es) l c = refl
    within_is (yield_as p e) l c = refl
    within_is (block p ls) l c = order_is ls l c

    branches_are : (bs : GuardedStatements) (l : Name) (c : Code) → Are (within_branches s l bs c) (labels_guarded bs)
    branches_are no_guarded l c = refl
    branches_are (more_guarded p e t bs) l c =
        joined (within s l t c) (within_branches s l bs c) (labels_in t) (labels_guarded bs) (within_is t l c) (branches_are bs l c)

    arms_are : (ts : Statements) (l : Name) (c : Code) → Are (within_arms s l ts c) (labels_each ts)
    arms_are no_statements l c = refl
    arms_are (more_statements t ts) l c =
        joined (within s l t c) (within_arms s l ts c) (labels_in t) (labels_each ts) (within_is t l c) (arms_are ts l c)

    order_is : (ls : LabeledStatements) (l : Name) (c : Code) → Are (within_order s l ls c) (labels_among ls)
    order_is no_labeled l c = refl
    order_is (more_labeled x t ls) l c =
        let next = Seq (in_order s l ls) c in
        joined (own s x t next ++ within s (labelled s l x) t next) (within_order s l ls c) (on [] x (λ y. y.name ∷ []) ++ labels_in t) (labels_among ls) (joined (own s x t next) (within s (labelled s l x) t next) (on [] x (λ y. y.name ∷ [])) (labels_in t) (own_is x t next) (within_is t (labelled s l x) next)) (order_is ls l c)

-- ---- arguments change no label
mutual
  put_labels : (es : Arguments) (t : Statement) → labels_in (put es t) ≡ labels_in t
  put_labels es (skip p) = refl
  put_labels es (assign p as') = refl
  put_labels es (if_then p bs) = put_guarded_labels es bs
  put_labels es (if_else p bs t) = λ i. put_guarded_labels es bs i ++ put_labels es t i
  put_labels es (while_do p e t) = put_labels es t
  put_labels es (either_of p ts) = put_each_labels es ts
  put_labels es (await_that p e) = refl
  put_labels es (with_in p ws t) = put_labels (under_names es ws) t
  put_labels es (print_out p e) = refl
  put_labels es (assert_that p e) = refl
  put_labels es (go_to p l) = refl
  put_labels es (call_macro p m ts) = refl
  put_labels es (yield_as p e) = refl
  put_labels es (block p ls) = put_among_labels es ls

  put_each_labels : (es : Arguments) (ts : Statements) → labels_each (put_each es ts) ≡ labels_each ts
  put_each_labels es no_statements = refl
  put_each_labels es (more_statements t ts) = λ i. put_labels es t i ++ put_each_labels es ts i

  put_among_labels : (es : Arguments) (ls : LabeledStatements) → labels_among (put_among es ls) ≡ labels_among ls
  put_among_labels es no_labeled = refl
  put_among_labels es (more_labeled x t ls) =
      λ i. on [] x (λ y. y.name ∷ []) ++ put_labels es t i ++ put_among_labels es ls i

  put_guarded_labels : (es : Arguments) (bs : GuardedStatements) → labels_guarded (put_guarded es bs) ≡ labels_guarded bs
  put_guarded_labels es no_guarded = refl
  put_guarded_labels es (more_guarded p e t bs) = λ i. put_labels es t i ++ put_guarded_labels es bs i

-- ---- macros without labels bring none
abbrev WithoutLabels : Bodies → Type 0
WithoutLabels ms = AllByRecursion (λ b. labels_in b.1.statement ≡ []) ms

found_body : (ms : Bodies) (x : Name) (b : Body) → WithoutLabels ms → find x ms ≡ Some b → labels_in b.statement ≡ []
found_body [] x b h e = absurd (cc)
found_body (m ∷ ms) x b h e = go (same_name x m.0) e (λ k. found_body ms x b h.1 k)
  where
    go : (q : Bool) → (if q then Some m.1 else find x ms) ≡ Some b → (find x ms ≡ Some b → labels_in b.statement ≡ []) → labels_in b.statement ≡ []
    go true e more = let same : m.1 ≡ b = ap (λ o. elim o [ None ↦ m.1 | Some z ↦ z ]) e in subst (λ (z : Body). labels_in z.statement ≡ []) same h.0
    go false e more = more e

module _ (ms : Bodies) (none : WithoutLabels ms) where
  call_labels : (p : ℕ) (m : PlacedName) (ts : List Tree) (o : Option Body) → find m.name ms ≡ o → labels_in (on (call_macro p m ts) o (λ b. walked p (put (handed b.parameters ts) b.statement))) ≡ []
  call_labels p m ts None e = refl
  call_labels p m ts (Some b) e = ap (λ l. l ++ []) (put_labels (handed b.parameters ts) b.statement ∙ found_body ms m.name b none e)

  mutual
    placed_labels : (t : Statement) → labels_in (placed ms t) ≡ labels_in t
    placed_labels (skip p) = refl
    placed_labels (assign p as') = refl
    placed_labels (if_then p bs) = placed_guarded_labels bs
    placed_labels (if_else p bs t) = λ i. placed_guarded_labels bs i ++ placed_labels t i
    placed_labels (while_do p e t) = placed_labels t
    placed_labels (either_of p ts) = placed_each_labels ts
    placed_labels (await_that p e) = refl
    placed_labels (with_in p ws t) = placed_labels t
    placed_labels (print_out p e) = refl
    placed_labels (assert_that p e) = refl
    placed_labels (go_to p l) = refl
    placed_labels (call_macro p m ts) = call_labels p m ts (find m.name ms) refl
    placed_labels (yield_as p e) = refl
    placed_labels (block p ls) = placed_among_labels ls

    placed_each_labels : (ts : Statements) → labels_each (placed_each ms ts) ≡ labels_each ts
    placed_each_labels no_statements = refl
    placed_each_labels (more_statements t ts) = λ i. placed_labels t i ++ placed_each_labels ts i

    placed_among_labels : (ls : LabeledStatements) → labels_among (placed_among ms ls) ≡ labels_among ls
    placed_among_labels no_labeled = refl
    placed_among_labels (more_labeled x t ls) =
        λ i. on [] x (λ y. y.name ∷ []) ++ placed_labels t i ++ placed_among_labels ls i

    placed_guarded_labels : (bs : GuardedStatements) → labels_guarded (placed_guarded ms bs) ≡ labels_guarded bs
    placed_guarded_labels no_guarded = refl
    placed_guarded_labels (more_guarded p e t bs) = λ i. placed_labels t i ++ placed_guarded_labels bs i

bodies_without : (done' : Bodies) (ms : List Macro) → WithoutLabels done' → AreUnlabelled ms → WithoutLabels (bodies_with done' ms)
bodies_without done' [] h u = h
bodies_without done' (m ∷ ms) h u =
    bodies_without ((m.name.name, record { parameters = map (λ p. p.name) m.params; statement = placed done' (block 0 (labeled m.body)) }) ∷ done') ms (placed_labels done' h (block 0 (labeled m.body)) ∙ u.0, h) u.1

-- ---- the sections of a process
pub sections_are : (ms : List Macro) (p : Name) (a : Archetype) (bs : List Binding) → AreUnlabelled ms → map (λ c. c.0) (sections_of ms p a bs) ≡ map (label_of p) (labels_among (labeled a.body))
sections_are ms p a bs u =
    order_is (setting_of p a bs) (placed_among (bodies ms) (labeled a.body)) [] (Goto done)
    ∙ ap (map (label_of p)) (placed_among_labels (bodies ms) (bodies_without [] ms tt u) (labeled a.body))

found_there : (cs : List (Name × Code)) (l : Name) → IsAmong l (map (λ c. c.0) cs) → (c : Code) × (find l cs ≡ Some c)
found_there [] l h = absurd h
found_there (x ∷ cs) l h = go (same_name l x.0) refl h (λ k. found_there cs l k)
  where
    go : (b : Bool) → same_name l x.0 ≡ b → IsAmong l (x.0 ∷ map (λ c. c.0) cs) → (IsAmong l (map (λ c. c.0) cs) → (c : Code) × (find l cs ≡ Some c)) → (c : Code) × ((if b then Some x.1 else find l cs) ≡ Some c)
    go true e h more = (x.1, refl)
    go false e (inl q) more = absurd (let t : same_name l x.0 ≡ true = ap (same_name l) (sym q) ∙ same_name-self l in let z : true ≡ false = sym t ∙ e in cc)
    go false e (inr h) more = more h

there_found : (cs : List (Name × Code)) (l : Name) (c : Code) → find l cs ≡ Some c → IsAmong l (map (λ c. c.0) cs)
there_found [] l c h = absurd (cc)
there_found (x ∷ cs) l c h = go (same_name l x.0) refl h (λ k. there_found cs l c k)
  where
    go : (b : Bool) → same_name l x.0 ≡ b → (if b then Some x.1 else find l cs) ≡ Some c → (find l cs ≡ Some c → IsAmong l (map (λ c. c.0) cs)) → IsAmong l (x.0 ∷ map (λ c. c.0) cs)
    go true e h more = inl (same_name-is l x.0 e)
    go false e h more = inr (more h)

label_is : (p x : Name) → same_name x done ≡ false → label_of p x ≡ written p x
label_is p x e = ap (λ b. if b then done else written p x) e

module _ (b : Bound) (i : Instance) (u : AreUnlabelled b.spec.macros) (n : NoneIsDone i) where
  abbrev there : List Name
  there = labels_among (labeled i.archetype.body)

  pub label_section : (l : Name) → IsLabel i l → (c : Code) × (find l (sections_at b i) ≡ Some c)
  label_section l h =
      let at_l : l ≡ label_of i.process h.1 = h.3 ∙ sym (label_is i.process h.1 (n h.0 h.1 h.2)) in
      found_there (sections_at b i) l (subst (λ xs. IsAmong l xs) (sym (sections_are b.spec.macros i.process i.archetype i.bindings u)) (subst (λ k. IsAmong k (map (label_of i.process) there)) (sym at_l) (among_map (label_of i.process) h.1 there (among_nth h.1 there h.0 h.2))))

  pub section_label : (l : Name) (c : Code) → find l (sections_at b i) ≡ Some c → IsLabel i l
  section_label l c h =
      let m = from_map (label_of i.process) l there (subst (λ xs. IsAmong l xs) (sections_are b.spec.macros i.process i.archetype i.bindings u) (there_found (sections_at b i) l c h)) in
      let k = nth_among m.0 there m.1 in
      (k.0, m.0, k.1, m.2 ∙ label_is i.process m.0 (n k.0 m.0 k.1))

  -- at no label there is no section
  no_section : (o : Option Data) → ((l : Name) → o ≡ Some (string l) → IsLabel i l → ⊥) → code_at b i o ≡ None
  no_section None h = refl
  no_section (Some (string l)) h = none (find l (sections_at b i)) refl
    where
      none : (q : Option Code) → find l (sections_at b i) ≡ q → find l (sections_at b i) ≡ None
      none None e = e
      none (Some c) e = absurd (h l refl (section_label l c e))
  no_section (Some (boolean z)) h = refl
  no_section (Some (integer z)) h = refl
  no_section (Some (model z)) h = refl
  no_section (Some (set z)) h = refl
  no_section (Some (function z)) h = refl

  pub nowhere : (k : ℕ) (s : Vars) (d : Words) → nth b.instances k ≡ Some i → ((l : Name) → value_in s pc (id_of i) ≡ Some (string l) → IsLabel i l → ⊥) → Sect b k s d ≡ nothing
  nowhere k s d at_k h =
      ap (λ o. on nothing o (λ i. on nothing (code_at b i (value_in s pc (id_of i))) (λ c. section (context_of b i s) c d))) at_k
      ∙ ap (λ o. on nothing o (λ c. section (context_of b i s) c d)) (no_section (value_in s pc (id_of i)) h)
