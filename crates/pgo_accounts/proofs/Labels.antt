-- Where no rule on labels finds anything, each `goto` names a label of its archetype or Done, and each `while` has a label.
use Rattle.std.proofs.Common.{◌≡◌, Bool, true, false, not, ◌||◌, if◌then◌else◌, ◌⊎◌, List, [], ◌∷◌, ◌++◌, map, filter, Some, None, inl, inr, refl, ap, sym, ◌∙◌, subst}
use Rattle.std.proofs.lemmas.List.{map-append, append_assoc}
use Rattle.std.specs.Prelude.{flat_map, is_none}
use Rattle.pgo_base.specs.Lookup.{Name, same_name}
use Rattle.pgo_model.specs.Names.{same_name-is, is_among}
use Rattle.pgo_model.specs.Written.{done}
use Rattle.pgo_syntax.specs.declared.archetype.Archetype.{Archetype}
use Rattle.pgo_syntax.specs.declared.name.PlacedName.{PlacedName}
use Rattle.pgo_syntax.specs.declared.spec.Spec.{Spec}
use Rattle.pgo_syntax.specs.Statement.{Statement, skip, assign, if_then, if_else, while_do, either_of, await_that, with_in, print_out, assert_that, go_to, call_macro, yield_as, block, Statements, no_statements, more_statements, LabeledStatements, no_labeled, more_labeled, GuardedStatements, no_guarded, more_guarded, labeled, place_of}
use Rattle.pgo_labels.specs.declared.errors.LabelError.TheVariants.{NeedsLabel, UnknownLabel}
use Rattle.pgo_labels.specs.Inside.{Item, inside, inside_all, inside_labeled, inside_guarded, with_inside}
use Rattle.pgo_labels.specs.NeedsLabel.{behind_jumps, in_block, is_loop, loop_of, needing, unlabeled_places, last_before}
use Rattle.pgo_labels.specs.Refusal.{label_refusal}
use Rattle.pgo_labels.specs.Rules as rules
use Rattle.pgo_labels.specs.Rules.{found_at, missing, needs_label, label_in_with, label_in_macro, label_in_mapping, unknown_label, label_twice, reserved_done, yield_rule, too_many_labels}
use Rattle.pgo_labels.specs.UnknownLabel.{targets_of, target}
use Rattle.pgo_labels.specs.declared.finding.Finding.{Finding}
use Rattle.pgo_bound.specs.Among.{IsAmong, among_left, among_right, among_filter, among_flat_map, empty_map, empty_none, from_map}
use Rattle.pgo_bound.specs.Sound.{labels_among}
use Rattle.pgo_meaning.proofs.Traces.{among_is}
use Rattle.pgo_systems.specs.Gotos.{gotos_in, gotos_each, gotos_among, gotos_guarded, NoBareWhile, NoneEach, NoneAmong, NoneGuarded}
use Rattle.pgo_accept.proofs.Unlabelled.{names_of_body}
use Rattle.pgo_accept.proofs.Accepted.{rules_behind, later_rules}
use Rattle.pgo_accept.proofs.Unbroken.{first_label_rule, next_label_rules}
use Rattle.pgo_agrees.proofs.Unlabelled.{placed_name, with_inside_is}
use Rattle.pgo_agrees.proofs.Stands.{or_in}

-- ---- targets

-- the names of the targets of these statements
abbrev target_names : List Item → List Name
target_names is = map placed_name (targets_of is)

targets_joined : (is js : List Item) → targets_of (is ++ js) ≡ targets_of is ++ targets_of js
targets_joined [] js = refl
targets_joined (i ∷ is) js = ap (λ ts. target i.1 ++ ts) (targets_joined is js) ∙ sym (append_assoc (target i.1) (targets_of is) (targets_of js))

names_joined : (is js : List Item) → target_names (is ++ js) ≡ target_names is ++ target_names js
names_joined is js = ap (map placed_name) (targets_joined is js) ∙ map-append placed_name (targets_of is) (targets_of js)

abbrev item : Statement → Item
item s = (None, s)

-- one statement with those within it, and others behind it
then_others : (gs hs : List Name) (is js : List Item) → gs ≡ target_names is → hs ≡ target_names js → gs ++ hs ≡ target_names (is ++ js)
then_others gs hs is js e f = (λ i. e i ++ f i) ∙ sym (names_joined is js)

mutual
  gotos_are : (s : Statement) → gotos_in s ≡ target_names (item s ∷ inside s)
  gotos_are (skip p) = refl
  gotos_are (assign p x) = refl
  gotos_are (if_then p bs) = guarded_are bs
  gotos_are (if_else p bs s) = then_others (gotos_guarded bs) (gotos_in s) (inside_guarded bs) (item s ∷ inside s) (guarded_are bs) (gotos_are s)
  gotos_are (while_do p e s) = gotos_are s
  gotos_are (either_of p ss) = each_are ss
  gotos_are (await_that p e) = refl
  gotos_are (with_in p ws s) = gotos_are s
  gotos_are (print_out p e) = refl
  gotos_are (assert_that p e) = refl
  gotos_are (go_to p l) = refl
  gotos_are (call_macro p m es) = refl
  gotos_are (yield_as p e) = refl
  gotos_are (block p ls) = among_are ls

  each_are : (ss : Statements) → gotos_each ss ≡ target_names (inside_all ss)
  each_are no_statements = refl
  each_are (more_statements s ss) = then_others (gotos_in s) (gotos_each ss) (item s ∷ inside s) (inside_all ss) (gotos_are s) (each_are ss)

  among_are : (ls : LabeledStatements) → gotos_among ls ≡ target_names (inside_labeled ls)
  among_are no_labeled = refl
  among_are (more_labeled l s ls) = then_others (gotos_in s) (gotos_among ls) ((l, s) ∷ inside s) (inside_labeled ls) (gotos_are s) (among_are ls)

  guarded_are : (bs : GuardedStatements) → gotos_guarded bs ≡ target_names (inside_guarded bs)
  guarded_are no_guarded = refl
  guarded_are (more_guarded p e s bs) = then_others (gotos_in s) (gotos_guarded bs) (item s ∷ inside s) (inside_guarded bs) (gotos_are s) (guarded_are bs)

not_true : (b : Bool) → not b ≡ false → b ≡ true
not_true true h = refl
not_true false h = absurd (cc)

abbrev is_unknown : Archetype → PlacedName → Bool
is_unknown a t = not (is_among t.name (map placed_name (rules.labels a)) || same_name t.name rules.done)

-- each `goto` of the body names one of its labels or Done
pub known : (a : Archetype) → unknown_label a ≡ [] → (x : Name) → IsAmong x (gotos_among (labeled a.body)) → (x ≡ done) ⊎ IsAmong x (labels_among (labeled a.body))
known a h x among = go (is_unknown a from.0) refl
  where
    ts : List PlacedName
    ts = targets_of (with_inside a.body)

    from : (t : PlacedName) × IsAmong t ts × (x ≡ placed_name t)
    from = from_map placed_name x ts (subst (IsAmong x) (among_are (labeled a.body) ∙ ap target_names (sym (with_inside_is a.body))) among)

    none : filter (is_unknown a) ts ≡ []
    none = empty_map (λ t. found_at t.place (UnknownLabel a.name.name t.name)) (filter (is_unknown a) ts) h

    by : (is_among from.0.name (map placed_name (rules.labels a)) ≡ true) ⊎ (same_name from.0.name rules.done ≡ true) → (x ≡ done) ⊎ IsAmong x (labels_among (labeled a.body))
    by (inl e) = inr (subst (IsAmong x) (names_of_body a.body) (subst (λ y. IsAmong y (map placed_name (rules.labels a))) (sym from.2) (among_is from.0.name (map placed_name (rules.labels a)) e)))
    by (inr e) = inl (from.2 ∙ same_name-is from.0.name rules.done e)

    go : (b : Bool) → is_unknown a from.0 ≡ b → (x ≡ done) ⊎ IsAmong x (labels_among (labeled a.body))
    go true e = absurd (empty_none from.0 (filter (is_unknown a) ts) none (among_filter (is_unknown a) from.0 ts from.1 e))
    go false e = by (or_in (is_among from.0.name (map placed_name (rules.labels a))) (same_name from.0.name rules.done) (not_true (is_among from.0.name (map placed_name (rules.labels a)) || same_name from.0.name rules.done) e))

-- ---- loops

-- it is no `while` without a label
abbrev HasLabel : Item → Type 0
HasLabel i = is_loop i.1 ≡ true → is_none i.0 ≡ true → ⊥

abbrev AllHave : List Item → Type 0
AllHave is = (i : Item) → IsAmong i is → HasLabel i

first_of : (is js : List Item) → AllHave (is ++ js) → AllHave is
first_of is js h i a = h i (among_left i is js a)

second_of : (is js : List Item) → AllHave (is ++ js) → AllHave js
second_of is js h i a = h i (among_right i is js a)

behind : (j : Item) (is : List Item) → AllHave (j ∷ is) → AllHave is
behind j is h i a = h i (inr a)

-- a statement without a label is no `while`
not_loop : (s : Statement) → AllHave (item s ∷ inside s) → is_loop s ≡ true → ⊥
not_loop s h e = h (item s) (inl refl) e refl

mutual
  -- of a statement that is no `while`
  unlooped : (s : Statement) → (is_loop s ≡ true → ⊥) → AllHave (inside s) → NoBareWhile s
  unlooped (skip p) n h = tt
  unlooped (assign p x) n h = tt
  unlooped (if_then p bs) n h = guarded_unlooped bs h
  unlooped (if_else p bs s) n h =
      (guarded_unlooped bs (first_of (inside_guarded bs) (item s ∷ inside s) h), unlooped s (not_loop s (second_of (inside_guarded bs) (item s ∷ inside s) h)) (behind (item s) (inside s) (second_of (inside_guarded bs) (item s ∷ inside s) h)))
  unlooped (while_do p e s) n h = n refl
  unlooped (either_of p ss) n h = each_unlooped ss h
  unlooped (await_that p e) n h = tt
  unlooped (with_in p ws s) n h = unlooped s (not_loop s h) (behind (item s) (inside s) h)
  unlooped (print_out p e) n h = tt
  unlooped (assert_that p e) n h = tt
  unlooped (go_to p l) n h = tt
  unlooped (call_macro p m es) n h = tt
  unlooped (yield_as p e) n h = tt
  unlooped (block p ls) n h = labeled_unlooped ls h

  each_unlooped : (ss : Statements) → AllHave (inside_all ss) → NoneEach ss
  each_unlooped no_statements h = tt
  each_unlooped (more_statements s ss) h =
      (unlooped s (not_loop s (first_of (item s ∷ inside s) (inside_all ss) h)) (behind (item s) (inside s) (first_of (item s ∷ inside s) (inside_all ss) h)), each_unlooped ss (second_of (item s ∷ inside s) (inside_all ss) h))

  labeled_unlooped : (ls : LabeledStatements) → AllHave (inside_labeled ls) → NoneAmong ls
  labeled_unlooped no_labeled h = tt
  labeled_unlooped (more_labeled None s ls) h =
      (unlooped s (not_loop s (first_of (item s ∷ inside s) (inside_labeled ls) h)) (behind (item s) (inside s) (first_of (item s ∷ inside s) (inside_labeled ls) h)), labeled_unlooped ls (second_of (item s ∷ inside s) (inside_labeled ls) h))
  labeled_unlooped (more_labeled (Some y) s ls) h = labeled_unlooped ls (second_of ((Some y, s) ∷ inside s) (inside_labeled ls) h)

  guarded_unlooped : (bs : GuardedStatements) → AllHave (inside_guarded bs) → NoneGuarded bs
  guarded_unlooped no_guarded h = tt
  guarded_unlooped (more_guarded p e s bs) h =
      (unlooped s (not_loop s (first_of (item s ∷ inside s) (inside_guarded bs) h)) (behind (item s) (inside s) (first_of (item s ∷ inside s) (inside_guarded bs) h)), guarded_unlooped bs (second_of (item s ∷ inside s) (inside_guarded bs) h))

loop_there : (i : Item) → is_loop i.1 ≡ true → IsAmong i (loop_of i)
loop_there i e = subst (λ b. IsAmong i (if b then i ∷ [] else [])) (sym e) (inl refl)

-- a body with statements needs a label at each loop
abbrev at_items : Item → List Item
at_items i = loop_of i ++ in_block i.1

loops_labeled : (b : List Item) → unlabeled_places (needing b) ≡ [] → AllHave (with_inside b)
loops_labeled b h i a loop bare =
    let none : filter (λ (j : Item). is_none j.0) (needing b) ≡ [] = empty_map (λ (j : Item). place_of j.1) (filter (λ (j : Item). is_none j.0) (needing b)) h in
    let here : IsAmong i (at_items i) = among_left i (loop_of i) (in_block i.1) (loop_there i loop) in
    let needs : IsAmong i (needing b) = among_right i (behind_jumps true (labeled b)) (flat_map at_items (with_inside b)) (among_flat_map at_items i i (with_inside b) a here) in
    empty_none i (filter (λ (j : Item). is_none j.0) (needing b)) none (among_filter (λ (j : Item). is_none j.0) i (needing b) needs bare)

whiles_in : (n : PlacedName) (b : List Item) → missing n b ≡ [] → NoneAmong (labeled b)
whiles_in n [] h = tt
whiles_in n (i ∷ is) h = labeled_unlooped (labeled (i ∷ is)) (subst AllHave (with_inside_is (i ∷ is)) (loops_labeled (i ∷ is) h))

-- each `while` of the body has a label
pub whiles : (a : Archetype) → needs_label a ≡ [] → NoneAmong (labeled a.body)
whiles a h = whiles_in a.name a.body (empty_map (λ p. found_at p (NeedsLabel a.name.name (last_before p [] (rules.labels a)))) (missing a.name a.body) h)

-- ---- what the rules find

pub record JumpsFound (s : Spec) : Type 0 where
  pub needs : flat_map needs_label s.archetypes ≡ []
  pub unknown : flat_map unknown_label s.archetypes ≡ []

-- the rules behind that on the targets of `goto`s
abbrev behind_unknown : Spec → List (List Finding)
behind_unknown s = flat_map label_twice s.archetypes ∷ flat_map reserved_done s.archetypes ∷ flat_map yield_rule s.mappings ∷ flat_map too_many_labels s.archetypes ∷ []

pub none_found : (s : Spec) → label_refusal s ≡ None → JumpsFound s
none_found s h =
    let later = next_label_rules (flat_map needs_label s.archetypes) (later_rules s) h in
    let next = next_label_rules (flat_map label_in_with s.archetypes ++ flat_map label_in_macro s.macros ++ flat_map label_in_mapping s.mappings) (rules_behind s) later in
    record {
      needs = first_label_rule (flat_map needs_label s.archetypes) (later_rules s) h;
      unknown = first_label_rule (flat_map unknown_label s.archetypes) (behind_unknown s) next;
    }
