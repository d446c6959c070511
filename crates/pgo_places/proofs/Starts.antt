-- What instructions do is the same whether an attempt keeps its changes apart, or makes them in place.
use Rattle.std.proofs.Common.{◌≡◌, ℕ, zero, suc, Bool, true, false, List, [], ◌∷◌, ◌++◌, Option, Some, None, refl, ap, sym, ◌∙◌, map, reverse, drop, length}
use Rattle.std.proofs.lemmas.List.{reverse-append, reverse-reverse, map-append}
use Rattle.std.specs.Prelude.{if◌then◌else◌, ◌&&◌, get_or, option_and_then}
use Rattle.pgo_base.specs.BindingsView.{onto}
use Rattle.pgo_base.specs.Data.{Data, string}
use Rattle.pgo_base.specs.Lookup.{Name, Names, Vars, find, same_name}
use Rattle.pgo_base.specs.Tree.{Tree}
use Rattle.pgo_model.specs.Operators.{members_of, truth_of}
use Rattle.pgo_model.specs.Options.{on}
use Rattle.pgo_model.specs.System.{Words}
use Rattle.pgo_model.specs.Val.{val}
use Rattle.pgo_model.specs.Written.{pc, self_name}
use Rattle.pgo_sections.specs.BoundValues.{bindable, value_under}
use Rattle.pgo_sections.specs.Code.{Place, Whole, Own}
use Rattle.pgo_sections.specs.Context.{index_value}
use Rattle.pgo_sections.specs.Exec.{MacroEnd, Gives, Stops}
use Rattle.pgo_sections.specs.SectionRun.{ChoiceMade}
use Rattle.pgo_workers.specs.Walk as walks
use Rattle.pgo_workers.specs.Tried.{Leads, LeafTree}
use Rattle.pgo_workers.specs.Walk.{Stop, Touch, Goes}
use Rattle.pgo_accesses.specs.Accesses as accesses
use Rattle.pgo_accesses.specs.Accesses.{Attempt, Progress, begun, printing, picked_number, choosing, becoming, no_value, fails, waits, with_value, if_true, with_member, is_empty, all_shallow, own_next, can_stand, is_too_deep, marked, behind_read, behind_write, left_by_read, left_by_write, read_here, write_here}
use Rattle.pgo_code.specs.Steps as steps
use Rattle.pgo_code.specs.declared.program.Code.{Code}
use Rattle.pgo_code.specs.declared.program.Variable.{Variable}
use Rattle.pgo_code.specs.Steps.{Unmapped, Evaluation, Target, Resource, Own as OwnTarget, Content, Step, Bind, Pick, Unbind, Assign, Set, Await, Assert, Print, Branch, Choose, Jump, End, Read, Write, Fail, accessing, reading, writing, unbound}
use Rattle.pgo_places.specs.FirstStands.{fixed_of, start_of, variable_of}
use Rattle.pgo_places.specs.Stands.{Fixed, Stand, updated, is_global, is_global_named, is_own_named, own_put, labelled, cleared, assigned, going, binding, reads_then, evaluating, value_in, putting, ended, with_words, resume}
use Rattle.pgo_places.proofs.Evaluations.{same_function}
use Rattle.pgo_places.proofs.Names.{onto_reverse}

reverse_first : {A : Type 0} (x : A) (xs : List A) → reverse (x ∷ xs) ≡ reverse xs ++ (x ∷ [])
reverse_first x xs = reverse-append (x ∷ []) xs

map_reverse : {A B : Type 0} (f : A → B) (xs : List A) → map f (reverse xs) ≡ reverse (map f xs)
map_reverse f [] = refl
map_reverse f (x ∷ xs) =
    ap (map f) (reverse_first x xs) ∙ map-append f (reverse xs) (x ∷ []) ∙ ap (λ l. l ++ (f x ∷ [])) (map_reverse f xs) ∙ sym (reverse_first (f x) (map f xs))

onto_map : {A B : Type 0} (f : A → B) (qs : List A) (tl : List B) → onto (map f (reverse qs)) tl ≡ map f qs ++ tl
onto_map f qs tl = onto_reverse (map f (reverse qs)) tl ∙ ap (λ l. l ++ tl) (ap reverse (map_reverse f qs) ∙ reverse-reverse (map f qs))

-- the own component that a place is
abbrev pub owner_of : Name × Place → Option Name
owner_of q = elim q.1 as (λ o. Option Name) [ Whole g ↦ None | Own y ↦ Some y ]

-- what a variable stands for
abbrev pub entry : Attempt → Vars → Vars → Name × Place → Name × Option Data
entry a seen ch q = (q.0, elim q.1 as (λ o. Option Data) [ Whole g ↦ find q.0 seen | Own y ↦ on (find y a.own) (find y ch) (λ v. Some v) ])

abbrev pub entries : Attempt → Vars → Vars → Names
entries a seen ch = map (entry a seen ch) (reverse a.places)

abbrev pub fixed_at : Attempt → Fixed
fixed_at a = record { identity = self_name; owners = map owner_of (reverse a.places) }

abbrev pub own_now : Vars → walks.Own → walks.Own
own_now ch [] = []
own_now ch (p ∷ o) = (p.0, on p.1 (find p.0 ch) (λ v. v)) ∷ own_now ch o

abbrev pub stand_at : Words → Attempt → Names → Progress → Stand
stand_at first a env p = record {
  done = 0;
  value = None;
  env = env;
  variables = entries a [] p.changes;
  own = own_now p.changes a.own;
  first = first;
  words = a.words;
  progress = record p { changes = [] };
}

-- what expressions and accesses see besides
abbrev pub bare : Attempt → Attempt
bare a = record a { places = []; by_element = λ g. false; own = []; words = λ n. 0 }

updated_map : {A : Type 0} (t : Option Name → Name → Bool) (o : Option Data) (f : A → Option Name) (g h : A → Name × Option Data)
    → ((q : A) → ((g q).0, (if t (f q) (g q).0 then o else (g q).1)) ≡ h q) → (qs : List A) → updated t o (map f qs) (map g qs) ≡ map h qs
updated_map t o f g h e [] = refl
updated_map t o f g h e (q ∷ qs) = λ i. e q i ∷ updated_map t o f g h e qs i

see_entry : (a : Attempt) (seen ch : Vars) (x : Name) (v : Data) (n : Name) (pl : Place)
    → (n, (if is_global_named x (owner_of (n, pl)) n then Some v else (entry a seen ch (n, pl)).1)) ≡ entry a ((x, v) ∷ seen) ch (n, pl)
see_entry a seen ch x v n (Whole g) = ap (λ o. (n, o)) (go (same_name n x))
  where
    go : (b : Bool) → (if b then Some v else find n seen) ≡ (if b then Some v else find n seen)
    go b = refl
see_entry a seen ch x v n (Own y) = refl

clear_entry : (a : Attempt) (seen ch : Vars) (n : Name) (pl : Place)
    → (n, (if is_global (owner_of (n, pl)) n then None else (entry a seen ch (n, pl)).1)) ≡ entry a [] ch (n, pl)
clear_entry a seen ch n (Whole g) = refl
clear_entry a seen ch n (Own y) = refl

put_entry : (a : Attempt) (ch : Vars) (y : Name) (v : Data) (n : Name) (pl : Place)
    → (n, (if is_own_named y (owner_of (n, pl)) n then Some v else (entry a [] ch (n, pl)).1)) ≡ entry a [] ((y, v) ∷ ch) (n, pl)
put_entry a ch y v n (Whole g) = refl
put_entry a ch y v n (Own z) = ap (λ o. (n, o)) (go (same_name z y))
  where
    go : (b : Bool) → (if b then Some v else on (find z a.own) (find z ch) (λ x. Some x)) ≡ on (find z a.own) (if b then Some v else find z ch) (λ x. Some x)
    go true = refl
    go false = refl

module _ (a : Attempt) (first : Words) where
  abbrev K : Fixed
  K = fixed_at a

  sees : (seen ch : Vars) (x : Name) (v : Data) → updated (is_global_named x) (Some v) K.owners (entries a seen ch) ≡ entries a ((x, v) ∷ seen) ch
  sees seen ch x v = updated_map (is_global_named x) (Some v) owner_of (entry a seen ch) (entry a ((x, v) ∷ seen) ch) (λ q. see_entry a seen ch x v q.0 q.1) (reverse a.places)

  clears : (env : Names) (p : Progress) → cleared K (stand_at first a env p) ≡ stand_at first a env p
  clears env p =
      ap (λ vs. record (stand_at first a env p) { variables = vs })
      (updated_map is_global None owner_of (entry a [] p.changes) (entry a [] p.changes) (λ q. clear_entry a [] p.changes q.0 q.1) (reverse a.places))

  own_puts : (y : Name) (v : Data) (ch : Vars) (o : walks.Own) → own_put y v (own_now ch o) ≡ own_now ((y, v) ∷ ch) o
  own_puts y v ch [] = refl
  own_puts y v ch (p ∷ o) = λ i. (p.0, go (same_name p.0 y) i) ∷ own_puts y v ch o i
    where
      go : (b : Bool) → (if b then v else on p.1 (find p.0 ch) (λ x. x)) ≡ on p.1 (if b then Some v else find p.0 ch) (λ x. x)
      go true = refl
      go false = refl

  assigns : (env : Names) (p : Progress) (y : Name) (v : Data) → assigned K y v (stand_at first a env p) ≡ stand_at first a env (record p { changes = (y, v) ∷ p.changes })
  assigns env p y v = λ i. record (stand_at first a env p) {
    variables = updated_map (is_own_named y) (Some v) owner_of (entry a [] p.changes) (entry a [] ((y, v) ∷ p.changes)) (λ q. put_entry a p.changes y v q.0 q.1) (reverse a.places) i;
    own = own_puts y v p.changes a.own i;
  }

  views : (seen ch : Vars) (qs : List (Name × Place)) → accesses.view a seen ch qs ≡ map (entry a seen ch) qs ++ ((self_name, Some a.id) ∷ [])
  views seen ch [] = refl
  views seen ch (q ∷ qs) = ap (λ l. entry a seen ch q ∷ l) (views seen ch qs)

  values : (e : Tree) (env : Names) (seen ch : Vars) → accesses.value_of a e env seen ch ≡ value_in (bare a) K e env (entries a seen ch)
  values e env seen ch =
      ap (λ ns. val e (record { names = env ++ ns; part = None; now = []; next = None; defs = a.defs }))
      (views seen ch a.places ∙ sym (onto_map (entry a seen ch) a.places ((self_name, Some a.id) ∷ [])))

  reads : (us : List Unmapped) (seen ch : Vars) (f : Vars → LeafTree) (g : Names → LeafTree) → ((ss : Vars) → f ss ≡ g (entries a ss ch)) → steps.reads_then us seen f ≡ reads_then K us (entries a seen ch) g
  reads [] seen ch f g h = h seen
  reads (u ∷ us) seen ch f g h =
      ap (λ (F : Data → LeafTree). with_value u.1 (λ r. Touch r (λ v. v) F))
      (same_function (λ v. steps.reads_then us ((u.0, v) ∷ seen) f) (λ v. reads_then K us (updated (is_global_named u.0) (Some v) K.owners (entries a seen ch)) g)
      (λ v. reads us ((u.0, v) ∷ seen) ch f g h ∙ ap (λ vs. reads_then K us vs g) (sym (sees seen ch u.0 v))))

  evaluates : (e : Evaluation) (env : Names) (p : Progress) (f g : Option Data → LeafTree) → ((o : Option Data) → f o ≡ g o)
      → steps.evaluating a e env p f ≡ evaluating (bare a) K e (stand_at first a env p) g
  evaluates e env p f g h =
      reads e.reads [] p.changes (λ seen. f (accesses.value_of a e.expression env seen p.changes)) (λ vs. g (value_in (bare a) K e.expression env vs))
      (λ seen. ap f (values e.expression env seen p.changes) ∙ h (value_in (bare a) K e.expression env (entries a seen p.changes)))

  with_same : {A : Type 0} (o : Option A) (f g : A → LeafTree) → ((v : A) → f v ≡ g v) → with_value o f ≡ with_value o g
  with_same None f g h = refl
  with_same (Some v) f g h = h v

  if_same : (o : Option Bool) (w x y z : LeafTree) → w ≡ x → y ≡ z → if_true o w y ≡ if_true o x z
  if_same o w x y z h g = λ i. if_true o (h i) (g i)

  member_same : (ms : List Data) (p : Progress) (f g : Data → Progress → LeafTree) → ((v : Data) (n i : ℕ) → f v (choosing n i p) ≡ g v (choosing n i (record p { changes = [] })))
      → with_member a ms p f ≡ with_member (with_words a.words (bare a)) ms (record p { changes = [] }) g
  member_same [] p f g h = refl
  member_same (m ∷ ms) p f g h = let n = length (m ∷ ms) in let i = picked_number a p n in h (get_or (m ∷ ms) i m) n i

  putting_same : (t : Target) (v : Data) (env : Names) (p : Progress) (f : Progress → LeafTree) (g : Stand → LeafTree) → ((q : Progress) → f q ≡ g (stand_at first a env q))
      → steps.putting t v p f ≡ putting K t v (stand_at first a env p) g
  putting_same (Resource r) v env p f g h =
      with_same r (λ n. Touch n (λ old. v) (λ old. f (becoming false n v p))) (λ n. Touch n (λ old. v) (λ old. g (going (becoming false n v (record p { changes = [] })) (stand_at first a env p))))
      (λ n. ap (λ w. Touch n (λ old. v) (λ old. w)) (h (becoming false n v p)))
  putting_same (OwnTarget y) v env p f g h = h (record p { changes = (y, v) ∷ p.changes }) ∙ ap g (sym (assigns env p y v))

  labels : (l : Name) (ch : Vars) (o : walks.Own) → own_next l ch o ≡ labelled l (own_now ch o)
  labels l ch [] = refl
  labels l ch (p ∷ o) = ap (λ os. (p.0, if same_name p.0 pc then string l else on p.1 (find p.0 ch) (λ v. v)) ∷ os) (labels l ch o)

  ended_same : (l : Name) (env : Names) (p : Progress) → accesses.ended a l p ≡ ended l (stand_at first a env p)
  ended_same l env p = ap (λ o. if is_empty p.too_deep && all_shallow o then Stop (Leads (Goes o p.prints)) else no_value) (labels l p.changes a.own)

  read_same : (e : Bool) (r : ℕ) (p : Progress) (m : MacroEnd (Data × Data)) (f g : Data → Progress → LeafTree)
      → ((v : Data) (d : List ℕ) (u : List ChoiceMade) → f v (record p { too_deep = d; points = u }) ≡ g v (record p { changes = []; too_deep = d; points = u }))
      → behind_read e r p m f ≡ behind_read e r (record p { changes = [] }) m g
  read_same e r p (Gives x cs) f g h = ap (λ w. if can_stand e x.1 then w else no_value) (h x.0 (marked (is_too_deep e x.1) r p.too_deep) cs)
  read_same e r p (Stops kind cs) f g h = refl

  write_same : (e : Bool) (r : ℕ) (p : Progress) (m : MacroEnd Data) (f g : Progress → LeafTree)
      → ((d : List ℕ) (u : List ChoiceMade) → f (record p { too_deep = d; points = u }) ≡ g (record p { changes = []; too_deep = d; points = u }))
      → behind_write e r p m f ≡ behind_write e r (record p { changes = [] }) m g
  write_same e r p (Gives x cs) f g h = ap (λ w. if can_stand e x then w else no_value) (h (marked (is_too_deep e x) r p.too_deep) cs)
  write_same e r p (Stops kind cs) f g h = refl

  reading_same : (c : Content) (j : Option Data) (p : Progress) (f g : Data → Progress → LeafTree)
      → ((v : Data) (d : List ℕ) (u : List ChoiceMade) → f v (record p { too_deep = d; points = u }) ≡ g v (record p { changes = []; too_deep = d; points = u }))
      → reading a c j p f ≡ reading (with_words a.words (bare a)) c j (record p { changes = [] }) g
  reading_same c j p f g h =
      let q : (λ (r : ℕ) (at : Option Data). Touch r (λ v. left_by_read v (read_here a c.reads at p.points v)) (λ v. behind_read c.is_element r p (read_here a c.reads at p.points v) f))
      ≡ (λ (r : ℕ) (at : Option Data). Touch r (λ v. left_by_read v (read_here a c.reads at p.points v)) (λ v. behind_read c.is_element r (record p { changes = [] }) (read_here a c.reads at p.points v) g)) =
      λ i r at. Touch r (λ v. left_by_read v (read_here a c.reads at p.points v)) (λ v. read_same c.is_element r p (read_here a c.reads at p.points v) f g h i) in
      ap (λ F. accessing a c j F) q

  writing_same : (c : Content) (j o : Option Data) (p : Progress) (f g : Progress → LeafTree)
      → ((d : List ℕ) (u : List ChoiceMade) → f (record p { too_deep = d; points = u }) ≡ g (record p { changes = []; too_deep = d; points = u }))
      → writing a c j o p f ≡ writing (with_words a.words (bare a)) c j o (record p { changes = [] }) g
  writing_same c j o p f g h =
      let q : (λ (r : ℕ) (at : Option Data). Touch r (λ v. left_by_write v (write_here a c.writes at o p.points v)) (λ v. behind_write c.is_element r p (write_here a c.writes at o p.points v) f))
      ≡ (λ (r : ℕ) (at : Option Data). Touch r (λ v. left_by_write v (write_here a c.writes at o p.points v)) (λ v. behind_write c.is_element r (record p { changes = [] }) (write_here a c.writes at o p.points v) g)) =
      λ i r at. Touch r (λ v. left_by_write v (write_here a c.writes at o p.points v)) (λ v. write_same c.is_element r p (write_here a c.writes at o p.points v) f g h i) in
      ap (λ F. accessing a c j F) q

  -- from each point on
  pub same_walk : (n : ℕ) (is : List Step) (env : Names) (p : Progress) → steps.steps n a is env p ≡ resume (bare a) K n is (stand_at first a env p)
  same_walk zero is env p = refl
  same_walk (suc n) [] env p = refl
  same_walk (suc n) (Bind w e ∷ is) env p =
      evaluates e env p (λ o. with_value (bindable o) (λ v. steps.steps n a is ((w, Some v) ∷ env) p)) (λ o. with_value (bindable o) (λ v. resume (bare a) K n is (binding w v (cleared K (stand_at first a env p)))))
      (λ o. with_same (bindable o) (λ v. steps.steps n a is ((w, Some v) ∷ env) p) (λ v. resume (bare a) K n is (binding w v (cleared K (stand_at first a env p))))
      (λ v. same_walk n is ((w, Some v) ∷ env) p ∙ ap (λ t. resume (bare a) K n is (binding w v t)) (sym (clears env p))))
  same_walk (suc n) (Pick w e ∷ is) env p =
      evaluates e env p (λ o. with_value (option_and_then members_of o) (λ ms. with_member a ms p (λ v q. steps.steps n a is ((w, Some v) ∷ env) q)))
      (λ o. with_value (option_and_then members_of o) (λ ms. with_member (with_words a.words (bare a)) ms (record p { changes = [] }) (λ v q. resume (bare a) K n is (binding w v (going q (cleared K (stand_at first a env p)))))))
      (λ o. with_same (option_and_then members_of o) (λ ms. with_member a ms p (λ v q. steps.steps n a is ((w, Some v) ∷ env) q))
      (λ ms. with_member (with_words a.words (bare a)) ms (record p { changes = [] }) (λ v q. resume (bare a) K n is (binding w v (going q (cleared K (stand_at first a env p))))))
      (λ ms. member_same ms p (λ v q. steps.steps n a is ((w, Some v) ∷ env) q) (λ v q. resume (bare a) K n is (binding w v (going q (cleared K (stand_at first a env p)))))
      (λ v m i. same_walk n is ((w, Some v) ∷ env) (choosing m i p) ∙ ap (λ t. resume (bare a) K n is (binding w v (going (choosing m i (record p { changes = [] })) t))) (sym (clears env p)))))
  same_walk (suc n) (Unbind ∷ is) env p = same_walk n is (unbound env) p
  same_walk (suc n) (Assign t w ∷ is) env p =
      with_same (value_under w env) (λ v. steps.putting t v p (steps.steps n a is env)) (λ v. putting K t v (stand_at first a env p) (resume (bare a) K n is))
      (λ v. putting_same t v env p (steps.steps n a is env) (resume (bare a) K n is) (λ q. same_walk n is env q))
  same_walk (suc n) (Set t e ∷ is) env p =
      evaluates e env p (λ o. with_value (bindable o) (λ v. steps.putting t v p (steps.steps n a is env))) (λ o. with_value (bindable o) (λ v. putting K t v (cleared K (stand_at first a env p)) (resume (bare a) K n is)))
      (λ o. with_same (bindable o) (λ v. steps.putting t v p (steps.steps n a is env)) (λ v. putting K t v (cleared K (stand_at first a env p)) (resume (bare a) K n is))
      (λ v. putting_same t v env p (steps.steps n a is env) (resume (bare a) K n is) (λ q. same_walk n is env q) ∙ ap (λ s. putting K t v s (resume (bare a) K n is)) (sym (clears env p))))
  same_walk (suc n) (Await e ∷ is) env p =
      evaluates e env p (λ o. if_true (truth_of o) (steps.steps n a is env p) (waits p)) (λ o. if_true (truth_of o) (resume (bare a) K n is (cleared K (stand_at first a env p))) (waits p))
      (λ o. ap (λ w. if_true (truth_of o) w (waits p)) (same_walk n is env p ∙ ap (λ t. resume (bare a) K n is t) (sym (clears env p))))
  same_walk (suc n) (Assert e ∷ is) env p =
      evaluates e env p (λ o. if_true (truth_of o) (steps.steps n a is env p) fails) (λ o. if_true (truth_of o) (resume (bare a) K n is (cleared K (stand_at first a env p))) fails)
      (λ o. ap (λ w. if_true (truth_of o) w fails) (same_walk n is env p ∙ ap (λ t. resume (bare a) K n is t) (sym (clears env p))))
  same_walk (suc n) (Print e ∷ is) env p =
      evaluates e env p (λ o. with_value o (λ v. steps.steps n a is env (printing v p))) (λ o. with_value o (λ v. resume (bare a) K n is (going (printing v (record p { changes = [] })) (cleared K (stand_at first a env p)))))
      (λ o. with_same o (λ v. steps.steps n a is env (printing v p)) (λ v. resume (bare a) K n is (going (printing v (record p { changes = [] })) (cleared K (stand_at first a env p))))
      (λ v. same_walk n is env (printing v p) ∙ ap (λ t. resume (bare a) K n is (going (printing v (record p { changes = [] })) t)) (sym (clears env p))))
  same_walk (suc n) (Branch e j ∷ is) env p =
      evaluates e env p (λ o. if_true (truth_of o) (steps.steps n a is env p) (steps.steps n a (drop j is) env p))
      (λ o. if_true (truth_of o) (resume (bare a) K n is (cleared K (stand_at first a env p))) (resume (bare a) K n (drop j is) (cleared K (stand_at first a env p))))
      (λ o. if_same (truth_of o) (steps.steps n a is env p) (resume (bare a) K n is (cleared K (stand_at first a env p))) (steps.steps n a (drop j is) env p) (resume (bare a) K n (drop j is) (cleared K (stand_at first a env p)))
      (same_walk n is env p ∙ ap (λ t. resume (bare a) K n is t) (sym (clears env p)))
      (same_walk n (drop j is) env p ∙ ap (λ t. resume (bare a) K n (drop j is) t) (sym (clears env p))))
  same_walk (suc n) (Choose js ∷ is) env p = let m = length js in let i = picked_number a p m in same_walk n (drop (get_or js i 0) is) env (choosing m i p)
  same_walk (suc n) (Jump j ∷ is) env p = same_walk n (drop j is) env p
  same_walk (suc n) (End l ∷ is) env p = ended_same l env p
  same_walk (suc n) (Read w c i ∷ is) env p =
      with_same (index_value i env) (λ j. reading a c j p (λ v q. steps.steps n a is ((w, Some v) ∷ env) q))
      (λ j. reading (with_words a.words (bare a)) c j (record p { changes = [] }) (λ v q. resume (bare a) K n is (binding w v (going q (stand_at first a env p)))))
      (λ j. reading_same c j p (λ v q. steps.steps n a is ((w, Some v) ∷ env) q) (λ v q. resume (bare a) K n is (binding w v (going q (stand_at first a env p))))
      (λ v d u. same_walk n is ((w, Some v) ∷ env) (record p { too_deep = d; points = u })))
  same_walk (suc n) (Write c i w ∷ is) env p =
      with_same (index_value i env) (λ j. writing a c j (value_under w env) p (steps.steps n a is env))
      (λ j. writing (with_words a.words (bare a)) c j (value_under w env) (record p { changes = [] }) (λ q. resume (bare a) K n is (going q (stand_at first a env p))))
      (λ j. writing_same c j (value_under w env) p (steps.steps n a is env) (λ q. resume (bare a) K n is (going q (stand_at first a env p)))
      (λ d u. same_walk n is env (record p { too_deep = d; points = u })))
  same_walk (suc n) (Fail ∷ is) env p = refl

map_twice : {A B C : Type 0} (f : A → B) (g : B → C) (xs : List A) → map g (map f xs) ≡ map (λ x. g (f x)) xs
map_twice f g [] = refl
map_twice f g (x ∷ xs) = ap (λ l. g (f x) ∷ l) (map_twice f g xs)

abbrev named : Variable → Name × Option Name
named v = (v.name, v.own)

abbrev placed : Name × Place → Name × Option Name
placed q = (q.0, owner_of q)

abbrev valued : walks.Own → Name × Option Name → Name × Option Data
valued own n = (n.0, on None n.1 (λ y. find y own))

entry_is : (a : Attempt) (n : Name) (pl : Place) → valued a.own (placed (n, pl)) ≡ entry a [] [] (n, pl)
entry_is a n (Whole g) = refl
entry_is a n (Own y) = refl

unchanged : (o : walks.Own) → own_now [] o ≡ o
unchanged [] = refl
unchanged (p ∷ o) = ap (λ l. p ∷ l) (unchanged o)

map_same : {A B : Type 0} (f g : A → B) → ((x : A) → f x ≡ g x) → (xs : List A) → map f xs ≡ map g xs
map_same f g h [] = refl
map_same f g h (x ∷ xs) = λ i. h x i ∷ map_same f g h xs i

-- the section of a program, where its variables are the places of the attempt
pub starts : (a : Attempt) (first : Words) (c : Code) (xs : List Step) → map named c.variables.items ≡ map placed a.places
    → resume (bare a) (fixed_of c) (suc (length xs)) xs (start_of c a.own first a.words) ≡ steps.steps_of a xs
starts a first c xs h =
    let owners : reverse (map (λ v. v.own) c.variables.items) ≡ map owner_of (reverse a.places) =
    ap reverse (sym (map_twice named (λ n. n.1) c.variables.items) ∙ ap (map (λ n. n.1)) h ∙ map_twice placed (λ n. n.1) a.places) ∙ sym (map_reverse owner_of a.places) in
    let variables : reverse (map (variable_of a.own) c.variables.items) ≡ entries a [] [] =
    ap reverse (sym (map_twice named (valued a.own) c.variables.items) ∙ ap (map (valued a.own)) h ∙ map_twice placed (valued a.own) a.places
    ∙ map_same (λ q. valued a.own (placed q)) (entry a [] []) (λ q. entry_is a q.0 q.1) a.places)
    ∙ sym (map_reverse (entry a [] []) a.places) in
    ap (λ os. resume (bare a) (record { identity = self_name; owners = os }) (suc (length xs)) xs (start_of c a.own first a.words)) owners
    ∙ ap (λ vs. resume (bare a) (fixed_at a) (suc (length xs)) xs (record (start_of c a.own first a.words) { variables = vs })) variables
    ∙ ap (λ o. resume (bare a) (fixed_at a) (suc (length xs)) xs (record (stand_at first a [] begun) { own = o })) (sym (unchanged a.own))
    ∙ sym (same_walk a first (suc (length xs)) xs [] begun)
