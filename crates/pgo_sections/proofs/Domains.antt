-- A section's end has the variables of its start, is no deeper than a state may be, and keeps domains.
use Rattle.std.proofs.Common.{◌≡◌, ℕ, zero, suc, Bool, true, false, if◌then◌else◌, List, [], ◌∷◌, length, get_or, Option, Some, None, refl, sym, ap, ◌∙◌, subst, arith, option_map, option_and_then}
use Rattle.std.specs.Prelude.{nat_lt}
use Rattle.std.specs.declared.cmp.Ordering.{Ordering}
use Rattle.std.specs.declared.cmp.Ordering.TheVariants.{Less, Equal, Greater}
use Rattle.pgo_base.specs.Data.{Data, string, function, Pairs, pairs, graph, keys, graph-pairs}
use Rattle.pgo_base.specs.Exact.{data_exact}
use Rattle.pgo_base.specs.Order.{data_cmp}
use Rattle.pgo_base.specs.Lookup.{Name, Names, Vars, same_name, find}
use Rattle.pgo_base.specs.Size.{depth}
use Rattle.std.specs.Ordering.{is_eq}
use Rattle.std.proofs.lemmas.Option.{same_Some}
use Rattle.pgo_model.specs.Names.{same_name-is, is_among}
use Rattle.pgo_model.specs.Operators.{members_of, truth_of, same_data, lookup, built, if_few, most_depth, most_members, function_of, replace_at, put_at, set_from}
use Rattle.pgo_model.specs.Options.{on}
use Rattle.pgo_model.specs.Outcome.{Blocked, NoValue, AssertFails, Next, Stuck, Nowhere}
use Rattle.pgo_model.specs.State.{is_shallow}
use Rattle.pgo_model.specs.System.{Words}
use Rattle.pgo_model.specs.Variables.{IsFunctionOn}
use Rattle.pgo_model.specs.Written.{pc}
use Rattle.pgo_sections.specs.SectionsAgree.{keys as names_of}
use Rattle.pgo_sections.specs.Code.{Whole, variable_of, Code, Empty, Skip, Let, Pick, Become, Set, Await, Assert, Print, If, Either, Seq, Goto, Yield, Read, Write, Codes, no_codes, more_codes}
use Rattle.pgo_sections.specs.Context.{Context, content, index_value, put_content, put_new, value_now, value_of, with_content}
use Rattle.pgo_sections.specs.Domains.{AllUse, HasIndex, HaveDomains, ByElements, KeepsDomain, place, own, elements}
use Rattle.pgo_sections.specs.Exec.{MacroEnd, Gives, Stops, with_choices, if_gives, touching, read_unmapped, becoming, count, exec_arm_with}
use Rattle.pgo_sections.specs.Macros.{block_read, block_write, exec}
use Rattle.pgo_sections.specs.BoundValues.{bindable, value_under, put_part, value_put}
use Rattle.pgo_sections.specs.SectionRun.{SectionRun, begun, printed, picked_number, chosen, Out, Go, Jump, Yielded, Stop, with_value, if_true, picked, go_on}
use Rattle.pgo_sections.specs.Section.{closed_value, closed, if_shallow, end_of, section}
use Rattle.pgo_sections.proofs.Closing.{closed_at, closed_keys, found_among, not_among}

-- ---- EXCEPT keeps the domain
pub same_of : (x y : Data) → same_data x y ≡ true → x ≡ y
same_of x y h = go (data_cmp x y) refl h
  where
    go : (o : Ordering) → data_cmp x y ≡ o → is_eq o ≡ true → x ≡ y
    go Equal e g = data_exact x y e
    go Less e g = absurd (cc)
    go Greater e g = absurd (cc)

replaced_keys : (i w : Data) (ps : List (Data × Data)) → keys (replace_at i w ps) ≡ keys ps
replaced_keys i w [] = refl
replaced_keys i w (p ∷ ps) = go (same_data i p.0) refl (replaced_keys i w ps)
  where
    go : (b : Bool) → same_data i p.0 ≡ b → keys (replace_at i w ps) ≡ keys ps → keys (if b then (i, w) ∷ ps else p ∷ replace_at i w ps) ≡ p.0 ∷ keys ps
    go true e more = ap (λ k. k ∷ keys ps) (same_of i p.0 e)
    go false e more = ap (λ ks. p.0 ∷ ks) more

built_is : (n : ℕ) (v w : Data) → built n v ≡ Some w → v ≡ w
built_is n v w h = go (nat_lt most_depth (depth v)) h
  where
    few : (b : Bool) → (if b then None else Some v) ≡ Some w → v ≡ w
    few true h = absurd (grind (arith, h))
    few false h = same_Some v w h

    go : (b : Bool) → (if b then None else if_few n v) ≡ Some w → v ≡ w
    go true h = absurd (grind (arith, h))
    go false h = few (nat_lt most_members n) h

-- what EXCEPT makes of a function at one index
abbrev put_in : Data → Data → Data → Option (List (Data × Data)) → Option Data
put_in i w f o =
    option_and_then (λ ps. elim (lookup i ps) as (λ o. Option Data) [ None ↦ Some f | Some part ↦ function_of (replace_at i w ps) ]) o

put_keeps : (i w : Data) (ps : Pairs) (g : Data) → put_in i w (function ps) (Some (graph ps)) ≡ Some g → IsFunctionOn (keys (graph ps)) (Some g)
put_keeps i w ps g h = go (lookup i (graph ps)) h
  where
    go : (o : Option Data) → (elim o as (λ o. Option Data) [ None ↦ Some (function ps) | Some part ↦ function_of (replace_at i w (graph ps)) ]) ≡ Some g → IsFunctionOn (keys (graph ps)) (Some g)
    go None h = (ps, sym h, refl)
    go (Some part) h =
        let made = replace_at i w (graph ps) in
        (pairs made, ap Some (sym (built_is (length made) (function (pairs made)) g h)), ap keys (graph-pairs made) ∙ replaced_keys i w (graph ps))

-- with the part at an identifier replaced a function stays one on its domain
pub part_keeps : (ks : List Data) (i : Data) (f v : Option Data) (g : Data) → IsFunctionOn ks f → put_part i f v ≡ Some g → IsFunctionOn ks (Some g)
part_keeps ks i f None g h e = absurd (grind (arith, e))
part_keeps ks i f (Some w) g h e =
    let at_f : option_and_then (λ f. put_at (i ∷ []) (λ part. Some w) (Some f)) (Some (function h.0)) ≡ Some g = ap (option_and_then (λ f. put_at (i ∷ []) (λ part. Some w) (Some f))) (sym h.1) ∙ e in
    subst (λ ks. IsFunctionOn ks (Some g)) h.2 (put_keeps i w h.0 g at_f)

-- ---- along a section
pub bindable_is : (o : Option Data) (v : Data) → bindable o ≡ Some v → o ≡ Some v
bindable_is None v h = absurd (grind (arith, h))
bindable_is (Some w) v h = go (set_from (w ∷ [])) h
  where
    go : (o : Option Data) → option_map (λ x. w) o ≡ Some v → Some w ≡ Some v
    go None h = absurd (grind (arith, h))
    go (Some s) h = h

module _ (k : Context) where
  abbrev pub Starts : Name → List Data → Type 0
  Starts g ks = IsFunctionOn ks (find g k.start)

  abbrev pub Kept : Vars → Type 0
  Kept ch = HaveDomains k ch

  abbrev pub KeptBy : Out → Type 0
  KeptBy (Go run) = Kept run.changes
  KeptBy (Jump l run) = Kept run.changes
  KeptBy (Yielded v run) = Unit {0}
  KeptBy (Stop kind run) = Unit {0}

  value_kept : {A : Type 0} (o : Option A) (run : SectionRun) (f : A → Out) → ((v : A) → o ≡ Some v → KeptBy (f v)) → KeptBy (with_value o run f)
  value_kept None run f h = tt
  value_kept (Some v) run f h = h v refl

  picked_kept : (ms : List Data) (d : Words) (run : SectionRun) (f : Data → SectionRun → Out) → ((v : Data) (n i : ℕ) → KeptBy (f v (chosen n i run))) → KeptBy (picked ms d run f)
  picked_kept [] d run f h = tt
  picked_kept (m ∷ ms) d run f h = h (get_or (m ∷ ms) (picked_number d run (length (m ∷ ms))) m) (length (m ∷ ms)) (picked_number d run (length (m ∷ ms)))

  true_kept : (o : Option Bool) (run : SectionRun) (a b : Out) → KeptBy a → KeptBy b → KeptBy (if_true o run a b)
  true_kept (Some true) run a b h g = h
  true_kept (Some false) run a b h g = g
  true_kept None run a b h g = tt

  go_kept : (o : Out) (f : SectionRun → Out) → KeptBy o → ((run : SectionRun) → Kept run.changes → KeptBy (f run)) → KeptBy (go_on o f)
  go_kept (Go run) f h g = g run h
  go_kept (Jump l run) f h g = h
  go_kept (Yielded v run) f h g = tt
  go_kept (Stop kind run) f h g = tt

  gives_kept : {A : Type 0} (m : MacroEnd A) (run : SectionRun) (f : A → SectionRun → Out) → ((a : A) (then' : SectionRun) → KeptBy (f a then')) → KeptBy (if_gives m run f)
  gives_kept (Gives a n) run f h = h a (with_choices n run)
  gives_kept (Stops kind n) run f h = tt

  -- one more change, of a variable that is not bound by element
  other_kept : (x : Name) (w : Data) (ch : Vars) → k.by_element x ≡ false → Kept ch → Kept ((x, w) ∷ ch)
  other_kept x w ch other h g ks v by starts found = go (same_name g x) refl found
    where
      go : (b : Bool) → same_name g x ≡ b → (if b then Some w else find g ch) ≡ Some v → IsFunctionOn ks (Some v)
      go true e q = absurd (let z : true ≡ false = sym by ∙ ap k.by_element (same_name-is g x e) ∙ other in grind (arith, z))
      go false e q = h g ks v by starts q

  -- of one that is, to a value with the same domain
  same_kept : (x : Name) (w : Data) (ch : Vars) → ((ks : List Data) → Starts x ks → IsFunctionOn ks (Some w)) → Kept ch → Kept ((x, w) ∷ ch)
  same_kept x w ch same h g ks v by starts found = go (same_name g x) refl found
    where
      go : (b : Bool) → same_name g x ≡ b → (if b then Some w else find g ch) ≡ Some v → IsFunctionOn ks (Some v)
      go true e q = subst (IsFunctionOn ks) q (same ks (subst (λ z. Starts z ks) (same_name-is g x e) starts))
      go false e q = h g ks v by starts q

  pub now_on : (g : Name) (ks : List Data) (ch : Vars) → k.by_element g ≡ true → Starts g ks → Kept ch → IsFunctionOn ks (value_now k (Whole g) ch)
  now_on g ks ch by starts h = go (find g ch) refl
    where
      go : (o : Option Data) → find g ch ≡ o → IsFunctionOn ks (on (find g k.start) o (λ v. Some v))
      go None e = starts
      go (Some v) e = h g ks v by starts e

  pub put_kept : (g : Name) (i : Option Name) (j : Option Data) (env : Names) (v : Option Data) (ch ch' : Vars) → HasIndex k.by_element g i → index_value i env ≡ Some j → Kept ch → put_content k g j v ch ≡ Some ch' → Kept ch'
  put_kept g i j env v ch ch' has at_j h e = go (bindable (with_content k g j v ch)) refl e
    where
      by_element : (w : Data) (i : Option Name) (j : Option Data) → HasIndex k.by_element g i → index_value i env ≡ Some j → bindable (with_content k g j v ch) ≡ Some w → (b : Bool) → k.by_element g ≡ b → Kept ((g, w) ∷ ch)
      by_element w i j has at_j e false by = other_kept g w ch by h
      by_element w None j has at_j e true by = absurd (let z : true ≡ false = sym by ∙ has in grind (arith, z))
      by_element w (Some x) None has at_j e true by = absurd (indexed (value_under x env) at_j)
        where
          indexed : (o : Option Data) → option_map (λ v. Some v) o ≡ Some None → ⊥
          indexed None h = grind (arith, h)
          indexed (Some z) h = grind (arith, h)
      by_element w (Some x) (Some i) has at_j e true by =
          same_kept g w ch (λ ks starts. part_keeps ks i (value_now k (Whole g) ch) v w (now_on g ks ch by starts h) (bindable_is _ w e)) h

      go : (o : Option Data) → bindable (with_content k g j v ch) ≡ o → option_map (λ w. (g, w) ∷ ch) o ≡ Some ch' → Kept ch'
      go None q e = absurd (grind (arith, e))
      go (Some w) q e = subst Kept (same_Some ((g, w) ∷ ch) ch' e) (by_element w i j has at_j q (k.by_element g) refl)

  pub new_kept : (g : Name) (i : Option Name) (j : Option Data) (env : Names) (v : Option Data) (ch ch' : Vars) → HasIndex k.by_element g i → index_value i env ≡ Some j → Kept ch → put_new k g j v ch ≡ Some ch' → Kept ch'
  new_kept g i j env None ch ch' has at_j h e = subst Kept (same_Some ch ch' e) h
  new_kept g i j env (Some v) ch ch' has at_j h e = put_kept g i j env (Some v) ch ch' has at_j h e

  mutual
    pub kept_by : (c : Code) (env : Names) (d : Words) (run : SectionRun) → ByElements k.by_element c → Kept run.changes → KeptBy (exec k c env d run)
    kept_by Empty env d run b h = h
    kept_by Skip env d run b h = h
    kept_by (Let x w e c) env d run b h =
        let now = read_unmapped k e run in
        value_kept (bindable (value_of k e env run.changes)) now (λ v. exec k c ((w, Some v) ∷ env) d now) (λ v _. kept_by c ((w, Some v) ∷ env) d now b h)
    kept_by (Pick x w e c) env d run b h =
        let now = read_unmapped k e run in
        let f = λ (v : Data) (then' : SectionRun). exec k c ((w, Some v) ∷ env) d then' in
        value_kept (option_and_then members_of (value_of k e env run.changes)) now (λ ms. picked ms d now f) (λ ms _. picked_kept ms d now f (λ v n i. kept_by c ((w, Some v) ∷ env) d (chosen n i now) b h))
    kept_by (Become p w) env d run b h =
        value_kept (value_under w env) run (λ v. Go (becoming p v run)) (λ v _. other_kept (variable_of p) v run.changes b h)
    kept_by (Set x p e) env d run b h =
        let now = read_unmapped k e run in
        value_kept (bindable (value_of k e env run.changes)) now (λ v. Go (becoming p v now)) (λ v _. other_kept (variable_of p) v run.changes b h)
    kept_by (Await e) env d run b h =
        let now = read_unmapped k e run in true_kept (truth_of (value_of k e env run.changes)) now (Go now) (Stop Blocked now) h tt
    kept_by (Assert e) env d run b h =
        let now = read_unmapped k e run in true_kept (truth_of (value_of k e env run.changes)) now (Go now) (Stop AssertFails now) h tt
    kept_by (Print e) env d run b h =
        let now = read_unmapped k e run in value_kept (value_of k e env run.changes) now (λ v. Go (printed v now)) (λ v _. h)
    kept_by (If e x y) env d run b h =
        let now = read_unmapped k e run in
        true_kept (truth_of (value_of k e env run.changes)) now (exec k x env d now) (exec k y env d now) (kept_by x env d now b.0 h) (kept_by y env d now b.1 h)
    kept_by (Either cs) env d run b h =
        let i = picked_number d run (count cs) in kept_by_arm cs i env d (chosen (count cs) i run) b h
    kept_by (Seq x y) env d run b h =
        go_kept (exec k x env d run) (λ now. exec k y env d now) (kept_by x env d run b.0 h) (λ now g. kept_by y env d now b.1 g)
    kept_by (Goto l) env d run b h = h
    kept_by (Yield e) env d run b h = value_kept (bindable (value_of k e env run.changes)) run (λ v. Yielded v run) (λ v _. tt)
    kept_by (Read w g i block c) env d run b h =
        let m = λ (old : Data). block_read block k.defs k.id old d run.choices in
        let end = λ (r : Data × Option Data) (then' : SectionRun) (ch : Vars). exec k c ((w, Some r.0) ∷ env) d (record then' { changes = ch }) in
        let rest = λ (j : Option Data) (r : Data × Option Data) (then' : SectionRun). with_value (put_new k g j r.1 run.changes) then' (end r then') in
        value_kept (index_value i env) run (λ j. with_value (bindable (content k g j run.changes)) (touching k g j run) (λ old. if_gives (m old) (touching k g j run) (rest j))) (λ j at_j.
        let now = touching k g j run in
        value_kept (bindable (content k g j run.changes)) now (λ old. if_gives (m old) now (rest j)) (λ old _.
        gives_kept (m old) now (rest j) (λ r then'.
        value_kept (put_new k g j r.1 run.changes) then' (end r then') (λ ch put.
        kept_by c ((w, Some r.0) ∷ env) d (record then' { changes = ch }) b.1 (new_kept g i j env r.1 run.changes ch b.0 at_j h put)))))
    kept_by (Write g i w block) env d run b h =
        let m = λ (old v : Data). block_write block k.defs k.id old v d run.choices in
        let end = λ (then' : SectionRun) (ch : Vars). Go (record then' { changes = ch }) in
        let rest = λ (j : Option Data) (new : Data) (then' : SectionRun). with_value (put_content k g j (Some new) run.changes) then' (end then') in
        value_kept (index_value i env) run (λ j. with_value (bindable (content k g j run.changes)) (touching k g j run) (λ old. with_value (value_under w env) (touching k g j run) (λ v. if_gives (m old v) (touching k g j run) (rest j)))) (λ j at_j.
        let now = touching k g j run in
        value_kept (bindable (content k g j run.changes)) now (λ old. with_value (value_under w env) now (λ v. if_gives (m old v) now (rest j))) (λ old _.
        value_kept (value_under w env) now (λ v. if_gives (m old v) now (rest j)) (λ v _.
        gives_kept (m old v) now (rest j) (λ new then'.
        value_kept (put_content k g j (Some new) run.changes) then' (end then') (λ ch put.
        put_kept g i j env (Some new) run.changes ch b at_j h put)))))

    kept_by_arm : (cs : Codes) (i : ℕ) (env : Names) (d : Words) (run : SectionRun) → AllUse (λ p. k.by_element (variable_of p) ≡ false) (HasIndex k.by_element) cs → Kept run.changes → KeptBy (exec_arm_with block_read block_write k cs i env d run)
    kept_by_arm no_codes i env d run b h = tt
    kept_by_arm (more_codes c cs) zero env d run b h = kept_by c env d run b.0 h
    kept_by_arm (more_codes c cs) (suc i) env d run b h = kept_by_arm cs i env d run b.1 h

  -- ---- the end
  -- an end is closed at a label, and shallow
  pub record EndedAt (o : Out) (t : Vars) : Type 0 where
    pub label : Name
    pub run : SectionRun
    pub out : o ≡ Jump label run
    pub is_end : closed k label run.changes k.start ≡ Some t
    pub shallow : is_shallow t ≡ true

  pub ended_at : (o : Out) (t : Vars) (prints : List Data) → end_of k o ≡ Next t prints → EndedAt o t
  ended_at (Go run) t prints e = absurd (grind (arith, e))
  ended_at (Jump l run) t prints e = jumped (closed k l run.changes k.start) refl e
    where
      next_is : (t' : Vars) (ps ps' : List Data) (b : Bool) → is_shallow t' ≡ b → (if b then Next t' ps else Stuck NoValue) ≡ Next t ps' → (t' ≡ t) × (is_shallow t' ≡ true)
      next_is t' ps ps' true s e = (ap (λ o. elim o as (λ o. Vars) [ Next q p ↦ q | Stuck q ↦ t | Nowhere ↦ t ]) e, s)
      next_is t' ps ps' false s e = absurd (grind (arith, e))

      jumped : (q : Option Vars) → closed k l run.changes k.start ≡ q → on (Stuck NoValue) q (if_shallow run.prints) ≡ Next t prints → EndedAt (Jump l run) t
      jumped None c e = absurd (grind (arith, e))
      jumped (Some t') c e =
          let n = next_is t' run.prints prints (is_shallow t') refl e in
          record { label = l; run = run; out = refl; is_end = c ∙ ap Some n.0; shallow = subst (λ t. is_shallow t ≡ true) n.0 n.1 }
  ended_at (Yielded v run) t prints e = absurd (grind (arith, e))
  ended_at (Stop kind run) t prints e = absurd (grind (arith, e))

  -- such a variable keeps its domain
  value_keeps : (l x : Name) (ks : List Data) (ch : Vars) (old new : Data) → KeepsDomain k x → is_among x k.globals ≡ true → Kept ch → Starts x ks → find x k.start ≡ Some old → closed_value k l ch x old ≡ Some new → IsFunctionOn ks (Some new)
  value_keeps l x ks ch old new keeps among h starts at_old e = go (same_name x pc) refl e
    where
      old_on : IsFunctionOn ks (Some old)
      old_on = subst (IsFunctionOn ks) at_old starts

      other : KeepsDomain k x → same_name x pc ≡ false → k.by_element x ≡ true
      other (place p) q = absurd (let z : true ≡ false = sym p ∙ q in grind (arith, z))
      other (own p) q = absurd (let z : true ≡ false = sym among ∙ p in grind (arith, z))
      other (elements p) q = p

      changed : (o : Option Data) → find x ch ≡ o → k.by_element x ≡ true → on (Some old) o (λ v. value_put (is_among x k.globals) k.id (Some old) (Some v)) ≡ Some new → IsFunctionOn ks (Some new)
      changed None f by e = subst (IsFunctionOn ks) e old_on
      changed (Some v) f by e =
          let is : Some v ≡ Some new = ap (λ b. value_put b k.id (Some old) (Some v)) (sym among) ∙ e in
          subst (IsFunctionOn ks) is (h x ks v by starts f)

      go : (b : Bool) → same_name x pc ≡ b → (if b then put_part k.id (Some old) (Some (string l)) else on (Some old) (find x ch) (λ v. value_put (is_among x k.globals) k.id (Some old) (Some v))) ≡ Some new → IsFunctionOn ks (Some new)
      go true p e = part_keeps ks k.id (Some old) (Some (string l)) new old_on e
      go false p e = changed (find x ch) refl (other keeps p) e

  own_keeps : (l x : Name) (ks : List Data) (ch : Vars) (old new : Data) → is_among x k.globals ≡ false → IsFunctionOn ks (Some old) → closed_value k l ch x old ≡ Some new → IsFunctionOn ks (Some new)
  own_keeps l x ks ch old new among old_on e = go (same_name x pc) e
    where
      changed : (o : Option Data) → on (Some old) o (λ v. value_put (is_among x k.globals) k.id (Some old) (Some v)) ≡ Some new → IsFunctionOn ks (Some new)
      changed None e = subst (IsFunctionOn ks) e old_on
      changed (Some v) e = part_keeps ks k.id (Some old) (Some v) new old_on (ap (λ b. value_put b k.id (Some old) (Some v)) (sym among) ∙ e)

      go : (b : Bool) → (if b then put_part k.id (Some old) (Some (string l)) else on (Some old) (find x ch) (λ v. value_put (is_among x k.globals) k.id (Some old) (Some v))) ≡ Some new → IsFunctionOn ks (Some new)
      go true e = part_keeps ks k.id (Some old) (Some (string l)) new old_on e
      go false e = changed (find x ch) e

  some_value : (o : Option Data) (f : Data → Option Data) (old : Data) → o ≡ Some old → option_and_then f o ≡ f old
  some_value o f old e = ap (option_and_then f) e

  -- the end has the variables of the start
  there : (l : Name) (ch t : Vars) (x : Name) (old : Data) → closed k l ch k.start ≡ Some t → find x k.start ≡ Some old → (new : Data) × (find x t ≡ Some new)
  there l ch t x old c at_old = go (is_among x (names_of k.start)) refl
    where
      go : (b : Bool) → is_among x (names_of k.start) ≡ b → (new : Data) × (find x t ≡ Some new)
      go true e = found_among t x (ap (is_among x) (closed_keys k l ch k.start t c) ∙ e)
      go false e = absurd (let z : None ≡ Some old = sym (not_among k.start x e) ∙ at_old in grind (arith, z))

  domain_kept : (l : Name) (ch t : Vars) (x : Name) (ks : List Data) → closed k l ch k.start ≡ Some t → Kept ch → KeepsDomain k x → Starts x ks → IsFunctionOn ks (find x t)
  domain_kept l ch t x ks c h keeps starts = go (is_among x k.globals) refl
    where
      now : (new : Data) × (find x t ≡ Some new)
      now = there l ch t x (function starts.0) c starts.1

      at_t : closed_value k l ch x (function starts.0) ≡ Some now.0
      at_t =
          sym (closed_at k l ch k.start t c x ∙ some_value (find x k.start) (closed_value k l ch x) (function starts.0) starts.1) ∙ now.1

      go : (b : Bool) → is_among x k.globals ≡ b → IsFunctionOn ks (find x t)
      go true among = subst (IsFunctionOn ks) (sym now.1) (value_keeps l x ks ch (function starts.0) now.0 keeps among h starts starts.1 at_t)
      go false among =
          subst (IsFunctionOn ks) (sym now.1) (own_keeps l x ks ch (function starts.0) now.0 among (subst (IsFunctionOn ks) starts.1 starts) at_t)

  pub begins_kept : Kept []
  begins_kept g ks v by starts found = absurd (grind (arith, found))

  pub variables_kept : (c : Code) (d : Words) (t : Vars) (prints : List Data) → (section k c d).end ≡ Next t prints → (names_of t ≡ names_of k.start) × (is_shallow t ≡ true)
  variables_kept c d t prints e =
      let x = ended_at (exec k c [] d (begun [] [])) t prints e in
      (closed_keys k x.label x.run.changes k.start t x.is_end, x.shallow)

  pub domains_kept : (c : Code) (d : Words) (t : Vars) (prints : List Data) (x : Name) (ks : List Data) → ByElements k.by_element c → (section k c d).end ≡ Next t prints → KeepsDomain k x → IsFunctionOn ks (find x k.start) → IsFunctionOn ks (find x t)
  domains_kept c d t prints x ks b e keeps starts =
      let z = ended_at (exec k c [] d (begun [] [])) t prints e in
      domain_kept z.label z.run.changes t x ks z.is_end (subst KeptBy z.out (kept_by c [] d (begun [] []) b begins_kept)) keeps starts
