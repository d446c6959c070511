-- What a section reads and writes: the globals of its parameters, and of those that are bound by element the elements in their
-- domains.
use Rattle.std.proofs.Common.{◌≡◌, ℕ, zero, suc, Bool, true, false, if◌then◌else◌, List, [], ◌∷◌, ◌++◌, length, get_or, Option, Some, None, refl, sym, ap, ◌∙◌, arith, option_map, option_and_then}
use Rattle.std.specs.List.{AllByRecursion}
use Rattle.pgo_base.specs.Data.{Data, graph, keys}
use Rattle.pgo_base.specs.Lookup.{Name, Names, Vars, find}
use Rattle.pgo_base.specs.Tree.{Tree}
use Rattle.pgo_model.specs.Machine.{nth}
use Rattle.pgo_model.specs.Occurrences.{first_occurrences}
use Rattle.pgo_sections.specs.FreeNames.{free_names}
use Rattle.pgo_model.specs.Operators.{apply, members_of, truth_of, same_data, lookup}
use Rattle.pgo_model.specs.Outcome.{Blocked, AssertFails}
use Rattle.pgo_model.specs.System.{Words, Touched}
use Rattle.pgo_sections.specs.Access.{touched_whole, reads_among, unmapped_reads}
use Rattle.pgo_model.specs.Names.{is_among}
use Rattle.pgo_sections.specs.Code.{Place, Whole, Own, variable_of, Code, Empty, Skip, Let, Pick, Become, Set, Await, Assert, Print, If, Either, Seq, Goto, Yield, Read, Write, Codes, no_codes, more_codes}
use Rattle.pgo_sections.specs.Context.{Context, content, index_value, put_content, put_new, value_now, value_of}
use Rattle.pgo_sections.specs.Domains.{Uses, AllUse, HasIndex, ByElements, PlaceIn, UsesOnly, IsPart, IsEvent}
use Rattle.pgo_sections.specs.Exec.{MacroEnd, Gives, Stops, with_choices, if_gives, touched, touching, read_unmapped, becoming, count, exec_arm_with}
use Rattle.pgo_sections.specs.BoundValues.{bindable, value_under}
use Rattle.pgo_sections.specs.Macros.{block_read, block_write, exec}
use Rattle.pgo_sections.specs.SectionRun.{ChoiceMade, SectionRun, begun, printed, picked_number, chosen, Out, Go, Jump, Yielded, Stop, with_value, if_true, picked, go_on}
use Rattle.pgo_sections.specs.Section.{run_of, section}
use Rattle.pgo_sections.proofs.Domains.{same_of, Kept, KeptBy, now_on, new_kept, kept_by, begins_kept}

-- an index at which a function has a value is in its domain
in_keys : (i v : Data) (ps : List (Data × Data)) → lookup i ps ≡ Some v → (n : ℕ) × (nth (keys ps) n ≡ Some i)
in_keys i v [] h = absurd (grind (arith, h))
in_keys i v (p ∷ ps) h = go (same_data i p.0) refl h (λ k. in_keys i v ps k)
  where
    go : (b : Bool) → same_data i p.0 ≡ b → (if b then Some p.1 else lookup i ps) ≡ Some v → (lookup i ps ≡ Some v → (n : ℕ) × (nth (keys ps) n ≡ Some i)) → (n : ℕ) × (nth (p.0 ∷ keys ps) n ≡ Some i)
    go true e h more = (0, ap (λ x. Some x) (sym (same_of i p.0 e)))
    go false e h more = let r = more h in (suc r.0, r.1)

module _ (k : Context) (gs : List Name) (places_in : (x : Name) (p : Place) → find x k.places ≡ Some p → PlaceIn k gs p) where
  abbrev All : List Touched → Type 0
  All ts = AllByRecursion (IsEvent k gs) ts

  joined : (ts us : List Touched) → All ts → All us → All (ts ++ us)
  joined [] us h g = g
  joined (t ∷ ts) us h g = (h.0, joined ts us h.1 g)

  place_all : (p : Place) (rest : List Touched) → PlaceIn k gs p → All rest → All (touched_whole (Some p) rest)
  place_all (Whole g) rest h r = (h, r)
  place_all (Own x) rest h r = r

  found_all : (x : Name) (o : Option Place) → find x k.places ≡ o → (rest : List Touched) → All rest → All (touched_whole o rest)
  found_all x None e rest r = r
  found_all x (Some p) e rest r = place_all p rest (places_in x p e) r

  names_all : (xs : List Name) → All (reads_among k.places xs)
  names_all [] = tt
  names_all (x ∷ xs) = found_all x (find x k.places) refl (reads_among k.places xs) (names_all xs)

  unmapped_all : (e : Tree) (run : SectionRun) → All run.trace → All (read_unmapped k e run).trace
  unmapped_all e run h = joined run.trace (unmapped_reads k.places e) h (names_all (first_occurrences (free_names [] e)))

  becoming_all : (p : Place) (v : Data) (run : SectionRun) → PlaceIn k gs p → All run.trace → All (becoming p v run).trace
  becoming_all p v run h r = joined run.trace (touched_whole (Some p) []) r (place_all p [] h tt)

  element_all : (g : Name) (i v : Data) (ch : Vars) → k.by_element g ≡ true → Kept k ch → option_and_then (λ f. apply f i) (value_now k (Whole g) ch) ≡ Some v → IsPart k g (Some i)
  element_all g i v ch by h e = (
    by,
    λ ids starts. (
        let f = now_on k g ids ch by starts h in
        let at_i : lookup i (graph f.0) ≡ Some v = ap (option_and_then (λ f. apply f i)) (sym f.1) ∙ e in
        let n = in_keys i v (graph f.0) at_i in
        (n.0, ap (λ ids. nth ids n.0) (sym f.2) ∙ n.1)
        ),
  )

  touched_all : (g : Name) (i : Option Name) (j : Option Data) (env : Names) (ch : Vars) → is_among g gs ≡ true → HasIndex k.by_element g i → index_value i env ≡ Some j → Kept k ch → All (touched (k.by_element g) g j (content k g j ch))
  touched_all g i j env ch among has at_j h = go (k.by_element g) refl i j has at_j
    where
      indexed : (o : Option Data) → option_map (λ v. Some v) o ≡ Some None → ⊥
      indexed None h = grind (arith, h)
      indexed (Some z) h = grind (arith, h)

      old : (j : Data) (o : Option Data) → content k g (Some j) ch ≡ o → k.by_element g ≡ true → All (touched true g (Some j) o)
      old j None e by = tt
      old j (Some v) e by = ((among, element_all g j v ch by h e), tt)

      go : (b : Bool) → k.by_element g ≡ b → (i : Option Name) (j : Option Data) → HasIndex k.by_element g i → index_value i env ≡ Some j → All (touched b g j (content k g j ch))
      go false by i j has at_j = ((among, by), tt)
      go true by None j has at_j = absurd (let z : true ≡ false = sym by ∙ has in grind (arith, z))
      go true by (Some x) None has at_j = absurd (indexed (value_under x env) at_j)
      go true by (Some x) (Some j) has at_j = old j (content k g (Some j) ch) refl by

  abbrev Traced : Out → Type 0
  Traced o = All (run_of o).trace

  value_traced : {A : Type 0} (o : Option A) (run : SectionRun) (f : A → Out) → All run.trace → ((v : A) → o ≡ Some v → Traced (f v)) → Traced (with_value o run f)
  value_traced None run f r h = r
  value_traced (Some v) run f r h = h v refl

  picked_traced : (ms : List Data) (d : Words) (run : SectionRun) (f : Data → SectionRun → Out) → All run.trace → ((v : Data) (n i : ℕ) → Traced (f v (chosen n i run))) → Traced (picked ms d run f)
  picked_traced [] d run f r h = r
  picked_traced (m ∷ ms) d run f r h = h (get_or (m ∷ ms) (picked_number d run (length (m ∷ ms))) m) (length (m ∷ ms)) (picked_number d run (length (m ∷ ms)))

  true_traced : (o : Option Bool) (run : SectionRun) (a b : Out) → All run.trace → Traced a → Traced b → Traced (if_true o run a b)
  true_traced (Some true) run a b r h g = h
  true_traced (Some false) run a b r h g = g
  true_traced None run a b r h g = r

  go_traced : (o : Out) (f : SectionRun → Out) → Traced o → KeptBy k o → ((run : SectionRun) → Kept k run.changes → All run.trace → Traced (f run)) → Traced (go_on o f)
  go_traced (Go run) f h q g = g run q h
  go_traced (Jump l run) f h q g = h
  go_traced (Yielded v run) f h q g = h
  go_traced (Stop kind run) f h q g = h

  gives_traced : {A : Type 0} (m : MacroEnd A) (run : SectionRun) (f : A → SectionRun → Out) → All run.trace → ((a : A) (n : List ChoiceMade) → Traced (f a (with_choices n run))) → Traced (if_gives m run f)
  gives_traced (Gives a n) run f r h = h a n
  gives_traced (Stops kind n) run f r h = r

  mutual
    traced_by : (c : Code) (env : Names) (d : Words) (run : SectionRun) → Uses (PlaceIn k gs) (λ g i. is_among g gs ≡ true) c → ByElements k.by_element c → Kept k run.changes → All run.trace → Traced (exec k c env d run)
    traced_by Empty env d run u b h r = r
    traced_by Skip env d run u b h r = r
    traced_by (Let x w e c) env d run u b h r =
        let now = read_unmapped k e run in
        value_traced (bindable (value_of k e env run.changes)) now (λ v. exec k c ((w, Some v) ∷ env) d now) (unmapped_all e run r) (λ v _. traced_by c ((w, Some v) ∷ env) d now u b h (unmapped_all e run r))
    traced_by (Pick x w e c) env d run u b h r =
        let now = read_unmapped k e run in
        let f = λ (v : Data) (then' : SectionRun). exec k c ((w, Some v) ∷ env) d then' in
        value_traced (option_and_then members_of (value_of k e env run.changes)) now (λ ms. picked ms d now f) (unmapped_all e run r) (λ ms _.
        picked_traced ms d now f (unmapped_all e run r) (λ v n i. traced_by c ((w, Some v) ∷ env) d (chosen n i now) u b h (unmapped_all e run r)))
    traced_by (Become p w) env d run u b h r =
        value_traced (value_under w env) run (λ v. Go (becoming p v run)) r (λ v _. becoming_all p v run u r)
    traced_by (Set x p e) env d run u b h r =
        let now = read_unmapped k e run in
        value_traced (bindable (value_of k e env run.changes)) now (λ v. Go (becoming p v now)) (unmapped_all e run r) (λ v _. becoming_all p v now u (unmapped_all e run r))
    traced_by (Await e) env d run u b h r =
        let now = read_unmapped k e run in
        let seen = unmapped_all e run r in
        true_traced (truth_of (value_of k e env run.changes)) now (Go now) (Stop Blocked now) seen seen seen
    traced_by (Assert e) env d run u b h r =
        let now = read_unmapped k e run in
        let seen = unmapped_all e run r in
        true_traced (truth_of (value_of k e env run.changes)) now (Go now) (Stop AssertFails now) seen seen seen
    traced_by (Print e) env d run u b h r =
        let now = read_unmapped k e run in
        value_traced (value_of k e env run.changes) now (λ v. Go (printed v now)) (unmapped_all e run r) (λ v _. unmapped_all e run r)
    traced_by (If e x y) env d run u b h r =
        let now = read_unmapped k e run in
        let seen = unmapped_all e run r in
        true_traced (truth_of (value_of k e env run.changes)) now (exec k x env d now) (exec k y env d now) seen (traced_by x env d now u.0 b.0 h seen) (traced_by y env d now u.1 b.1 h seen)
    traced_by (Either cs) env d run u b h r =
        let i = picked_number d run (count cs) in traced_by_arm cs i env d (chosen (count cs) i run) u b h r
    traced_by (Seq x y) env d run u b h r =
        go_traced (exec k x env d run) (λ now. exec k y env d now) (traced_by x env d run u.0 b.0 h r) (kept_by k x env d run b.0 h) (λ now g q. traced_by y env d now u.1 b.1 g q)
    traced_by (Goto l) env d run u b h r = r
    traced_by (Yield e) env d run u b h r =
        value_traced (bindable (value_of k e env run.changes)) run (λ v. Yielded v run) r (λ v _. r)
    traced_by (Read w g i block c) env d run u b h r =
        let m = λ (old : Data). block_read block k.defs k.id old d run.choices in
        let end = λ (r : Data × Option Data) (then' : SectionRun) (ch : Vars). exec k c ((w, Some r.0) ∷ env) d (record then' { changes = ch }) in
        let rest = λ (j : Option Data) (r : Data × Option Data) (then' : SectionRun). with_value (put_new k g j r.1 run.changes) then' (end r then') in
        value_traced (index_value i env) run (λ j. with_value (bindable (content k g j run.changes)) (touching k g j run) (λ old. if_gives (m old) (touching k g j run) (rest j))) r (λ j at_j.
        let now = touching k g j run in
        let seen = joined run.trace (touched (k.by_element g) g j (content k g j run.changes)) r (touched_all g i j env run.changes u.0 b.0 at_j h) in
        value_traced (bindable (content k g j run.changes)) now (λ old. if_gives (m old) now (rest j)) seen (λ old _.
        gives_traced (m old) now (rest j) seen (λ a n.
        value_traced (put_new k g j a.1 run.changes) (with_choices n now) (end a (with_choices n now)) seen (λ ch put.
        traced_by c ((w, Some a.0) ∷ env) d (record (with_choices n now) { changes = ch }) u.1 b.1 (new_kept k g i j env a.1 run.changes ch b.0 at_j h put) seen))))
    traced_by (Write g i w block) env d run u b h r =
        let m = λ (old v : Data). block_write block k.defs k.id old v d run.choices in
        let end = λ (then' : SectionRun) (ch : Vars). Go (record then' { changes = ch }) in
        let rest = λ (j : Option Data) (new : Data) (then' : SectionRun). with_value (put_content k g j (Some new) run.changes) then' (end then') in
        value_traced (index_value i env) run (λ j. with_value (bindable (content k g j run.changes)) (touching k g j run) (λ old. with_value (value_under w env) (touching k g j run) (λ v. if_gives (m old v) (touching k g j run) (rest j)))) r (λ j at_j.
        let now = touching k g j run in
        let seen = joined run.trace (touched (k.by_element g) g j (content k g j run.changes)) r (touched_all g i j env run.changes u b at_j h) in
        value_traced (bindable (content k g j run.changes)) now (λ old. with_value (value_under w env) now (λ v. if_gives (m old v) now (rest j))) seen (λ old _.
        value_traced (value_under w env) now (λ v. if_gives (m old v) now (rest j)) seen (λ v _.
        gives_traced (m old v) now (rest j) seen (λ a n.
        value_traced (put_content k g j (Some a) run.changes) (with_choices n now) (end (with_choices n now)) seen (λ ch put. seen)))))

    traced_by_arm : (cs : Codes) (i : ℕ) (env : Names) (d : Words) (run : SectionRun) → AllUse (PlaceIn k gs) (λ g i. is_among g gs ≡ true) cs → AllUse (λ p. k.by_element (variable_of p) ≡ false) (HasIndex k.by_element) cs → Kept k run.changes → All run.trace → Traced (exec_arm_with block_read block_write k cs i env d run)
    traced_by_arm no_codes i env d run u b h r = r
    traced_by_arm (more_codes c cs) zero env d run u b h r = traced_by c env d run u.0 b.0 h r
    traced_by_arm (more_codes c cs) (suc i) env d run u b h r = traced_by_arm cs i env d run u.1 b.1 h r

pub traces_are : (k : Context) (gs : List Name) (c : Code) (d : Words) → UsesOnly k gs c → ByElements k.by_element c → AllByRecursion (IsEvent k gs) (section k c d).trace
traces_are k gs c d u b = traced_by k gs u.places c [] d (begun [] []) u.code b (begins_kept k) tt
