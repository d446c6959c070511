-- The names of the attempts of each instance, one after the other, and by their numbers.
use Rattle.std.proofs.Common.{◌≡◌, ◌<◌, ◌≤◌, ℕ, zero, suc, List, [], ◌∷◌, ◌++◌, Option, Some, None, refl, ap, sym, ◌∙◌, map, option_map, drop, get_or, append_assoc, arith}
use Rattle.std.proofs.lemmas.List.{append-nil}
use Rattle.std.specs.Prelude.{length, unwrap_or}
use Rattle.pgo_base.specs.Data.{Data}
use Rattle.pgo_base.specs.Lookup.{find}
use Rattle.pgo_base.specs.View.{data_of}
use Rattle.pgo_bound.specs.State.{id_of}
use Rattle.pgo_syntax.specs.declared.bound.Instance.{Instance}
use Rattle.pgo_model.specs.Machine.{nth}
use Rattle.pgo_model.specs.Options.{on}
use Rattle.pgo_model.specs.System.{Words}
use Rattle.pgo_model.specs.Written.{pc}
use Rattle.pgo_workers.specs.Walk.{Own}
use Rattle.pgo_accesses.specs.Accesses.{no_value}
use Rattle.pgo_code.specs.declared.program.Code.{Code}
use Rattle.pgo_places.specs.declared.stand.Fixed as memory
use Rattle.pgo_code.specs.declared.program.Program.{Program}
use Rattle.pgo_places.specs.AllNames.{AreNames, names_from, seen}
use Rattle.pgo_places.specs.PlaceView.{fixed_view}
use Rattle.pgo_places.specs.PlaceWalk.{count_of}
use Rattle.pgo_places.specs.Stands.{Fixed, limited, resume}
use Rattle.pgo_places.specs.FirstStands.{fixed_of, start_of, steps_named}
use Rattle.pgo_places.specs.Trees.{attempt_with, leaf_named, leaf_of}

-- those of one instance more
pub names_more : (ns : List (Fixed × Data)) (cs : List Code) (n m : ℕ) (c : Code) (i : Instance) (left others : List Instance) → n < length cs → m ≡ suc n → left ≡ i ∷ others
    → (ns ++ (fixed_of (get_or cs n c), id_of i) ∷ []) ++ names_from (drop m cs) others ≡ ns ++ names_from (drop n cs) left
names_more ns cs n m c i left others h q e =
    append_assoc ns ((fixed_of (get_or cs n c), id_of i) ∷ []) (names_from (drop m cs) others)
    ∙ ap (λ l. ns ++ l) (ap (λ k. (fixed_of (get_or cs n c), id_of i) ∷ names_from (drop k cs) others) q ∙ here cs n h ∙ ap (λ l. names_from (drop n cs) l) (sym e))
  where
    here : (cs : List Code) (n : ℕ) → n < length cs → (fixed_of (get_or cs n c), id_of i) ∷ names_from (drop (suc n) cs) others ≡ names_from (drop n cs) (i ∷ others)
    here [] n h = absurd (omega (arith, h))
    here (d ∷ cs) zero h = refl
    here (d ∷ cs) (suc n) h = here cs n (omega (arith, h))

-- no instance is left
pub no_instances : (ns : List (Fixed × Data)) (cs : List Code) (left : List Instance) → length left ≡ 0 → ns ++ names_from cs left ≡ ns
no_instances ns [] left h = append-nil ns
no_instances ns (c ∷ cs) [] h = append-nil ns
no_instances ns (c ∷ cs) (i ∷ left) h = absurd (omega (arith, h))

-- no code is left
pub no_code : (ns : List (Fixed × Data)) (cs : List Code) (n : ℕ) (left : List Instance) → length cs ≤ n → ns ++ names_from (drop n cs) left ≡ ns
no_code ns [] zero left h = append-nil ns
no_code ns [] (suc n) left h = append-nil ns
no_code ns (c ∷ cs) zero left h = absurd (omega (arith, h))
no_code ns (c ∷ cs) (suc n) left h = no_code ns cs n left (omega (arith, h))

pub nth_map : {A B : Type 0} (f : A → B) (xs : List A) (n : ℕ) → nth (map f xs) n ≡ option_map f (nth xs n)
nth_map f [] n = refl
nth_map f (x ∷ xs) zero = refl
nth_map f (x ∷ xs) (suc n) = nth_map f xs n

-- the names of an instance that has code
pub names_there : (cs : List Code) (is : List Instance) (k : ℕ) (c : Code) (o : Option (Fixed × Data)) → nth cs k ≡ Some c → nth (names_from cs is) k ≡ o
    → o ≡ option_map (λ i. (fixed_of c, id_of i)) (nth is k)
names_there cs is k c o h e = sym e ∙ go cs is k h
  where
    go : (cs : List Code) (is : List Instance) (k : ℕ) → nth cs k ≡ Some c → nth (names_from cs is) k ≡ option_map (λ i. (fixed_of c, id_of i)) (nth is k)
    go [] is k h = absurd (let z = h in cc)
    go (d ∷ cs) [] k h = refl
    go (d ∷ cs) (i ∷ is) zero h = ap (λ x. Some (fixed_of (unwrap_or x d), id_of i)) h
    go (d ∷ cs) (i ∷ is) (suc k) h = go cs is k h

module _ (p : Program) (k : ℕ) (c : Code) (code : nth p.codes.items k ≡ Some c) where
  abbrev names_at : Instance → Fixed × Data
  names_at i = (fixed_of c, id_of i)

  from_instance : (xs : List memory.Fixed) → AreNames p xs → option_map seen (nth xs k) ≡ option_map names_at (nth p.bound.now.instances k)
  from_instance xs h = names_there p.codes.items p.bound.now.instances k c (option_map seen (nth xs k)) code (ap (λ l. nth l k) (sym h) ∙ nth_map seen xs k)

  pub some_names : (xs : List memory.Fixed) (x : memory.Fixed) → AreNames p xs → nth xs k ≡ Some x
      → (i : Instance) × (nth p.bound.now.instances k ≡ Some i) × (fixed_view x ≡ fixed_of c) × (data_of x.id ≡ id_of i)
  some_names xs x h e = go (nth p.bound.now.instances k) (sym (ap (option_map seen) e) ∙ from_instance xs h)
    where
      go : (o : Option Instance) → Some (seen x) ≡ option_map names_at o → (i : Instance) × (o ≡ Some i) × (fixed_view x ≡ fixed_of c) × (data_of x.id ≡ id_of i)
      go None g = absurd (cc)
      go (Some i) g = (i, refl, ap (λ z. (unwrap_or z (seen x)).0) g, ap (λ z. (unwrap_or z (seen x)).1) g)

  pub no_names : (xs : List memory.Fixed) → AreNames p xs → nth xs k ≡ None → nth p.bound.now.instances k ≡ None
  no_names xs h e = go (nth p.bound.now.instances k) (sym (ap (option_map seen) e) ∙ from_instance xs h)
    where
      go : (o : Option Instance) → None ≡ option_map names_at o → o ≡ None
      go None g = refl
      go (Some i) g = absurd (cc)

  -- what a leaf of an instance with this identifier does
  pub leaf_there : (first d : Words) (own : Own) (i : Instance) → nth p.bound.now.instances k ≡ Some i → leaf_of p first d k own ≡ leaf_named p c (id_of i) own first d
  leaf_there first d own i h = λ j. limited (count_of p.bound.now) (on no_value (code j) (λ c. on no_value (h j) (λ i. on no_value (steps_named (find pc own) c) (λ xs.
      resume (attempt_with p.bound.now (id_of i)) (fixed_of c) (suc (length xs)) xs (start_of c own first d)))))

  leaf_nowhere : (first d : Words) (own : Own) → nth p.bound.now.instances k ≡ None → leaf_of p first d k own ≡ no_value
  leaf_nowhere first d own h = λ j. limited (count_of p.bound.now) (on no_value (code j) (λ c. on no_value (h j) (λ i. on no_value (steps_named (find pc own) c) (λ xs.
      resume (attempt_with p.bound.now (id_of i)) (fixed_of c) (suc (length xs)) xs (start_of c own first d)))))

  -- what a leaf does at the names of an instance that has code
  pub leaf_some : (own : Own) (xs : List memory.Fixed) (x : memory.Fixed) → AreNames p xs → nth xs k ≡ Some x
      → (fixed_view x ≡ fixed_of c) × ((first d : Words) → leaf_named p c (data_of x.id) own first d ≡ leaf_of p first d k own)
  leaf_some own xs x h e = let n = some_names xs x h e in (n.2, λ first d. ap (λ id. leaf_named p c id own first d) n.3 ∙ sym (leaf_there first d own n.0 n.1))

  pub leaf_none : (own : Own) (xs : List memory.Fixed) → AreNames p xs → nth xs k ≡ None → (first d : Words) → leaf_of p first d k own ≡ no_value
  leaf_none own xs h e first d = leaf_nowhere first d own (no_names xs h e)

-- an instance that has none
pub leaf_without : (p : Program) (k : ℕ) (own : Own) → nth p.codes.items k ≡ None → (first d : Words) → leaf_of p first d k own ≡ no_value
leaf_without p k own h first d =
    ap (λ o. limited (count_of p.bound.now) (on no_value o (λ c. on no_value (nth p.bound.now.instances k) (λ i. on no_value (steps_named (find pc own) c) (λ xs.
    resume (attempt_with p.bound.now (id_of i)) (fixed_of c) (suc (length xs)) xs (start_of c own first d)))))) h
