-- The accesses at which instructions stand.
use Rattle.std.proofs.Common.{◌≡◌, ℕ, suc, List, [], ◌∷◌, Bool, true, false, Option, Some, None, refl, ap, sym, ◌∙◌}
use Rattle.std.specs.Prelude.{if◌then◌else◌, option_and_then}
use Rattle.pgo_base.specs.Data.{Data}
use Rattle.pgo_base.specs.Lookup.{Name}
use Rattle.pgo_model.specs.Core.{number_among}
use Rattle.pgo_model.specs.Options.{on}
use Rattle.pgo_sections.specs.BoundValues.{value_under}
use Rattle.pgo_sections.specs.Context.{index_value}
use Rattle.pgo_workers.specs.Tried.{LeafTree}
use Rattle.pgo_workers.specs.Walk.{Touch}
use Rattle.pgo_accesses.specs.Accesses.{Attempt, with_value, no_value, left_by_read, left_by_write, behind_read, behind_write, read_here, write_here}
use Rattle.pgo_code.specs.Steps.{Unmapped, Evaluation, Target, Resource, Content, Step, Assign, Set, Read, Write, accessing, reading, writing}
use Rattle.pgo_places.specs.Flows.{evaluation_in, left_of, resource_at, part_index, access_to, StandsAt}
use Rattle.pgo_places.specs.Stands.{Fixed, Stand, binding, going, onward, looked, putting, with_words, resume}
use Rattle.pgo_places.proofs.Evaluations.{resume_waits}

pub with_none : {A : Type 0} (o : Option A) (f : A → LeafTree) → with_value o f ≡ on no_value o f
with_none None f = refl
with_none (Some x) f = refl

pub accessing_is : (a : Attempt) (c : Content) (j : Option Data) (f : ℕ → Option Data → LeafTree) → accessing a c j f ≡ on no_value (resource_at a c j) (λ r. f r (part_index c j))
accessing_is a c j f = go c.is_element j
  where
    go : (b : Bool) (j : Option Data)
        → (if b then on no_value j (λ i. with_value (number_among a.resources (c.global, Some i)) (λ r. f r None)) else with_value c.whole (λ r. f r j))
        ≡ on no_value (if b then on None j (λ i. number_among a.resources (c.global, Some i)) else c.whole) (λ r. f r (if b then None else j))
    go true None = refl
    go true (Some i) = with_none (number_among a.resources (c.global, Some i)) (λ r. f r None)
    go false j = with_none c.whole (λ r. f r j)

-- an unmapped parameter that is read next
pub read_stands : (a : Attempt) (k : Fixed) (i : Step) (s : Stand) (x : Name) (o : Option ℕ) (xs : List Unmapped) → left_of (evaluation_in i s.value) s ≡ (x, o) ∷ xs → StandsAt a k i s (access_to o)
read_stands a k i s x None xs h = λ n is. resume_waits a k n is i s (x, None) xs h
read_stands a k i s x (Some r) xs h = (λ n is. (λ v. v, λ v. resume a k (suc n) (i ∷ is) (looked k x v s), resume_waits a k n is i s (x, Some r) xs h), λ e. absurd (none_first _ _ (sym h ∙ e)))
  where
    none_first : (u : Unmapped) (us : List Unmapped) → u ∷ us ≡ [] → ⊥
    none_first u us e = cc

-- a resource that is assigned
put_stands : (a : Attempt) (k : Fixed) (i : Step) (s : Stand) (r : Option ℕ) (v : Data) (t : Stand)
    → ((n : ℕ) (is : List Step) → resume a k (suc n) (i ∷ is) s ≡ putting k (Resource r) v t (resume a k n is)) → evaluation_in i s.value ≡ None → StandsAt a k i s (access_to r)
put_stands a k i s None v t h e = h
put_stands a k i s (Some r) v t h e = (λ n is. (_, _, h n is), λ _. e)

pub assign_stands : (a : Attempt) (k : Fixed) (s : Stand) (r : Option ℕ) (w : Name) (v : Data) → value_under w s.env ≡ Some v → StandsAt a k (Assign (Resource r) w) s (access_to r)
assign_stands a k s r w v h = put_stands a k (Assign (Resource r) w) s r v (onward s) (λ n is. ap (λ o. with_value o (λ x. putting k (Resource r) x (onward s) (resume a k n is))) h) refl

pub assigns_nothing : (a : Attempt) (k : Fixed) (s : Stand) (t : Target) (w : Name) → value_under w s.env ≡ None → (n : ℕ) (is : List Step) → resume a k (suc n) (Assign t w ∷ is) s ≡ no_value
assigns_nothing a k s t w h n is = ap (λ o. with_value o (λ x. putting k t x (onward s) (resume a k n is))) h

pub set_stands : (a : Attempt) (k : Fixed) (s : Stand) (r : Option ℕ) (e : Evaluation) (v : Data) → s.value ≡ Some v → StandsAt a k (Set (Resource r) e) s (access_to r)
set_stands a k s r e v h =
    put_stands a k (Set (Resource r) e) s r v (onward s)
    (λ n is. ap (λ o. on (resume a k (suc n) (Set (Resource r) e ∷ is) (record s { value = None })) o (λ x. putting k (Resource r) x (onward s) (resume a k n is))) h)
    (ap (evaluation_in (Set (Resource r) e)) h)

-- what a mapped parameter does whose index has the value j
pub read_is : (a : Attempt) (k : Fixed) (w : Name) (c : Content) (i : Option Name) (s : Stand) (j : Option Data) → index_value i s.env ≡ Some j → (n : ℕ) (is : List Step)
    → resume a k (suc n) (Read w c i ∷ is) s
    ≡ on no_value (resource_at a c j) (λ r.
    Touch r (λ v. left_by_read v (read_here (with_words s.words a) c.reads (part_index c j) s.progress.points v))
    (λ v. behind_read c.is_element r s.progress (read_here (with_words s.words a) c.reads (part_index c j) s.progress.points v) (λ x q. resume a k n is (binding w x (going q (onward s))))))
read_is a k w c i s j h n is =
    ap (λ o. with_value o (λ j. accessing (with_words s.words a) c j (λ r at.
    Touch r (λ v. left_by_read v (read_here (with_words s.words a) c.reads at s.progress.points v))
    (λ v. behind_read c.is_element r s.progress (read_here (with_words s.words a) c.reads at s.progress.points v) (λ x q. resume a k n is (binding w x (going q (onward s)))))))) h
    ∙ accessing_is (with_words s.words a) c j (λ r at.
    Touch r (λ v. left_by_read v (read_here (with_words s.words a) c.reads at s.progress.points v))
    (λ v. behind_read c.is_element r s.progress (read_here (with_words s.words a) c.reads at s.progress.points v) (λ x q. resume a k n is (binding w x (going q (onward s))))))

pub write_is : (a : Attempt) (k : Fixed) (c : Content) (i : Option Name) (w : Name) (s : Stand) (j : Option Data) → index_value i s.env ≡ Some j → (n : ℕ) (is : List Step)
    → resume a k (suc n) (Write c i w ∷ is) s
    ≡ on no_value (resource_at a c j) (λ r.
    Touch r (λ v. left_by_write v (write_here (with_words s.words a) c.writes (part_index c j) (value_under w s.env) s.progress.points v))
    (λ v. behind_write c.is_element r s.progress (write_here (with_words s.words a) c.writes (part_index c j) (value_under w s.env) s.progress.points v) (λ q. resume a k n is (going q (onward s)))))
write_is a k c i w s j h n is =
    ap (λ o. with_value o (λ j. accessing (with_words s.words a) c j (λ r at.
    Touch r (λ v. left_by_write v (write_here (with_words s.words a) c.writes at (value_under w s.env) s.progress.points v))
    (λ v. behind_write c.is_element r s.progress (write_here (with_words s.words a) c.writes at (value_under w s.env) s.progress.points v) (λ q. resume a k n is (going q (onward s))))))) h
    ∙ accessing_is (with_words s.words a) c j (λ r at.
    Touch r (λ v. left_by_write v (write_here (with_words s.words a) c.writes at (value_under w s.env) s.progress.points v))
    (λ v. behind_write c.is_element r s.progress (write_here (with_words s.words a) c.writes at (value_under w s.env) s.progress.points v) (λ q. resume a k n is (going q (onward s)))))

mapped_stands : (a : Attempt) (k : Fixed) (i : Step) (s : Stand) (o : Option ℕ) (leave : ℕ → Data → Data) (rest : ℕ → List Step → ℕ → Data → LeafTree)
    → ((n : ℕ) (is : List Step) → resume a k (suc n) (i ∷ is) s ≡ on no_value o (λ r. Touch r (leave r) (rest n is r))) → evaluation_in i s.value ≡ None → StandsAt a k i s (access_to o)
mapped_stands a k i s None leave rest h e = h
mapped_stands a k i s (Some r) leave rest h e = (λ n is. (leave r, rest n is r, h n is), λ _. e)

pub mapped_read : (a : Attempt) (k : Fixed) (w : Name) (c : Content) (i : Option Name) (s : Stand) → StandsAt a k (Read w c i) s (access_to (option_and_then (λ j. resource_at a c j) (index_value i s.env)))
mapped_read a k w c i s = go (index_value i s.env) refl
  where
    go : (o : Option (Option Data)) → index_value i s.env ≡ o → StandsAt a k (Read w c i) s (access_to (option_and_then (λ j. resource_at a c j) o))
    go None h = λ n is. ap (λ o. with_value o (λ j. reading (with_words s.words a) c j s.progress (λ v q. resume a k n is (binding w v (going q (onward s)))))) h
    go (Some j) h = mapped_stands a k (Read w c i) s (resource_at a c j) _ _ (λ n is. read_is a k w c i s j h n is) refl

pub mapped_write : (a : Attempt) (k : Fixed) (c : Content) (i : Option Name) (w : Name) (s : Stand) → StandsAt a k (Write c i w) s (access_to (option_and_then (λ j. resource_at a c j) (index_value i s.env)))
mapped_write a k c i w s = go (index_value i s.env) refl
  where
    go : (o : Option (Option Data)) → index_value i s.env ≡ o → StandsAt a k (Write c i w) s (access_to (option_and_then (λ j. resource_at a c j) o))
    go None h = λ n is. ap (λ o. with_value o (λ j. writing (with_words s.words a) c j (value_under w s.env) s.progress (λ q. resume a k n is (going q (onward s))))) h
    go (Some j) h = mapped_stands a k (Write c i w) s (resource_at a c j) _ _ (λ n is. write_is a k c i w s j h n is) refl
