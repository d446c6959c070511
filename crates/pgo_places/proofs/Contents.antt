-- What a content's answers say of an access.
use Rattle.std.proofs.Common.{◌≡◌, ℕ, List, Option, Some, None, Result, Ok, Err, refl, ap, sym, ◌∙◌, subst}
use Rattle.pgo_base.specs.Data.{Data}
use Rattle.pgo_base.specs.Lookup.{Name}
use Rattle.pgo_base.specs.declared.module.Defined.{Defined}
use Rattle.pgo_base.specs.declared.value.Value.{Value}
use Rattle.pgo_base.specs.View.{data_of}
use Rattle.pgo_model.specs.Options.{on}
use Rattle.pgo_model.specs.Outcome.{Kind, Blocked, NoValue, AssertFails}
use Rattle.pgo_model.specs.System.{Words}
use Rattle.pgo_definitions.specs.Meant.{meant}
use Rattle.pgo_syntax.specs.declared.bound.Mapping.{Mapping}
use Rattle.pgo_syntax.specs.declared.bound.Mapping.TheVariants.{Identity}
use Rattle.pgo_sections.specs.BoundValues.{bindable, value_under}
use Rattle.pgo_sections.specs.Context.{index_value}
use Rattle.pgo_sections.specs.Exec.{MacroEnd, Gives, Stops}
use Rattle.pgo_sections.specs.Macros.{block_read, block_write}
use Rattle.pgo_sections.specs.SectionRun.{ChoiceMade}
use Rattle.pgo_meaning.proofs.MacroUse.{identity_writes}
use Rattle.pgo_meaning.specs.Parameters.{reads_by, writes_by}
use Rattle.pgo_workers.specs.Operations.{part_of, read_of, write_of, read_put, write_put, Ends}
use Rattle.pgo_workers.specs.View.{Shown}
use Rattle.pgo_workers.specs.Walk.{Touch}
use Rattle.pgo_resource.specs.Answers.{Read as IsRead, Written, StopsSo}
use Rattle.pgo_resource.specs.Picked.{attempt_words, words_of, choices_of}
use Rattle.pgo_resource.specs.declared.picks.Picks.{Picks}
use Rattle.pgo_resource.specs.declared.resource.OpStop.{OpStop}
use Rattle.pgo_resource.specs.declared.resource.OpStop.TheVariants as stops
use Rattle.pgo_accesses.specs.Accesses.{Attempt, Progress, no_value, left_by_read, left_by_write, behind_read, behind_write, read_here, write_here}
use Rattle.pgo_code.specs.Steps.{Content, Step, Read, Write}
use Rattle.pgo_places.specs.declared.flow.Flow.{Flow}
use Rattle.pgo_places.specs.Flows.{flow_walk, resource_at, part_index}
use Rattle.pgo_places.specs.Performs.{Performs, IsNoMemory, IsTold, ReadAnswers, WriteAnswers}
use Rattle.pgo_places.specs.Stands.{Fixed, Stand, binding, going, onward, with_words, resume}
use Rattle.pgo_places.proofs.Standing.{read_is, write_is}

abbrev given_of : {A : Type 0} → A → MacroEnd A → A
given_of x (Gives y cs) = y
given_of x (Stops kind cs) = x

abbrev made_in : {A : Type 0} → MacroEnd A → List ChoiceMade
made_in (Gives y cs) = cs
made_in (Stops kind cs) = cs

-- definitions that mean the same have the same reads and writes
same_read : (a b : List Defined) → meant a ≡ meant b → (m : Mapping) (id : Data) (at : Option Data) (d : Words) (v : Data) → read_of m a id at d v ≡ read_of m b id at d v
same_read a b h m id at d v = λ i cs. on (Stops NoValue cs) (part_of at v) (λ old. read_put at v (block_read (reads_by m) (h i) id old d cs))

same_write : (a b : List Defined) → meant a ≡ meant b → (m : Mapping) (id : Data) (at : Option Data) (x : Data) (d : Words) (v : Data) → write_of m a id at x d v ≡ write_of m b id at x d v
same_write a b h m id at x d v = λ i cs. on (Stops NoValue cs) (part_of at v) (λ old. write_put at v (block_write (writes_by m) (h i) id old x d cs))

pub read_meant : (a b : List Defined) → meant a ≡ meant b → (m : Mapping) (id : Data) (at : Option Data) (old new : Shown) (p q : Picks) (ans : Result Value OpStop)
    → IsRead m a id at old new p q ans → IsRead m b id at old new p q ans
read_meant a b h m id at old new p q (Ok v) r =
    (r.0, r.1, subst (λ (f : List ChoiceMade → MacroEnd (Data × Data)). Ends f (choices_of p) (choices_of q) (Gives (data_of v, new.current))) (same_read a b h m id at (words_of p) old.current) r.2)
read_meant a b h m id at old new p q (Err x) r =
    (r.0, r.1, subst (λ (f : List ChoiceMade → MacroEnd (Data × Data)). StopsSo x (λ e. Ends f (choices_of p) (choices_of q) e)) (same_read a b h m id at (words_of p) old.current) r.2)

pub write_meant : (a b : List Defined) → meant a ≡ meant b → (m : Mapping) (id : Data) (at : Option Data) (x : Data) (old new : Shown) (p q : Picks) (ans : Result (Unit {0}) OpStop)
    → Written m a id at x old new p q ans → Written m b id at x old new p q ans
write_meant a b h m id at x old new p q (Ok u) r =
    (r.0, r.1, subst (λ (f : List ChoiceMade → MacroEnd Data). Ends f (choices_of p) (choices_of q) (Gives new.current)) (same_write a b h m id at x (words_of p) old.current) r.2)
write_meant a b h m id at x old new p q (Err e) r =
    (r.0, r.1, subst (λ (f : List ChoiceMade → MacroEnd Data). StopsSo e (λ g. Ends f (choices_of p) (choices_of q) g)) (same_write a b h m id at x (words_of p) old.current) r.2)

-- ---- a write with no macro
identity_is : (ds : List Defined) (id x d : Data) (w : Words) (cs : List ChoiceMade) → bindable (Some x) ≡ Some x → write_of Identity ds id None x w d cs ≡ Gives x cs
identity_is ds id x d w cs b = ap (write_put None d) (identity_writes ds id d x w cs b)

-- it makes the content the value, and makes no choice
pub identity_written : (ds : List Defined) (id x d : Data) (w : Words) (cs cs' : List ChoiceMade) (new : Data) → bindable (Some x) ≡ Some x
    → Ends (write_of Identity ds id None x w d) cs cs' (Gives new) → (new ≡ x) × (cs' ≡ cs)
identity_written ds id x d w cs cs' new b h =
    let same : Gives new cs' ≡ Gives x cs = sym h ∙ identity_is ds id x d w cs b in (ap (given_of new) same, ap made_in same)

gives_stops : {A : Type 0} (x : A) (kind : Kind) (cs ds : List ChoiceMade) → Gives x cs ≡ Stops kind ds → ⊥
gives_stops x kind cs ds h = cc

-- nothing else stops it than want of memory
pub identity_stops : (ds : List Defined) (id x d : Data) (w : Words) (cs cs' : List ChoiceMade) (stop : OpStop) → bindable (Some x) ≡ Some x
    → StopsSo {A = Data} stop (λ e. Ends (write_of Identity ds id None x w d) cs cs' e) → IsNoMemory stop
identity_stops ds id x d w cs cs' stop b = go stop
  where
    never : (kind : Kind) → Ends (write_of Identity ds id None x w d) cs cs' (λ es. Stops kind es) → ⊥
    never kind h = gives_stops x kind cs cs' (sym (identity_is ds id x d w cs b) ∙ h)

    go : (s : OpStop) → StopsSo {A = Data} s (λ e. Ends (write_of Identity ds id None x w d) cs cs' e) → IsNoMemory s
    go stops.Blocked h = never Blocked h
    go stops.NoValue h = never NoValue h
    go stops.AssertFails h = never AssertFails h
    go stops.NoMemory h = tt

-- ---- what the answers say
pub read_answers : (m : Mapping) (ds : List Defined) (id : Data) (at : Option Data) (old new : Shown) (p q : Picks) (ans : Result Value OpStop) (pr : Progress)
    → IsRead m ds id at old new p q ans → IsTold ans
    → (new.current ≡ left_by_read old.current (read_of m ds id at (words_of p) old.current (choices_of p)))
    × ReadAnswers ans new.current (record pr { points = choices_of q }) pr (read_of m ds id at (words_of p) old.current (choices_of p))
    × (words_of q ≡ words_of p) × (attempt_words q ≡ attempt_words p)
read_answers m ds id at old new p q (Ok v) pr h t = (sym (ap (left_by_read old.current) h.2), (h.2, refl), h.1.0, h.1.1)
read_answers m ds id at old new p q (Err stops.Blocked) pr h t = (ap (λ z. z.current) h.0 ∙ sym (ap (left_by_read old.current) h.2), h.2, h.1.0, h.1.1)
read_answers m ds id at old new p q (Err stops.NoValue) pr h t = (ap (λ z. z.current) h.0 ∙ sym (ap (left_by_read old.current) h.2), h.2, h.1.0, h.1.1)
read_answers m ds id at old new p q (Err stops.AssertFails) pr h t = (ap (λ z. z.current) h.0 ∙ sym (ap (left_by_read old.current) h.2), h.2, h.1.0, h.1.1)
read_answers m ds id at old new p q (Err stops.NoMemory) pr h t = absurd t

pub write_answers : (m : Mapping) (ds : List Defined) (id : Data) (at : Option Data) (x : Data) (old new : Shown) (p q : Picks) (ans : Result (Unit {0}) OpStop) (pr : Progress)
    → Written m ds id at x old new p q ans → IsTold ans
    → (new.current ≡ left_by_write old.current (write_of m ds id at x (words_of p) old.current (choices_of p)))
    × WriteAnswers ans new.current (record pr { points = choices_of q }) pr (write_of m ds id at x (words_of p) old.current (choices_of p))
    × (words_of q ≡ words_of p) × (attempt_words q ≡ attempt_words p)
write_answers m ds id at x old new p q (Ok v) pr h t = (sym (ap (left_by_write old.current) h.2), (h.2, refl), h.1.0, h.1.1)
write_answers m ds id at x old new p q (Err stops.Blocked) pr h t = (ap (λ z. z.current) h.0 ∙ sym (ap (left_by_write old.current) h.2), h.2, h.1.0, h.1.1)
write_answers m ds id at x old new p q (Err stops.NoValue) pr h t = (ap (λ z. z.current) h.0 ∙ sym (ap (left_by_write old.current) h.2), h.2, h.1.0, h.1.1)
write_answers m ds id at x old new p q (Err stops.AssertFails) pr h t = (ap (λ z. z.current) h.0 ∙ sym (ap (left_by_write old.current) h.2), h.2, h.1.0, h.1.1)
write_answers m ds id at x old new p q (Err stops.NoMemory) pr h t = absurd t

-- the attempt's words stay
pub read_first : (m : Mapping) (ds : List Defined) (id : Data) (at : Option Data) (old new : Shown) (p q : Picks) (ans : Result Value OpStop) → IsRead m ds id at old new p q ans → attempt_words q ≡ attempt_words p
read_first m ds id at old new p q (Ok v) h = h.1.1
read_first m ds id at old new p q (Err x) h = h.1.1

pub write_first : (m : Mapping) (ds : List Defined) (id : Data) (at : Option Data) (x : Data) (old new : Shown) (p q : Picks) (ans : Result (Unit {0}) OpStop) → Written m ds id at x old new p q ans → attempt_words q ≡ attempt_words p
write_first m ds id at x old new p q (Ok v) h = h.1.1
write_first m ds id at x old new p q (Err e) h = h.1.1

pub write_keeps : (m : Mapping) (ds : List Defined) (id : Data) (at : Option Data) (x : Data) (old new : Shown) (p q : Picks) (ans : Result (Unit {0}) OpStop)
    → Written m ds id at x old new p q ans → new ≡ record old { current = new.current }
write_keeps m ds id at x old new p q (Ok v) h = h.0
write_keeps m ds id at x old new p q (Err e) h = h.0 ∙ ap (λ (v : Data). record old { current = v }) (ap (λ z. z.current) (sym h.0))

-- a mapped parameter is read; behind that the stand has these words and is so far
pub performs_read : (a : Attempt) (k : Fixed) (w : Name) (c : Content) (i : Option Name) (s : Stand) (fs d : Words) (p : Progress) (j : Option Data) (r : ℕ) (f : Flow) (t : Stand) (old new : Data)
    → index_value i s.env ≡ Some j → resource_at a c j ≡ Some r → d ≡ s.words → fs ≡ s.first
    → new ≡ left_by_read old (read_here (with_words s.words a) c.reads (part_index c j) s.progress.points old)
    → ((n : ℕ) (is : List Step) → behind_read c.is_element r s.progress (read_here (with_words s.words a) c.reads (part_index c j) s.progress.points old)
    (λ x q. resume a k n is (binding w x (going q (onward (record s { first = fs; words = d; progress = p }))))) ≡ flow_walk a k n (Read w c i) is f t)
    → Performs a k (Read w c i) s f t old new
performs_read a k w c i s fs d p j r f t old new e g ws fe left h = λ n is. (
  r,
  λ v. left_by_read v (read_here (with_words s.words a) c.reads (part_index c j) s.progress.points v),
  λ v. behind_read c.is_element r s.progress (read_here (with_words s.words a) c.reads (part_index c j) s.progress.points v) (λ x q. resume a k n is (binding w x (going q (onward s)))),
  read_is a k w c i s j e n is
      ∙ ap (λ o. on no_value o (λ r.
      Touch r (λ v. left_by_read v (read_here (with_words s.words a) c.reads (part_index c j) s.progress.points v))
      (λ v. behind_read c.is_element r s.progress (read_here (with_words s.words a) c.reads (part_index c j) s.progress.points v) (λ x q. resume a k n is (binding w x (going q (onward s))))))) g,
  left,
  (λ l. behind_read c.is_element r s.progress (read_here (with_words s.words a) c.reads (part_index c j) s.progress.points old)
      (λ x q. resume a k n is (binding w x (going q (onward (record s { first = sym fe l; words = sym ws l; progress = p }))))))
      ∙ h n is,
)

pub performs_write : (a : Attempt) (k : Fixed) (c : Content) (i : Option Name) (w : Name) (s : Stand) (fs d : Words) (p : Progress) (j : Option Data) (r : ℕ) (f : Flow) (t : Stand) (old new : Data)
    → index_value i s.env ≡ Some j → resource_at a c j ≡ Some r → d ≡ s.words → fs ≡ s.first
    → new ≡ left_by_write old (write_here (with_words s.words a) c.writes (part_index c j) (value_under w s.env) s.progress.points old)
    → ((n : ℕ) (is : List Step) → behind_write c.is_element r s.progress (write_here (with_words s.words a) c.writes (part_index c j) (value_under w s.env) s.progress.points old)
    (λ q. resume a k n is (going q (onward (record s { first = fs; words = d; progress = p })))) ≡ flow_walk a k n (Write c i w) is f t)
    → Performs a k (Write c i w) s f t old new
performs_write a k c i w s fs d p j r f t old new e g ws fe left h = λ n is. (
  r,
  λ v. left_by_write v (write_here (with_words s.words a) c.writes (part_index c j) (value_under w s.env) s.progress.points v),
  λ v. behind_write c.is_element r s.progress (write_here (with_words s.words a) c.writes (part_index c j) (value_under w s.env) s.progress.points v) (λ q. resume a k n is (going q (onward s))),
  write_is a k c i w s j e n is
      ∙ ap (λ o. on no_value o (λ r.
      Touch r (λ v. left_by_write v (write_here (with_words s.words a) c.writes (part_index c j) (value_under w s.env) s.progress.points v))
      (λ v. behind_write c.is_element r s.progress (write_here (with_words s.words a) c.writes (part_index c j) (value_under w s.env) s.progress.points v) (λ q. resume a k n is (going q (onward s)))))) g,
  left,
  (λ l. behind_write c.is_element r s.progress (write_here (with_words s.words a) c.writes (part_index c j) (value_under w s.env) s.progress.points old)
      (λ q. resume a k n is (going q (onward (record s { first = sym fe l; words = sym ws l; progress = p })))))
      ∙ h n is,
)
