-- What a queue answers is what the channel's macro does on the sequence of its messages.
use Rattle.std.proofs.Common.{◌≡◌, ℕ, ℤ, Bool, true, false, List, [], ◌∷◌, ◌++◌, length, map, Option, Some, None, Result, Ok, Err, refl, sym, ap, ◌∙◌, subst}
use Rattle.std.specs.Prelude.{int_lt, pos, not, option_map}
use Rattle.pgo_base.specs.Data.{Data, integer}
use Rattle.pgo_base.specs.Lookup.{Name}
use Rattle.pgo_base.specs.Tree.{Tree, name}
use Rattle.pgo_base.specs.View.{data_of}
use Rattle.pgo_base.specs.declared.module.Defined.{Defined}
use Rattle.pgo_base.specs.declared.value.Value.{Value}
use Rattle.pgo_bound.specs.Lookups.{same_of}
use Rattle.pgo_cells.specs.CellView.{start_of}
use Rattle.pgo_model.specs.Log.{differs}
use Rattle.pgo_model.specs.ModuleView.{defined_view}
use Rattle.pgo_model.specs.Operators.{same_data}
use Rattle.pgo_model.specs.Outcome.{Blocked, NoValue, AssertFails}
use Rattle.pgo_model.specs.Sequences.{len, elements}
use Rattle.pgo_model.specs.Val.{Val}
use Rattle.pgo_model.specs.Written.{self_name, value_name}
use Rattle.pgo_sections.specs.Exec.{Gives, Stops}
use Rattle.pgo_syntax.specs.Statement.{labeled}
use Rattle.pgo_syntax.specs.declared.bound.Mapping.{Mapping}
use Rattle.pgo_syntax.specs.declared.bound.Mapping.TheVariants.{Identity, Macro}
use Rattle.pgo_syntax.specs.declared.macros.MappingMacro.{MappingMacro}
use Rattle.pgo_workers.specs.Operations.{read_of, write_of, read_put, write_put, Ends}
use Rattle.pgo_workers.specs.View.{Shown}
use Rattle.pgo_resource.specs.Answers.{Read, Written}
use Rattle.pgo_resource.specs.Picked.{words_of, choices_of}
use Rattle.pgo_resource.specs.declared.picks.Picks.{Picks}
use Rattle.pgo_resource.specs.declared.resource.OpStop.{OpStop}
use Rattle.pgo_resource.specs.declared.resource.OpStop.TheVariants as stops
use Rattle.pgo_macro_run.proofs.Ended.{read_yields, read_so, write_yields, write_so}
use Rattle.std.specs.declared.alloc.AllocError.{AllocError}
use Rattle.pgo_sets.specs.Answers.{Answers}
use Rattle.pgo_sets.specs.declared.errors.EvalStop.{EvalStop}
use Rattle.pgo_sets.specs.declared.errors.EvalStop.TheVariants as eval_stops
use Rattle.pgo_mailbox.specs.Boxed.{shown_by, ReceivedBy, SentBy, SentWithin, SentBelow, received_as, sent_as}
use Rattle.pgo_mailbox.specs.Capacities.{Capacity}
use Rattle.pgo_mailbox.specs.QueueOf.{QueueOf}
use Rattle.pgo_mailbox.specs.Channel.{IsRead, IsWrite}
use Rattle.pgo_mailbox.specs.Queues.{sequence_data, Fits, Received, Sent}
use Rattle.pgo_mailbox.specs.declared.queue.Queue.{Queue}
use Rattle.pgo_mailbox.specs.Tests.{takes_first, whole_limit}
use Rattle.pgo_mailbox.proofs.Meant.{empty_blocks, first_yields, full_blocks, appends}
use Rattle.pgo_mailbox.proofs.Tested.{read_is, write_is, Limited}

abbrev Messages : Type 0
Messages = List Data × List Data

same_shown : (o n : Messages) (count : ℕ) → n.0 ≡ o.0 → shown_by n count ≡ record (shown_by o count) { current = sequence_data n.1 }
same_shown o n count e = λ i. record { base = sequence_data (e i); current = sequence_data n.1; count = count; number = None }

-- ---- a read
module _ (m : MappingMacro) (r : IsRead m.read) (ds : List Defined) (id : Data) (p : Picks) where
  first_ends : (v : Data) (vs : List Data) → Fits (v ∷ vs) → Ends (read_of (Macro m) ds id None (words_of p) (sequence_data (v ∷ vs))) (choices_of p) (choices_of p) (Gives (v, sequence_data vs))
  first_ends v vs f =
      let s = sequence_data (v ∷ vs) in
      ap (read_put None s)
      (read_yields (map defined_view ds) id s (words_of p) (labeled m.read) [] p v (record { content = Some (sequence_data vs); choices = choices_of p })
      (first_yields (map defined_view ds) id (words_of p) (choices_of p) m.read r v vs f))

  empty_ends : Ends (read_of (Macro m) ds id None (words_of p) (sequence_data [])) (choices_of p) (choices_of p) (λ cs. Stops Blocked cs)
  empty_ends =
      let s = sequence_data [] in
      ap (read_put None s)
      (read_so (map defined_view ds) id s (words_of p) (labeled m.read) [] p p (refl, refl) (Err stops.Blocked) (empty_blocks (map defined_view ds) id (words_of p) (choices_of p) m.read r)).1

pub first_read : (m : Mapping) (at : Option Data) → takes_first m at ≡ true → (o n : Messages) (v : Value) → n.0 ≡ o.0 → o.1 ≡ data_of v ∷ n.1 → Fits o.1 → (count : ℕ) → ReceivedBy m at (shown_by o count) (shown_by n count) (Ok (Some v))
first_read Identity at h o n v b e f count = absurd (cc)
first_read (Macro m) (Some i) h o n v b e f count = absurd (cc)
first_read (Macro m) None h o n v b e f count = λ ds id p. (
  same_shown o n count b,
  (refl, refl),
  subst (λ xs. Ends (read_of (Macro m) ds id None (words_of p) (sequence_data xs)) (choices_of p) (choices_of p) (Gives (data_of v, sequence_data n.1))) (sym e)
      (first_ends m (read_is m.read h) ds id p (data_of v) n.1 (subst Fits e f)),
)

pub no_first : (m : Mapping) (at : Option Data) → takes_first m at ≡ true → (o n : Messages) → o.1 ≡ [] → n ≡ o → (count : ℕ) → ReceivedBy m at (shown_by o count) (shown_by n count) (Err stops.Blocked)
no_first Identity at h o n e s count = absurd (cc)
no_first (Macro m) (Some i) h o n e s count = absurd (cc)
no_first (Macro m) None h o n e s count = λ ds id p. (
  ap (λ q. shown_by q count) s,
  (refl, refl),
  subst (λ xs. Ends (read_of (Macro m) ds id None (words_of p) (sequence_data xs)) (choices_of p) (choices_of p) (λ cs. Stops Blocked cs)) (sym e)
      (empty_ends m (read_is m.read h) ds id p),
)

pub no_memory_read : (m : Mapping) (at : Option Data) (o n : Messages) → n ≡ o → (count : ℕ) → ReceivedBy m at (shown_by o count) (shown_by n count) (Err stops.NoMemory)
no_memory_read m at o n s count = λ ds id p. (ap (λ q. shown_by q count) s, (refl, refl), tt)

-- ---- a write
module _ (m : MappingMacro) (ds : List Defined) (id x : Data) (c : Name) (w : IsWrite c m.write) (z : ℤ)
    (limit : Val (map defined_view ds) (name c) ((self_name, Some id) ∷ []) [] None ≡ Some (integer z)) (p : Picks) (xs : List Data) where
  append_ends : int_lt (pos (length xs)) z ≡ true → Fits (xs ++ x ∷ [])
      → Ends (write_of (Macro m) ds id None x (words_of p) (sequence_data xs)) (choices_of p) (choices_of p) (Gives (sequence_data (xs ++ x ∷ [])))
  append_ends h f =
      let s = sequence_data xs in
      ap (write_put None s)
      (write_yields (map defined_view ds) id s (words_of p) (labeled m.write) ((value_name, Some x) ∷ []) p (sequence_data (xs ++ x ∷ [])) (record { content = None; choices = choices_of p })
      (appends (map defined_view ds) id (words_of p) (choices_of p) c m.write w xs x z limit h f))

  full_ends : int_lt (pos (length xs)) z ≡ false
      → Ends (write_of (Macro m) ds id None x (words_of p) (sequence_data xs)) (choices_of p) (choices_of p) (λ cs. Stops Blocked cs)
  full_ends h =
      let s = sequence_data xs in
      ap (write_put None s)
      (write_so (map defined_view ds) id s (words_of p) (labeled m.write) ((value_name, Some x) ∷ []) p p (refl, refl) (Err stops.Blocked)
      (full_blocks (map defined_view ds) id (words_of p) (choices_of p) c m.write w xs x z limit h)).1

-- where the capacity is an integer
module _ (m : MappingMacro) (ds : List Defined) (id x : Data) (t : Tree) (l : Limited m.write t) (z : ℤ)
    (limit : Val (map defined_view ds) t ((self_name, Some id) ∷ []) [] None ≡ Some (integer z)) (o n : Messages) where
  abbrev named_limit : Val (map defined_view ds) (name l.c) ((self_name, Some id) ∷ []) [] None ≡ Some (integer z)
  named_limit = subst (λ e. Val (map defined_view ds) e ((self_name, Some id) ∷ []) [] None ≡ Some (integer z)) l.capacity limit

  sent_macro : (r : Result Bool OpStop) → SentWithin z x o n r → (count : ℕ) → SentBy (Macro m) ds id None x (shown_by o count) (shown_by n count) r
  sent_macro (Ok false) h count = ap (λ q. shown_by q count) h
  sent_macro (Ok true) h count = λ p. (
    same_shown o n count (ap (λ q. q.0) h.1),
    (refl, refl),
    subst (λ xs. Ends (write_of (Macro m) ds id None x (words_of p) (sequence_data o.1)) (choices_of p) (choices_of p) (Gives (sequence_data xs))) (sym (ap (λ q. q.1) h.1))
        (append_ends m ds id x l.c l.writes z named_limit p o.1 h.0 (subst Fits (ap (λ q. q.1) h.1) h.2)),
  )
  sent_macro (Err stops.Blocked) h count = λ p. (ap (λ q. shown_by q count) h.1, (refl, refl), full_ends m ds id x l.c l.writes z named_limit p o.1 h.0)
  sent_macro (Err stops.NoValue) h count = absurd h
  sent_macro (Err stops.AssertFails) h count = absurd h
  sent_macro (Err stops.NoMemory) h count = λ p. (ap (λ q. shown_by q count) h, (refl, refl), tt)

pub sent : (m : Mapping) (ds : List Defined) (id : Data) (at : Option Data) (x : Data) (t : Tree) → whole_limit m at ≡ Some t → (z : ℤ)
    → Val (map defined_view ds) t ((self_name, Some id) ∷ []) [] None ≡ Some (integer z) → (o n : Messages) (r : Result Bool OpStop) → SentWithin z x o n r → (count : ℕ) → SentBy m ds id at x (shown_by o count) (shown_by n count) r
sent Identity ds id at x t h z limit o n r s count = absurd (cc)
sent (Macro m) ds id (Some i) x t h z limit o n r s count = absurd (cc)
sent (Macro m) ds id None x t h z limit o n r s count = sent_macro m ds id x t (write_is m.write t h) z limit o n r s count

pub no_memory_sent : (m : Mapping) (ds : List Defined) (id : Data) (at : Option Data) (x : Data) (o n : Messages) → n ≡ o → (count : ℕ) → SentBy m ds id at x (shown_by o count) (shown_by n count) (Err stops.NoMemory)
no_memory_sent m ds id at x o n s count = λ p. (ap (λ q. shown_by q count) s, (refl, refl), tt)

-- ---- a read or a write of what is now as a value, by a cell
module _ (m : Mapping) (ds : List Defined) (id : Data) (at : Option Data) (p q : Picks) (o c : Shown) (same : c.current ≡ o.current) where
  -- the cell reads, and what the mailbox shows then
  pub cell_read : (d n : Shown) (v : Value) → Read m ds id at c d p q (Ok v) → n ≡ record o { current = d.current } → Read m ds id at o n p q (Ok v)
  cell_read d n v h e = (
    e ∙ ap (λ x. record o { current = x }) (sym (ap (λ z. z.current) e)),
    h.1,
    subst (λ x. Ends (read_of m ds id at (words_of p) o.current) (choices_of p) (choices_of q) (Gives (data_of v, x))) (sym (ap (λ z. z.current) e))
        (subst (λ x. Ends (read_of m ds id at (words_of p) x) (choices_of p) (choices_of q) (Gives (data_of v, d.current))) same h.2),
  )

  pub cell_stops : (d n : Shown) (e : OpStop) → Read m ds id at c d p q (Err e) → n ≡ o → Read m ds id at o n p q (Err e)
  cell_stops d n stops.Blocked h s = (s, h.1, subst (λ x. Ends (read_of m ds id at (words_of p) x) (choices_of p) (choices_of q) (λ cs. Stops Blocked cs)) same h.2)
  cell_stops d n stops.NoValue h s = (s, h.1, subst (λ x. Ends (read_of m ds id at (words_of p) x) (choices_of p) (choices_of q) (λ cs. Stops NoValue cs)) same h.2)
  cell_stops d n stops.AssertFails h s = (s, h.1, subst (λ x. Ends (read_of m ds id at (words_of p) x) (choices_of p) (choices_of q) (λ cs. Stops AssertFails cs)) same h.2)
  cell_stops d n stops.NoMemory h s = (s, h.1, tt)

  pub cell_writes : (x : Data) (d n : Shown) → Written m ds id at x c d p q (Ok tt) → n ≡ record o { current = d.current } → Written m ds id at x o n p q (Ok tt)
  cell_writes x d n h e = (
    e ∙ ap (λ y. record o { current = y }) (sym (ap (λ z. z.current) e)),
    h.1,
    subst (λ y. Ends (write_of m ds id at x (words_of p) o.current) (choices_of p) (choices_of q) (Gives y)) (sym (ap (λ z. z.current) e))
        (subst (λ y. Ends (write_of m ds id at x (words_of p) y) (choices_of p) (choices_of q) (Gives d.current)) same h.2),
  )

  pub cell_write_stops : (x : Data) (d n : Shown) (e : OpStop) → Written m ds id at x c d p q (Err e) → n ≡ o → Written m ds id at x o n p q (Err e)
  cell_write_stops x d n stops.Blocked h s = (s, h.1, subst (λ y. Ends (write_of m ds id at x (words_of p) y) (choices_of p) (choices_of q) (λ cs. Stops Blocked cs)) same h.2)
  cell_write_stops x d n stops.NoValue h s = (s, h.1, subst (λ y. Ends (write_of m ds id at x (words_of p) y) (choices_of p) (choices_of q) (λ cs. Stops NoValue cs)) same h.2)
  cell_write_stops x d n stops.AssertFails h s = (s, h.1, subst (λ y. Ends (write_of m ds id at x (words_of p) y) (choices_of p) (choices_of q) (λ cs. Stops AssertFails cs)) same h.2)
  cell_write_stops x d n stops.NoMemory h s = (s, h.1, tt)

-- ---- views
pub begun : (v : Data) (q : Messages) → q.1 ≡ q.0 → v ≡ sequence_data q.0 → shown_by q 0 ≡ start_of v
begun v q a e = λ i. record { base = sym e i; current = (ap sequence_data a ∙ sym e) i; count = 0; number = None }

len_there : (o : Option (List Data)) (y : Data) → option_map (λ xs. integer (pos (length xs))) o ≡ Some y → (xs : List Data) × (o ≡ Some xs)
len_there None y h = absurd (cc)
len_there (Some xs) y h = (xs, refl)

pub is_sequence : (v y : Data) → len v ≡ Some y → (xs : List Data) × (elements v ≡ Some xs)
is_sequence v y h = len_there (elements v) y h

len_none : (o : Option (List Data)) → option_map (λ xs. integer (pos (length xs))) o ≡ None → o ≡ None
len_none None h = refl
len_none (Some xs) h = absurd (cc)

pub no_sequence : (v : Data) → len v ≡ None → elements v ≡ None
no_sequence v h = len_none (elements v) h

-- a read or a write that begins where nothing has changed yet
pub from_same : (m : Mapping) (ds : List Defined) (id : Data) (at : Option Data) (p q : Picks) (o k n : Shown) (r : Result Value OpStop) → k ≡ o → Read m ds id at k n p q r → Read m ds id at o n p q r
from_same m ds id at p q o k n r e h = subst (λ s. Read m ds id at s n p q r) e h

pub write_from_same : (m : Mapping) (ds : List Defined) (id : Data) (at : Option Data) (x : Data) (p q : Picks) (o k n : Shown) (r : Result Unit OpStop) → k ≡ o → Written m ds id at x k n p q r → Written m ds id at x o n p q r
write_from_same m ds id at x p q o k n r e h = subst (λ s. Written m ds id at x s n p q r) e h

-- what is no other value than it was
pub not_differs : (v w : Data) → false ≡ differs (Some v) (Some w) → v ≡ w
not_differs v w h = go (same_data v w) refl h
  where
    go : (b : Bool) → same_data v w ≡ b → false ≡ not b → v ≡ w
    go true e g = same_of v w e
    go false e g = absurd (cc)

pub begun_by : (v : Data) (o : Option Queue) (q : Queue) → QueueOf v o → o ≡ Some q → shown_by q 0 ≡ start_of v
begun_by v o q h e = let k : QueueOf v (Some q) = subst (QueueOf v) e h in begun v q k.0 k.1

pub sequence_by : (v : Data) (r : Result Value EvalStop) (w : Value) → Answers r (len v) → r ≡ Ok w → (xs : List Data) × (elements v ≡ Some xs)
sequence_by v r w h e = let k : Answers (Ok w) (len v) = subst (λ z. Answers z (len v)) e h in is_sequence v (data_of w) k

pub no_sequence_by : (v : Data) (r : Result Value EvalStop) → Answers r (len v) → r ≡ Err eval_stops.NoValue → elements v ≡ None
no_sequence_by v r h e = let k : Answers (Err eval_stops.NoValue) (len v) = subst (λ z. Answers z (len v)) e h in no_sequence v k

pub received_so : (m : Mapping) (at : Option Data) → takes_first m at ≡ true → (o n : Messages) (r : Result (Option Value) AllocError) → Received o n r
    → (count : ℕ) → ReceivedBy m at (shown_by o count) (shown_by n count) (received_as r)
received_so m at t o n (Ok (Some v)) h count = first_read m at t o n v h.0 h.1 h.2 count
received_so m at t o n (Ok None) h count = no_first m at t o n h.0 h.1 count
received_so m at t o n (Err e) h count = no_memory_read m at o n h count

pub sent_within : (z : ℤ) (x : Data) (o n : Messages) → int_lt (pos (length o.1)) z ≡ true → (r : Result Bool AllocError) → Sent x o n r → SentWithin z x o n (sent_as r)
sent_within z x o n t (Ok true) h = (t, h.0, h.1)
sent_within z x o n t (Ok false) h = h
sent_within z x o n t (Err e) h = h

pub sent_below : (m : Mapping) (ds : List Defined) (id : Data) (at : Option Data) (x : Data) (t : Tree) → whole_limit m at ≡ Some t → (c : Result (Option ℤ) OpStop)
    → Capacity (Val (map defined_view ds) t ((self_name, Some id) ∷ []) [] None) c → (o n : Messages) (r : Result Bool OpStop) → SentBelow c x o n r
    → (count : ℕ) → SentBy m ds id at x (shown_by o count) (shown_by n count) r
sent_below m ds id at x t h (Ok (Some z)) c o n r s count = sent m ds id at x t h z c o n r s count
sent_below m ds id at x t h (Ok None) c o n r s count =
    subst (SentBy m ds id at x (shown_by o count) (shown_by n count)) (sym s.0) (ap (λ q. shown_by q count) s.1)
sent_below m ds id at x t h (Err stops.NoMemory) c o n r s count =
    subst (SentBy m ds id at x (shown_by o count) (shown_by n count)) (sym s.0) (no_memory_sent m ds id at x o n s.1 count)
sent_below m ds id at x t h (Err stops.Blocked) c o n r s count = absurd c
sent_below m ds id at x t h (Err stops.NoValue) c o n r s count = absurd c
sent_below m ds id at x t h (Err stops.AssertFails) c o n r s count = absurd c

-- the capacity that was found
pub found_limit : {B : Type 0} (o : Option B) (f : B → Tree) (b : B) (x : Option Tree) → option_map f o ≡ x → o ≡ Some b → x ≡ Some (f b)
found_limit o f b x e s = sym e ∙ ap (option_map f) s

-- ---- what was answered
pub read_given : (m : Mapping) (at : Option Data) (o n : Shown) (r : Result (Option Value) OpStop) → ReceivedBy m at o n r → (f : Option Value) → r ≡ Ok f → (v : Value) → f ≡ Some v
    → (ds : List Defined) (id : Data) (p : Picks) → Read m ds id at o n p p (Ok v)
read_given m at o n r h f e v g ds id p = let k : ReceivedBy m at o n (Ok (Some v)) = subst (ReceivedBy m at o n) (e ∙ ap Ok g) h in k ds id p

pub write_given : (m : Mapping) (ds : List Defined) (id : Data) (at : Option Data) (x : Data) (o n : Shown) (r : Result Bool OpStop) → SentBy m ds id at x o n r → (b : Bool) → r ≡ Ok b → b ≡ true
    → (p : Picks) → Written m ds id at x o n p p (Ok tt)
write_given m ds id at x o n r h b e g p = let k : SentBy m ds id at x o n (Ok true) = subst (SentBy m ds id at x o n) (e ∙ ap Ok g) h in k p

-- a cell that isn't changed
pub kept_same : (o c : Shown) → c.base ≡ o.current → (b : Bool) → b ≡ false → b ≡ differs (Some c.base) (Some c.current) → o ≡ record o { current = c.current }
kept_same o c h b f e = ap (λ x. record o { current = x }) (sym h ∙ not_differs c.base c.current (sym f ∙ e))
