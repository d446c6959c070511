-- A resource that is read or becomes a value, as the access of an instruction.
use Rattle.std.proofs.Common.{◌≡◌, ℕ, suc, false, List, ◌∷◌, Option, Some, None, refl, ap, sym, ◌∙◌}
use Rattle.pgo_base.specs.Data.{Data}
use Rattle.pgo_base.specs.Lookup.{Name}
use Rattle.pgo_model.specs.Options.{on}
use Rattle.pgo_model.specs.Outcome.{NoValue}
use Rattle.pgo_syntax.specs.declared.records.NoteKind.TheVariants as kinds
use Rattle.pgo_sections.specs.BoundValues.{value_under}
use Rattle.pgo_sections.specs.Code.{Code}
use Rattle.pgo_sections.specs.Context.{index_value}
use Rattle.pgo_sections.specs.Exec.{MacroEnd, Stops}
use Rattle.pgo_sections.specs.SectionRun.{ChoiceMade}
use Rattle.pgo_workers.specs.Operations.{part_of}
use Rattle.pgo_workers.specs.Walk.{Touch}
use Rattle.pgo_accesses.specs.Accesses.{Attempt, becoming, with_value, left_by_write, behind_write, write_here}
use Rattle.pgo_code.specs.Steps.{Unmapped, Evaluation, Resource, Content, Step, Assign, Set, Write}
use Rattle.pgo_places.specs.declared.flow.Flow.{Flow}
use Rattle.pgo_places.specs.declared.flow.Flow.TheVariants as flows
use Rattle.pgo_places.specs.Flows.{flow_walk, evaluation_in, left_of, resource_at, part_index}
use Rattle.pgo_places.specs.Performs.{Performs, Puts}
use Rattle.pgo_places.specs.Stands.{Fixed, Stand, going, onward, looked, putting, with_words, resume}
use Rattle.pgo_places.proofs.Contents.{performs_write}
use Rattle.pgo_places.proofs.Evaluations.{resume_waits}

puts_so : (a : Attempt) (k : Fixed) (i : Step) (s : Stand) (o : Option ℕ) (v : Data) (f : Flow) (t : Stand) (old new : Data)
    → ((n : ℕ) (is : List Step) → resume a k (suc n) (i ∷ is) s ≡ putting k (Resource o) v (onward s) (resume a k n is)) → Puts o v s f t new → Performs a k i s f t old new
puts_so a k i s o v f t old new e h = λ n is. (
  h.0,
  λ x. v,
  λ x. resume a k n is (going (becoming false h.0 v s.progress) (onward s)),
  e n is ∙ ap (λ q. putting k (Resource q) v (onward s) (resume a k n is)) h.1,
  h.2,
  ap (λ u. resume a k n is u) (sym h.4) ∙ sym (ap (λ g. flow_walk a k n i is g t) h.3),
)

pub puts_assign : (a : Attempt) (k : Fixed) (s : Stand) (o : Option ℕ) (w : Name) (v : Data) (f : Flow) (t : Stand) (old new : Data)
    → value_under w s.env ≡ Some v → Puts o v s f t new → Performs a k (Assign (Resource o) w) s f t old new
puts_assign a k s o w v f t old new e h =
    puts_so a k (Assign (Resource o) w) s o v f t old new (λ n is. ap (λ x. with_value x (λ y. putting k (Resource o) y (onward s) (resume a k n is))) e) h

pub puts_set : (a : Attempt) (k : Fixed) (s : Stand) (o : Option ℕ) (x : Evaluation) (v : Data) (f : Flow) (t : Stand) (old new : Data)
    → s.value ≡ Some v → Puts o v s f t new → Performs a k (Set (Resource o) x) s f t old new
puts_set a k s o x v f t old new e h =
    puts_so a k (Set (Resource o) x) s o v f t old new
    (λ n is. ap (λ y. on (resume a k (suc n) (Set (Resource o) x ∷ is) (record s { value = None })) y (λ z. putting k (Resource o) z (onward s) (resume a k n is))) e) h

pub looks : (a : Attempt) (k : Fixed) (i : Step) (s t : Stand) (x : Name) (o : Option ℕ) (xs : List Unmapped) (r : ℕ) (v : Data)
    → left_of (evaluation_in i s.value) s ≡ (x, o) ∷ xs → o ≡ Some r → t ≡ looked k x v s → Performs a k i s flows.Again t v v
looks a k i s t x o xs r v h q e = λ n is. (
  r,
  λ y. y,
  λ y. resume a k (suc n) (i ∷ is) (looked k x y s),
  resume_waits a k n is i s (x, o) xs h ∙ ap (λ p. with_value p (λ r. Touch r (λ y. y) (λ y. resume a k (suc n) (i ∷ is) (looked k x y s)))) q,
  refl,
  ap (λ u. resume a k (suc n) (i ∷ is) u) (sym e),
)

abbrev nothing_with : List ChoiceMade → MacroEnd Data
nothing_with u = Stops NoValue u

no_write : (a : Attempt) (block : Code) (at : Option Data) (u : List ChoiceMade) (v : Data) → write_here a block at None u v ≡ nothing_with u
no_write a block at u v = go (part_of at v)
  where
    go : (o : Option Data) → on (nothing_with u) o (λ old. nothing_with u) ≡ nothing_with u
    go None = refl
    go (Some x) = refl

pub writes_nothing : (a : Attempt) (k : Fixed) (c : Content) (i : Option Name) (w : Name) (s : Stand) (j : Option Data) (r : ℕ) (old : Data)
    → index_value i s.env ≡ Some j → resource_at a c j ≡ Some r → value_under w s.env ≡ None → Performs a k (Write c i w) s (flows.Noted kinds.NoValue) s old old
writes_nothing a k c i w s j r old e g u =
    let none : write_here (with_words s.words a) c.writes (part_index c j) (value_under w s.env) s.progress.points old ≡ nothing_with s.progress.points =
    ap (λ o. write_here (with_words s.words a) c.writes (part_index c j) o s.progress.points old) u ∙ no_write (with_words s.words a) c.writes (part_index c j) s.progress.points old in
    performs_write a k c i w s s.first s.words s.progress j r (flows.Noted kinds.NoValue) s old old e g refl refl
    (sym (ap (left_by_write old) none))
    (λ n is. ap (λ m. behind_write c.is_element r s.progress m (λ q. resume a k n is (going q (onward s)))) none)
