-- The code of a mapping macro's statements has the paths that the statements have.
use Rattle.std.proofs.Common.{◌≡◌, ℕ, suc, Bool, true, false, ◌||◌, ◌&&◌, List, [], ◌∷◌, ◌++◌, Option, Some, None, refl, ap, sym, ◌∙◌}
use Rattle.std.specs.Prelude.{if◌then◌else◌}
use Rattle.std.proofs.lemmas.Bool.{and_parts}
use Rattle.pgo_base.specs.Lookup.{Name, same_name, find}
use Rattle.pgo_base.specs.Tree.{Tree}
use Rattle.pgo_meaning.specs.MacrosPlaced.{unmarked}
use Rattle.pgo_meaning.specs.Parameters.{block_setting, block_code}
use Rattle.pgo_meaning.specs.Statements.{Part, Index, Field, to_variable, assigned, alone, steps, assign_all, assignment_code, bind_name, bind_names, code, branches, arms, in_order}
use Rattle.pgo_model.specs.Options.{on}
use Rattle.pgo_put_sizes.specs.Leads as spec
use Rattle.pgo_put_sizes.specs.Leads.{goes_on, nowhere, either_way, then_way, leads, any_lead, branches_lead, row_leads}
use Rattle.pgo_put_sizes.specs.Least.{passes, one_passes, yields, one_yields}
use Rattle.pgo_put_sizes.specs.declared.blocks.Paths.{Paths}
use Rattle.pgo_rewrite.specs.Rewritten.{replacement}
use Rattle.pgo_rewrite.proofs.RewrittenLaws.{plain, same}
use Rattle.pgo_sections.specs.Access.{MappedNames, Mapped, place, after, evaluated}
use Rattle.pgo_sections.specs.Code.{Code, Place, Whole, Empty, Let, Pick, Set, Await, Assert, Print, If, Seq, Goto, Codes, in_turn, at_base, val_base, old_base, content_name}
use Rattle.pgo_sections.specs.Replaced.{replaced}
use Rattle.pgo_syntax.specs.Statement.{Statement, skip, assign, if_then, if_else, while_do, either_of, await_that, with_in, print_out, assert_that, go_to, call_macro, yield_as, block, Statements, no_statements, more_statements, LabeledStatements, no_labeled, more_labeled, GuardedStatements, no_guarded, more_guarded, labeled}
use Rattle.pgo_syntax.specs.declared.assignment.Assignment.{Assignment}
use Rattle.pgo_syntax.specs.declared.assignment.Step.{Step}
use Rattle.pgo_syntax.specs.declared.assignment.Step.TheVariants as step
use Rattle.pgo_syntax.specs.declared.binding.Origin.{Origin}
use Rattle.pgo_syntax.specs.declared.binding.Origin.TheVariants.{Equals, In}
use Rattle.pgo_syntax.specs.declared.binding.WithName.{WithName}
use Rattle.pgo_syntax.specs.declared.name.PlacedName.{PlacedName}

abbrev pub paths_of : Code → Paths
paths_of c = record { passes = passes c; yields = yields c }

abbrev arms_lead : Codes → Paths
arms_lead cs = record { passes = one_passes cs; yields = one_yields cs }

or_none : (a : Bool) → a || false ≡ a
or_none true = refl
or_none false = refl

or_true : (a : Bool) → a || true ≡ true
or_true true = refl
or_true false = refl

and_true : (a : Bool) → a && true ≡ a
and_true true = refl
and_true false = refl

and_false : (a : Bool) → a && false ≡ false
and_false true = refl
and_false false = refl

or_swap : (a b c : Bool) → (a || b) || c ≡ (a || c) || b
or_swap true b c = refl
or_swap false true true = refl
or_swap false true false = refl
or_swap false false true = refl
or_swap false false false = refl

or_comm : (a b : Bool) → a || b ≡ b || a
or_comm true true = refl
or_comm true false = refl
or_comm false true = refl
or_comm false false = refl

and_assoc : (a b c : Bool) → a && (b && c) ≡ (a && b) && c
and_assoc true b c = refl
and_assoc false b c = refl

then_yields : (y p z q w : Bool) → y || (p && (z || (q && w))) ≡ (y || (p && z)) || ((p && q) && w)
then_yields true p z q w = refl
then_yields false true z q w = refl
then_yields false false z q w = refl

swapped : (a b c : Paths) → either_way (either_way a b) c ≡ either_way (either_way a c) b
swapped a b c = λ i. record { passes = or_swap a.passes b.passes c.passes i; yields = or_swap a.yields b.yields c.yields i }

commuted : (a b : Paths) → either_way a b ≡ either_way b a
commuted a b = λ i. record { passes = or_comm a.passes b.passes i; yields = or_comm a.yields b.yields i }

joined : (a b c : Paths) → then_way a (then_way b c) ≡ then_way (then_way a b) c
joined a b c = λ i. record { passes = and_assoc a.passes b.passes c.passes i; yields = then_yields a.yields a.passes b.yields b.passes c.yields i }

then_on : (a : Paths) → then_way a goes_on ≡ a
then_on a = λ i. record { passes = and_true a.passes i; yields = (ap (λ b. a.yields || b) (and_false a.passes) ∙ or_none a.yields) i }

looped : (a : Paths) → either_way (then_way a nowhere) goes_on ≡ record { passes = true; yields = a.yields }
looped a = λ i. record {
  passes = or_true (a.passes && false) i;
  yields = (or_none (a.yields || (a.passes && false)) ∙ ap (λ b. a.yields || b) (and_false a.passes) ∙ or_none a.yields) i;
}

any_out : (a b : Paths) (ts : Statements) → any_lead (either_way a b) ts ≡ either_way b (any_lead a ts)
any_out a b no_statements = commuted a b
any_out a b (more_statements t ts) = ap (λ z. any_lead z ts) (swapped a b (leads t)) ∙ any_out (either_way a (leads t)) b ts

branches_out : (a b : Paths) (bs : GuardedStatements) → branches_lead (either_way a b) bs ≡ either_way b (branches_lead a bs)
branches_out a b no_guarded = commuted a b
branches_out a b (more_guarded p e t bs) = ap (λ z. branches_lead z bs) (swapped a b (leads t)) ∙ branches_out (either_way a (leads t)) b bs

-- no parameter is mapped in a block
no_reads : (e : Tree) (k : ℕ) (f : Tree → ℕ → Code) → evaluated [] e k f ≡ f (replaced (replacement (λ x. None)) [] e) k
no_reads e k f = ap (λ p. after p.reads (f p.rest p.used)) (sym (same [] [] e k) ∙ plain (λ x. None) [] e k)

abbrev Passes : List Code → Type 0
Passes [] = Unit {0}
Passes (c ∷ cs) = (paths_of c ≡ goes_on) × Passes cs

one_more : (cs : List Code) (c : Code) → Passes cs → paths_of c ≡ goes_on → Passes (cs ++ c ∷ [])
one_more [] c h g = (g, tt)
one_more (d ∷ ds) c h g = (h.0, one_more ds c h.1 g)

turn_passes : (cs : List Code) → Passes cs → paths_of (in_turn cs) ≡ goes_on
turn_passes [] h = refl
turn_passes (c ∷ cs) h = λ i. then_way (h.0 i) (turn_passes cs h.1 i)

variable_passes : (x : Name) (path : List Part) (w : Name) (o : Option Place) → paths_of (on Empty o (to_variable block_setting x path w)) ≡ goes_on
variable_passes x path w None = refl
variable_passes x [] w (Some p) = refl
variable_passes x (i ∷ path) w (Some p) = refl

steps_pass : (path : List Step) (k : ℕ) (f : List Part → ℕ → Code) → ((ps : List Part) (j : ℕ) → paths_of (f ps j) ≡ goes_on) → paths_of (steps block_setting path k f) ≡ goes_on
steps_pass [] k f h = h [] k
steps_pass (step.Index e ∷ path) k f h =
    ap paths_of (no_reads e k (λ e' j. Let at_base (place j) e' (steps block_setting path (suc j) (λ parts. f (Index (place j) ∷ parts)))))
    ∙ steps_pass path (suc k) (λ parts. f (Index (place k) ∷ parts)) (λ ps j. h (Index (place k) ∷ ps) j)
steps_pass (step.Field x ∷ path) k f h = steps_pass path k (λ parts. f (Field x ∷ parts)) (λ ps j. h (Field x ∷ ps) j)

all_pass : (as' : List Assignment) (k : ℕ) (cs : List Code) → Passes cs → paths_of (assign_all block_setting as' k cs) ≡ goes_on
all_pass [] k cs h = turn_passes cs h
all_pass (a ∷ as') k cs h =
    let s = block_setting in
    steps_pass a.left.path k (λ path k1. evaluated [] a.right k1 (λ e k2. Let val_base (place k2) e (assign_all s as' (suc k2) (cs ++ assigned s a.left.name.name path (place k2) ∷ []))))
    (λ path j. ap paths_of (no_reads a.right j (λ e k2. Let val_base (place k2) e (assign_all s as' (suc k2) (cs ++ assigned s a.left.name.name path (place k2) ∷ []))))
    ∙ all_pass as' (suc j) (cs ++ assigned s a.left.name.name path (place j) ∷ [])
    (one_more cs (assigned s a.left.name.name path (place j)) h (variable_passes a.left.name.name path (place j) (find a.left.name.name s.places))))

assignment_passes : (as' : List Assignment) → paths_of (assignment_code block_setting as') ≡ goes_on
assignment_passes as' = go (alone as')
  where
    go : (o : Option Tree) → paths_of (on (assign_all block_setting as' 0 []) o (λ e. Set old_base (Whole content_name) e)) ≡ goes_on
    go None = all_pass as' 0 [] tt
    go (Some e) = refl

name_leads : (x : Name) (o : Origin) (c : Code) → paths_of (bind_name block_setting x o c) ≡ paths_of c
name_leads x (Equals e) c = ap paths_of (no_reads e 0 (λ e' k. Let (unmarked x) x e' c))
name_leads x (In e) c = ap paths_of (no_reads e 0 (λ e' k. Pick (unmarked x) x e' c))

names_lead : (ws : List WithName) (c : Code) → paths_of (bind_names block_setting ws c) ≡ paths_of c
names_lead [] c = refl
names_lead (w ∷ ws) c = name_leads w.name.name w.origin (bind_names block_setting ws c) ∙ names_lead ws c

mutual
  lead_is : (l : Name) (t : Statement) → paths_of (code block_setting l t) ≡ leads t
  lead_is l (skip p) = refl
  lead_is l (assign p as') = assignment_passes as'
  lead_is l (if_then p bs) = branches_are l bs Empty
  lead_is l (if_else p bs t) = branches_are l bs (code block_setting l t) ∙ ap (λ a. branches_lead a bs) (lead_is l t)
  lead_is l (while_do p e t) =
      ap paths_of (no_reads e 0 (λ e' k. If e' (Seq (code block_setting l t) (Goto l)) Empty)) ∙ looped (paths_of (code block_setting l t))
      ∙ ap (λ a. record { passes = true; yields = a.yields }) (lead_is l t)
  lead_is l (either_of p ts) = arms_are l ts
  lead_is l (await_that p e) = ap paths_of (no_reads e 0 (λ e' k. Await e'))
  lead_is l (with_in p ws t) = names_lead ws (code block_setting l t) ∙ lead_is l t
  lead_is l (print_out p e) = ap paths_of (no_reads e 0 (λ e' k. Print e'))
  lead_is l (assert_that p e) = ap paths_of (no_reads e 0 (λ e' k. Assert e'))
  lead_is l (go_to p x) = refl
  lead_is l (call_macro p m es) = refl
  lead_is l (yield_as p e) = refl
  lead_is l (block p ls) = row_is goes_on l ls

  branches_are : (l : Name) (bs : GuardedStatements) (c : Code) → paths_of (branches block_setting l bs c) ≡ branches_lead (paths_of c) bs
  branches_are l no_guarded c = refl
  branches_are l (more_guarded p e t bs) c =
      ap paths_of (no_reads e 0 (λ e' k. If e' (code block_setting l t) (branches block_setting l bs c)))
      ∙ (λ i. either_way (lead_is l t i) (branches_are l bs c i))
      ∙ sym (branches_out (paths_of c) (leads t) bs)

  arms_are : (l : Name) (ts : Statements) → arms_lead (arms block_setting l ts) ≡ any_lead nowhere ts
  arms_are l no_statements = refl
  arms_are l (more_statements t ts) = (λ i. either_way (lead_is l t i) (arms_are l ts i)) ∙ sym (any_out nowhere (leads t) ts)

  -- that, and then the row
  pub row_is : (a : Paths) (l : Name) (ls : LabeledStatements) → then_way a (paths_of (in_order block_setting l ls)) ≡ row_leads a ls
  row_is a l no_labeled = then_on a
  row_is a l (more_labeled None t ls) =
      ap (λ b. then_way a (then_way b (paths_of (in_order block_setting l ls)))) (lead_is l t)
      ∙ joined a (leads t) (paths_of (in_order block_setting l ls)) ∙ row_is (then_way a (leads t)) l ls
  row_is a l (more_labeled (Some x) t ls) = refl

pub found_yields : (ms : MappedNames) (x : Name) (m : Mapped) → spec.all_yield ms ≡ true → find x ms ≡ Some m → yields m.reads ≡ true
found_yields [] x m h f = absurd (cc f)
found_yields (p ∷ ps) x m h f = go (same_name x p.0) (and_parts (yields p.1.reads) (spec.all_yield ps) h) (λ g e. found_yields ps x m g e) f
  where
    go : (b : Bool) → (yields p.1.reads ≡ true) × (spec.all_yield ps ≡ true) → (spec.all_yield ps ≡ true → find x ps ≡ Some m → yields m.reads ≡ true)
        → (if b then Some p.1 else find x ps) ≡ Some m → yields m.reads ≡ true
    go true g ih e = sym (ap (λ o. yields (on p.1 o (λ z. z)).reads) e) ∙ g.0
    go false g ih e = ih g.1 e

pub read_yields : (w : Paths) (bs cs : List (Option PlacedName × Statement)) → w ≡ row_leads goes_on (labeled bs) → bs ≡ cs → w.yields ≡ yields (block_code cs)
read_yields w bs cs h e =
    ap (λ (a : Paths). a.yields) (h ∙ ap (λ (l : List (Option PlacedName × Statement)). row_leads goes_on (labeled l)) e ∙ sym (row_is goes_on [] (labeled cs)))

-- both of what is found
pub found_passes : (ms : MappedNames) (x : Name) (m : Mapped) → spec.all_pass ms ≡ true → find x ms ≡ Some m → (yields m.reads ≡ true) × (yields m.writes ≡ true)
found_passes [] x m h f = absurd (cc f)
found_passes (p ∷ ps) x m h f =
    let g = and_parts (yields p.1.reads && yields p.1.writes) (spec.all_pass ps) h in
    go (same_name x p.0) (and_parts (yields p.1.reads) (yields p.1.writes) g.0) (λ e. found_passes ps x m g.1 e) f
  where
    go : (b : Bool) → (yields p.1.reads ≡ true) × (yields p.1.writes ≡ true) → (find x ps ≡ Some m → (yields m.reads ≡ true) × (yields m.writes ≡ true))
        → (if b then Some p.1 else find x ps) ≡ Some m → (yields m.reads ≡ true) × (yields m.writes ≡ true)
    go true g ih e = (sym (ap (λ o. yields (on p.1 o (λ z. z)).reads) e) ∙ g.0, sym (ap (λ o. yields (on p.1 o (λ z. z)).writes) e) ∙ g.1)
    go false g ih e = ih e
