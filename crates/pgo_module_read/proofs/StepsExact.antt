-- The steps of Next, and the sets of ProcSet.
use Rattle.std.proofs.Common.{◌≡◌, true, false, inl, inr, List, [], ◌∷◌, ◌++◌, map, Option, Some, None, refl, ap, sym, ◌∙◌, subst}
use Rattle.std.specs.List.{AllByRecursion}
use Rattle.std.proofs.lemmas.List.{append_assoc, append-nil, map-append}
use Rattle.pgo_base.specs.declared.expr.Infix.{Infix}
use Rattle.pgo_base.specs.declared.expr.Infix.TheVariants as infixs
use Rattle.pgo_base.specs.Lookup.{Name}
use Rattle.pgo_base.specs.Tree.{Tree, binary, quantified, call}
use Rattle.pgo_model.specs.Module.{WrittenProcess, joined_by, process_step}
use Rattle.pgo_mpcal_read.specs.ReadingSpec.{if_some}
use Rattle.pgo_expr_write.specs.WellFormed.{IsWellFormed, IsName}
use Rattle.pgo_module_read.specs.declared.steps.Step.{Step}
use Rattle.pgo_module_read.specs.Building.{or_of, or_parts, union_of, union_parts, called, process_called, step, steps_before}

pub some_then : {A B : Type 0} (o : Option A) (f : A → Option B) (b : B) (C : Type 0) → if_some o f ≡ Some b → ((a : A) → o ≡ Some a → f a ≡ Some b → C) → C
some_then (Some a) f b C e k = k a refl e
some_then None f b C e k = cc

pair_is : {A B : Type 0} (a c : A) (b d : B) → ◌≡◌ {A = Option (A × B)} (Some (a, b)) (Some (c, d)) → (a ≡ c) × (b ≡ d)
pair_is {A} {B} a c b d e = let q : ◌≡◌ {A = A × B} (a, b) (c, d) = cc in (ap (λ (p : A × B). p.0) q, ap (λ (p : A × B). p.1) q)

-- ---- the sides of a tree

or_of_is : (o : Infix) (a b c d : Tree) → or_of o a b ≡ Some (c, d) → binary o a b ≡ binary infixs.Or c d
or_of_is infixs.Or a b c d e = let q = pair_is a c b d e in λ i. binary infixs.Or (q.0 i) (q.1 i)
or_of_is _ a b c d e = cc

pub or_parts_is : (t c d : Tree) → or_parts t ≡ Some (c, d) → t ≡ binary infixs.Or c d
or_parts_is (binary o a b) c d e = or_of_is o a b c d e
or_parts_is _ c d e = cc

union_of_is : (o : Infix) (a b c d : Tree) → union_of o a b ≡ Some (c, d) → binary o a b ≡ binary infixs.Union c d
union_of_is infixs.Union a b c d e = let q = pair_is a c b d e in λ i. binary infixs.Union (q.0 i) (q.1 i)
union_of_is _ a b c d e = cc

union_parts_is : (t c d : Tree) → union_parts t ≡ Some (c, d) → t ≡ binary infixs.Union c d
union_parts_is (binary o a b) c d e = union_of_is o a b c d e
union_parts_is _ c d e = cc

-- ---- the steps of a loop

pub steps_or : (t s c d : Tree) (behind : List Step) → or_parts t ≡ Some (c, d) → steps_before t s behind ≡ if_some (union_parts s) (λ p. if_some (step d p.1) (λ x. steps_before c p.0 (x ∷ behind)))
unfolding steps_before
steps_or t s c d behind e = ap (λ z. steps_before z s behind) (or_parts_is t c d e)

last_infix : (o : Infix) (a b s : Tree) (behind : List Step) → or_of o a b ≡ None → steps_before (binary o a b) s behind ≡ if_some (step (binary o a b) s) (λ x. Some (x ∷ behind))
unfolding steps_before
last_infix infixs.Or a b s behind e = cc
last_infix _ a b s behind e = refl

pub steps_last : (t s : Tree) (behind : List Step) → or_parts t ≡ None → steps_before t s behind ≡ if_some (step t s) (λ x. Some (x ∷ behind))
unfolding steps_before
steps_last (binary o a b) s behind e = last_infix o a b s behind e
steps_last _ s behind e = refl

-- ---- what is found is so

pub joined_more : (o : Infix) (a : Tree) (bs : List Tree) (b : Tree) → joined_by o a (bs ++ b ∷ []) ≡ binary o (joined_by o a bs) b
joined_more o a [] b = refl
joined_more o a (x ∷ bs) b = joined_more o (binary o a x) bs b

-- the processes that were found, their sets, and their names
pub record StepsFound (t s : Tree) (behind ss : List Step) : Type 0 where
  pub first : Step
  pub others : List Step
  pub is : ss ≡ (first ∷ others) ++ behind
  pub sets : s ≡ joined_by infixs.Union first.ids (map (λ x. x.ids) others)
  pub named : IsWellFormed t → AllByRecursion (λ x. IsName x.name) (first ∷ others)

called_named : (p : Tree) (x : Name) → called p ≡ Some x → IsWellFormed p → IsName x
called_named (call y ts) x e h = let q : y ≡ x = cc in subst IsName q h.0
called_named _ x e h = cc

step_named : (t : Tree) (x : Name) → process_called t ≡ Some x → IsWellFormed t → IsName x
step_named (quantified q bs p) x e h = called_named p x e h.1
step_named _ x e h = cc

record StepFound (t s : Tree) (x : Step) : Type 0 where
  sets : x.ids ≡ s
  named : IsWellFormed t → IsName x.name

step_found : (t s : Tree) (x : Step) → step t s ≡ Some x → StepFound t s x
step_found t s x e = some_then (process_called t) (λ n. Some (record { name = n; ids = s })) x (StepFound t s x) e (λ n got e.
    let same : ◌≡◌ {A = Step} (record { name = n; ids = s }) x = cc in
    record { sets = ap (λ z. z.ids) (sym same); named = λ h. subst IsName (ap (λ z. z.name) same) (step_named t n got h) })

last_found : (t s : Tree) (behind ss : List Step) → if_some (step t s) (λ x. Some (x ∷ behind)) ≡ Some ss → StepsFound t s behind ss
last_found t s behind ss e = some_then (step t s) (λ x. Some (x ∷ behind)) ss (StepsFound t s behind ss) e (λ x got e.
    let f = step_found t s x got in
    let same : x ∷ behind ≡ ss = cc in
    record { first = x; others = []; is = sym same; sets = sym f.sets; named = λ h. (f.named h, tt) })

all_more : {A : Type 0} (P : A → Type 0) (xs : List A) (x : A) → AllByRecursion P xs → P x → AllByRecursion P (xs ++ x ∷ [])
all_more P [] x h k = (k, tt)
all_more P (y ∷ xs) x h k = (h.0, all_more P xs x h.1 k)

or_both : (a b : Tree) → IsWellFormed (binary infixs.Or a b) → IsWellFormed a × IsWellFormed b
or_both a b h = elim h.1 [ inl e ↦ absurd (let z : false ≡ true = e in cc) | inr k ↦ (h.0, k) ]

more_found : (a b s c d : Tree) (x : Step) (behind ss : List Step) → s ≡ binary infixs.Union c d → StepFound b d x → StepsFound a c (x ∷ behind) ss → StepsFound (binary infixs.Or a b) s behind ss
more_found a b s c d x behind ss split f r = record {
  first = r.first;
  others = r.others ++ x ∷ [];
  is = r.is ∙ sym (append_assoc (r.first ∷ r.others) (x ∷ []) behind);
  sets = split ∙ (λ i. binary infixs.Union (r.sets i) (sym f.sets i)) ∙ sym (joined_more infixs.Union r.first.ids (map (λ x. x.ids) r.others) x.ids)
      ∙ ap (joined_by infixs.Union r.first.ids) (sym (map-append (λ x. x.ids) r.others (x ∷ [])));
  named = λ h. let q = or_both a b h in all_more (λ x. IsName x.name) (r.first ∷ r.others) x (r.named q.0) (f.named q.1);
}

infix_found : (o : Infix) (a b s : Tree) (behind ss : List Step) → ((c d : Tree) (x : Step) → steps_before a c (x ∷ behind) ≡ Some ss → StepsFound a c (x ∷ behind) ss) → steps_before (binary o a b) s behind ≡ Some ss → StepsFound (binary o a b) s behind ss
unfolding steps_before
infix_found infixs.Or a b s behind ss ih e =
    some_then (union_parts s) _ ss (StepsFound (binary infixs.Or a b) s behind ss) e (λ p is e.
    some_then (step b p.1) _ ss (StepsFound (binary infixs.Or a b) s behind ss) e (λ x got e.
    more_found a b s p.0 p.1 x behind ss (union_parts_is s p.0 p.1 is) (step_found b p.1 x got) (ih p.0 p.1 x e)))
infix_found o a b s behind ss ih e = last_found (binary o a b) s behind ss e

pub steps_found : (t s : Tree) (behind ss : List Step) → steps_before t s behind ≡ Some ss → StepsFound t s behind ss
unfolding steps_before
steps_found (binary o a b) s behind ss e = infix_found o a b s behind ss (λ c d x e. steps_found a c (x ∷ behind) ss e) e
steps_found t s behind ss e = last_found t s behind ss e

-- ---- what is so is found

-- a list by its last item
data View {A : Type 0} : List A → Type 0 where
  empty : View []
  snoc : {xs : List A} (x : A) → View xs → View (xs ++ x ∷ [])

view_from : {A : Type 0} (xs ys : List A) → View xs → View (xs ++ ys)
view_from {A} xs [] v = subst (View {A = A}) (sym (append-nil xs)) v
view_from {A} xs (y ∷ ys) v = subst (View {A = A}) (append_assoc xs (y ∷ []) ys) (view_from (xs ++ y ∷ []) ys (snoc y v))

abbrev pub step_of : WrittenProcess → Step
step_of p = record { name = p.name; ids = p.ids }

given_by : (p : WrittenProcess) (ps : List WrittenProcess) → View ps → (behind : List Step)
    → steps_before (joined_by infixs.Or (process_step p) (map process_step ps)) (joined_by infixs.Union p.ids (map (λ q. q.ids) ps)) behind ≡ Some ((step_of p ∷ map step_of ps) ++ behind)
unfolding steps_before
given_by p ps empty behind = refl
given_by p all (snoc {xs = ps} q v) behind =
    let E : Tree → Tree → Option (List Step) = λ t s. steps_before t s behind in
    (λ i. E (joined_by infixs.Or (process_step p) (map-append process_step ps (q ∷ []) i)) (joined_by infixs.Union p.ids (map-append (λ q. q.ids) ps (q ∷ []) i)))
    ∙ (λ i. E (joined_more infixs.Or (process_step p) (map process_step ps) (process_step q) i) (joined_more infixs.Union p.ids (map (λ q. q.ids) ps) q.ids i))
    ∙ given_by p ps v (step_of q ∷ behind)
    ∙ ap Some (sym (append_assoc (step_of p ∷ map step_of ps) (step_of q ∷ []) behind) ∙ ap (λ z. (step_of p ∷ z) ++ behind) (sym (map-append step_of ps (q ∷ []))))

pub steps_given : (p : WrittenProcess) (ps : List WrittenProcess) → steps_before (joined_by infixs.Or (process_step p) (map process_step ps)) (joined_by infixs.Union p.ids (map (λ q. q.ids) ps)) [] ≡ Some (map step_of (p ∷ ps))
steps_given p ps = given_by p ps (view_from [] ps empty) [] ∙ ap Some (append-nil (map step_of (p ∷ ps)))
