-- The bodies of a module's further definitions are well formed where what they are made of is.
use Rattle.std.proofs.Common.{◌≡◌, true, false, inl, inr, List, [], ◌∷◌, ◌++◌, map, refl, arith, codes}
use Rattle.std.specs.List.{AllByRecursion}
use Rattle.pgo_base.specs.declared.expr.Infix.TheVariants as infixs
use Rattle.pgo_base.specs.Lookup.{Name}
use Rattle.pgo_base.specs.Tree.{Tree, name, binary, trees}
use Rattle.pgo_model.specs.Module.{Module, WrittenProcess, joined_by, any_of, self_call, process_body, process_step, terminating_body, next_body}
use Rattle.pgo_model.specs.Written.{terminating}
use Rattle.pgo_expr_write.specs.WellFormed.{IsWellFormed, IsName, AreNames, AreSomeNames, AreAll}
use Rattle.pgo_module_spells.specs.Parts.{tuple_of}

-- ---- joined from the left

pub or_formed : (a : Tree) (bs : List Tree) → IsWellFormed a → AllByRecursion IsWellFormed bs → IsWellFormed (joined_by infixs.Or a bs)
or_formed a [] h k = h
or_formed a (b ∷ bs) h k = or_formed (binary infixs.Or a b) bs (h, inr k.0) k.1

-- the sides of a union that is well formed
pub union_parts_formed : (a b : Tree) → IsWellFormed (binary infixs.Union a b) → IsWellFormed a × IsWellFormed b
union_parts_formed a b h = elim h.1 [ inl e ↦ absurd (let z : false ≡ true = e in cc) | inr k ↦ (h.0, k) ]

pub union_formed : (a : Tree) (bs : List Tree) → IsWellFormed (joined_by infixs.Union a bs) → IsWellFormed a × AllByRecursion IsWellFormed bs
union_formed a [] h = (h, tt)
union_formed a (b ∷ bs) h =
    let k = union_formed (binary infixs.Union a b) bs h in
    let q = union_parts_formed a b k.0 in
    (q.0, (q.1, k.1))

-- ---- small trees

self_formed : IsName (codes "self")
self_formed = (refl, omega arith)

pub call_formed : (x : Name) → IsName x → IsWellFormed (self_call x)
call_formed x h = (h, (self_formed, tt))

all_calls : (as' : List (Name × Tree)) → AllByRecursion (λ a. IsName a.0) as' → AllByRecursion IsWellFormed (map (λ a. self_call a.0) as')
all_calls [] h = tt
all_calls (a ∷ as') h = (call_formed a.0 h.0, all_calls as' h.1)

pub body_formed : (p : WrittenProcess) → AllByRecursion (λ a. IsName a.0) p.actions → IsWellFormed (process_body p)
body_formed p h = go p.actions h
  where
    go : (as' : List (Name × Tree)) → AllByRecursion (λ a. IsName a.0) as' → IsWellFormed (any_of (map (λ a. self_call a.0) as'))
    go [] h = tt
    go (a ∷ as') h = or_formed (self_call a.0) (map (λ a. self_call a.0) as') (call_formed a.0 h.0) (all_calls as' h.1)

all_names : (xs : List Name) → AreNames xs → AreAll (trees (map name xs))
all_names [] h = tt
all_names (x ∷ xs) h = (h.0, all_names xs h.1)

some_are_names : (xs : List Name) → AreSomeNames xs → AreNames xs
some_are_names [] h = tt
some_are_names (x ∷ xs) h = h

pub tuple_formed : (xs : List Name) → AreSomeNames xs → IsWellFormed (tuple_of xs)
tuple_formed xs h = all_names xs (some_are_names xs h)

pub ending_formed : (m : Module) → AreSomeNames m.variables → IsWellFormed (terminating_body m)
ending_formed m h = ((((self_formed, tt), inr (refl, omega arith), tt), (((refl, omega arith), (self_formed, tt)), inr refl)), inr h)

step_formed : (p : WrittenProcess) → IsName p.name → IsWellFormed p.ids → IsWellFormed (process_step p)
step_formed p h k = (((self_formed, tt), inr k, tt), call_formed p.name h)

pub record IsFormedProcess (p : WrittenProcess) : Type 0 where
  pub name : IsName p.name
  pub ids : IsWellFormed p.ids

steps_formed : (ps : List WrittenProcess) → AllByRecursion IsFormedProcess ps → AllByRecursion IsWellFormed (map process_step ps ++ (name terminating ∷ []))
steps_formed [] h = ((refl, omega arith), tt)
steps_formed (p ∷ ps) h = (step_formed p h.0.name h.0.ids, steps_formed ps h.1)

pub next_formed : (m : Module) → AllByRecursion IsFormedProcess m.processes → IsWellFormed (next_body m)
next_formed m h = go m.processes h
  where
    go : (ps : List WrittenProcess) → AllByRecursion IsFormedProcess ps → IsWellFormed (any_of (map process_step ps ++ (name terminating ∷ [])))
    go [] h = (refl, omega arith)
    go (p ∷ ps) h = or_formed (process_step p) (map process_step ps ++ (name terminating ∷ [])) (step_formed p h.0.name h.0.ids) (steps_formed ps h.1)
