-- The action of a label is well formed, where its expansion is.
use Rattle.std.proofs.Common.{Bool, true, false, inr, if◌then◌else◌, List, [], ◌∷◌, codes, Option, Some, None, refl, arith}
use Rattle.std.specs.List.{AllByRecursion}
use Rattle.pgo_base.specs.declared.expr.Infix.{Infix}
use Rattle.pgo_base.specs.declared.expr.Infix.TheVariants as infixs
use Rattle.pgo_base.specs.Lookup.{Name, same_name, find}
use Rattle.pgo_base.specs.Tree.{Tree, name, primed, text, binary}
use Rattle.pgo_model.specs.Module.{joined_by, all_of, any_of, union_of, stands_at}
use Rattle.pgo_model.specs.Sequences.{assert_name}
use Rattle.pgo_model.specs.Written.{pc}
use Rattle.pgo_expr_write.specs.WellFormed.{IsWellFormed, IsName, AreNames}
use Rattle.pgo_model.specs.Names.{is_among}
use Rattle.pgo_sections.specs.Expansion.{Expansion, With, In, Skip, Await, Assert, Print, If, Either, End, Expansions, no_expansions, more_expansions}
use Rattle.pgo_translate.specs.Items.{equals, at_self, items, arm_trees, assigned_to, assigned, assignments, stays, staying, unless_none, action_body}
use Rattle.pgo_agrees.proofs.EachToken.{all_joined}
use Rattle.pgo_written.specs.FormedCode.{IsText, ExpansionFormed, ExpansionsFormed}
use Rattle.pgo_written.proofs.FormedExpansion.{StandForNames, IfName, found}
use Rattle.pgo_written.proofs.WrittenNames.{self_is_name}

-- ---- joined

abbrev pub AllWell : List Tree → Type 0
AllWell ts = AllByRecursion IsWellFormed ts

joined_well : (o : Infix) (a : Tree) (ts : List Tree) → IsWellFormed a → AllWell ts → IsWellFormed (joined_by o a ts)
joined_well o a [] h g = h
joined_well o a (b ∷ bs) h g = joined_well o (binary o a b) bs (h, inr g.0) g.1

pub all_well : (ts : List Tree) → AllWell ts → IsWellFormed (all_of ts)
all_well [] h = tt
all_well (t ∷ ts) h = joined_well infixs.And t ts h.0 h.1

pub any_well : (ts : List Tree) → AllWell ts → IsWellFormed (any_of ts)
any_well [] h = tt
any_well (t ∷ ts) h = joined_well infixs.Or t ts h.0 h.1

pub union_well : (ts : List Tree) → AllWell ts → IsWellFormed (union_of ts)
union_well [] h = tt
union_well (t ∷ ts) h = joined_well infixs.Union t ts h.0 h.1

-- ---- fixed names

pub pc_is_name : IsName pc
pc_is_name = (refl, omega arith)

assert_is_name : IsName assert_name
assert_is_name = (refl, omega arith)

print_is_name : IsName (codes "PrintT")
print_is_name = (refl, omega arith)

pub stands_well : (l : Name) → IsText l → IsWellFormed (stands_at l)
stands_well l h = ((pc_is_name, (self_is_name, tt)), inr h)

-- ---- the end of a section

module _ (vars globals : List Name) where
  at_self_well : (x : Name) (e : Tree) → IsName x → IsWellFormed e → IsWellFormed (at_self x e)
  at_self_well x e h g = (h, ((self_is_name, tt), g, tt))

  assigned_to_well : (x : Name) (o : Option Name) → IsName x → IfName o → AllWell (assigned_to vars globals x o)
  assigned_to_well x None h g = tt
  assigned_to_well x (Some y) h g = ((h, inr (value (is_among x globals))), tt)
    where
      value : (b : Bool) → IsWellFormed (if b then name y else at_self x (name y))
      value true = g
      value false = at_self_well x (name y) h g

  assigned_well : (changes : List (Name × Name)) (l x : Name) → StandForNames changes → IsText l → IsName x → AllWell (assigned vars globals changes l x)
  assigned_well changes l x c t h = go (same_name x pc)
    where
      go : (b : Bool) → AllWell (if b then equals (primed pc) (at_self pc (text l)) ∷ [] else assigned_to vars globals x (find x changes))
      go true = ((pc_is_name, inr (at_self_well pc (text l) pc_is_name t)), tt)
      go false = assigned_to_well x (find x changes) h (found x changes c)

  assignments_well : (changes : List (Name × Name)) (l : Name) (xs : List Name) → StandForNames changes → IsText l → AreNames xs → AllWell (assignments vars globals changes l xs)
  assignments_well changes l [] c t h = tt
  assignments_well changes l (x ∷ xs) c t h =
      all_joined IsWellFormed (assigned vars globals changes l x) (assignments vars globals changes l xs) (assigned_well changes l x c t h.0) (assignments_well changes l xs c t h.1)

  staying_names : (changes : List (Name × Name)) (xs : List Name) → AreNames xs → AreNames (staying vars globals changes xs)
  staying_names changes [] h = tt
  staying_names changes (x ∷ xs) h = go (stays vars globals changes x) (staying_names changes xs h.1)
    where
      go : (b : Bool) → AreNames (staying vars globals changes xs) → AreNames (if b then x ∷ staying vars globals changes xs else staying vars globals changes xs)
      go true k = (h.0, k)
      go false k = k

  unchanged_well : (xs : List Name) → AreNames xs → AllWell (unless_none vars globals xs)
  unchanged_well [] h = tt
  unchanged_well (x ∷ xs) h = (h, tt)

  -- ---- items

  module _ (names : AreNames vars) where
    mutual
      items_well : (x : Expansion) → ExpansionFormed x → AllWell (items vars globals x)
      items_well (With x e rest) h = ((((h.0, tt), inr (h.1, tt), tt), all_well (items vars globals rest) (items_well rest h.2)), tt)
      items_well (In x e rest) h = ((((h.0, tt), h.1, tt), all_well (items vars globals rest) (items_well rest h.2)), tt)
      items_well (Skip rest) h = items_well rest h
      items_well (Await e rest) h = (h.0, items_well rest h.1)
      items_well (Assert e rest) h = ((assert_is_name, (h.0, (refl, tt))), items_well rest h.1)
      items_well (Print e rest) h = ((print_is_name, (h.0, tt)), items_well rest h.1)
      items_well (If e a b) h = ((h.0, all_well (items vars globals a) (items_well a h.1), all_well (items vars globals b) (items_well b h.2)), tt)
      items_well (Either arms) h = (any_well (arm_trees vars globals arms) (arms_well arms h), tt)
      items_well (End changes l) h =
          all_joined IsWellFormed (assignments vars globals changes l vars) (unless_none vars globals (staying vars globals changes vars)) (assignments_well changes l vars h.0 h.1 names) (unchanged_well (staying vars globals changes vars) (staying_names changes vars names))

      arms_well : (xs : Expansions) → ExpansionsFormed xs → AllWell (arm_trees vars globals xs)
      arms_well no_expansions h = tt
      arms_well (more_expansions a rest) h = (all_well (items vars globals a) (items_well a h.0), arms_well rest h.1)

    pub action_well : (l : Name) (x : Expansion) → IsText l → ExpansionFormed x → IsWellFormed (action_body vars globals l x)
    action_well l x t h = all_well (stands_at l ∷ items vars globals x) (stands_well l t, items_well x h)
