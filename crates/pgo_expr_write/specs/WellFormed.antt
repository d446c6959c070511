-- Which trees have a text of their own. They are those that some text spells, but for their height.
use Rattle.std.specs.Prelude.{◌≡◌, ◌≤◌, ◌⊎◌, ℤ, pos, Bool, true, false, IsTrue, List, [], ◌∷◌, length}
use Rattle.pgo_base.specs.declared.expr.Infix.{Infix}
use Rattle.pgo_base.specs.declared.expr.Infix.TheVariants as op
use Rattle.pgo_base.specs.declared.expr.Word.{Word}
use Rattle.pgo_base.specs.declared.expr.Word.TheVariants as words
use Rattle.pgo_base.specs.Lookup.{Name}
use Rattle.pgo_base.specs.Tree.{Tree, name, primed, number, text, truth, at, word, unary, binary, product, cond_of, case_of, case_other, let_in, quantified, choose, tuple, set_of, filter_of, image, fun_of, fun_set, record_of, record_set, except, index, field, call, unchanged, Trees, no_trees, more_trees, NamedTrees, no_named, more_named, TreePairs, no_arms, more_arms, BoundTrees, no_bound, more_bound, PathTrees, no_paths, more_paths}
pub use Rattle.pgo_model.specs.BundleParts.{is_string_byte}
use Rattle.pgo_model.specs.ValueText.{is_identifier, most_name_bytes}
use Rattle.pgo_lexer.specs.Lexemes.{all_are, largest}

-- an identifier of at most 512 bytes
abbrev pub IsName : Name → Type 0
IsName x = IsTrue (is_identifier x) × (length x ≤ most_name_bytes)

abbrev pub AreNames : List Name → Type 0
AreNames [] = Unit {0}
AreNames (x ∷ xs) = IsName x × AreNames xs

-- one name or more
abbrev pub AreSomeNames : List Name → Type 0
AreSomeNames [] = ⊥
AreSomeNames (x ∷ xs) = IsName x × AreNames xs

-- no sign stands before a number: `-` is an operator
abbrev pub IsNumber : ℤ → Type 0
IsNumber (pos n) = n ≤ largest
IsNumber z = ⊥

abbrev pub is_boolean : Word → Bool
is_boolean words.BooleanSet = true
is_boolean w = false

abbrev pub is_word : Tree → Bool
is_word (word w) = true
is_word t = false

-- `\in` before BOOLEAN, `Nat`, `Int` or `STRING`
abbrev pub is_member_of_word : Infix → Tree → Bool
is_member_of_word op.In b = is_word b
is_member_of_word p b = false

abbrev mutual
  -- names, numbers and strings are those of texts, lists that can't be empty aren't, and `Nat`, `Int` and `STRING` stand at the right of `\in` alone
  pub IsWellFormed : Tree → Type 0
  IsWellFormed (name x) = IsName x
  IsWellFormed (primed x) = IsName x
  IsWellFormed (number z) = IsNumber z
  IsWellFormed (text s) = IsTrue (all_are is_string_byte s)
  IsWellFormed (truth b) = Unit {0}
  IsWellFormed at = Unit {0}
  IsWellFormed (word w) = is_boolean w ≡ true
  IsWellFormed (unary p a) = IsWellFormed a
  IsWellFormed (binary p a b) = IsWellFormed a × ((is_member_of_word p b ≡ true) ⊎ IsWellFormed b)
  IsWellFormed (product ts) = AreTwo ts
  IsWellFormed (cond_of p a b) = IsWellFormed p × IsWellFormed a × IsWellFormed b
  IsWellFormed (case_of gs) = AreArms gs
  IsWellFormed (case_other gs e) = AreArms gs × IsWellFormed e
  IsWellFormed (let_in ds e) = AreNamed ds × IsWellFormed e
  IsWellFormed (quantified q bs p) = AreBinders bs × IsWellFormed p
  IsWellFormed (choose x r p) = IsName x × ((is_word r ≡ true) ⊎ IsWellFormed r) × IsWellFormed p
  IsWellFormed (tuple ts) = AreAll ts
  IsWellFormed (set_of ts) = AreAll ts
  IsWellFormed (filter_of x r p) = IsName x × ((is_word r ≡ true) ⊎ IsWellFormed r) × IsWellFormed p
  IsWellFormed (image e x r) = IsWellFormed e × IsName x × ((is_word r ≡ true) ⊎ IsWellFormed r)
  IsWellFormed (fun_of bs e) = AreBinders bs × IsWellFormed e
  IsWellFormed (fun_set a b) = IsWellFormed a × IsWellFormed b
  IsWellFormed (record_of ds) = AreNamed ds
  IsWellFormed (record_set ds) = AreNamed ds
  IsWellFormed (except f us) = IsWellFormed f × AreUpdates us
  IsWellFormed (index f ts) = IsWellFormed f × AreSome ts
  IsWellFormed (field r x) = IsWellFormed r × IsName x
  IsWellFormed (call x ts) = IsName x × AreSome ts
  IsWellFormed (unchanged xs) = AreSomeNames xs

  pub AreAll : Trees → Type 0
  AreAll no_trees = Unit {0}
  AreAll (more_trees t ts) = IsWellFormed t × AreAll ts

  -- one or more
  pub AreSome : Trees → Type 0
  AreSome no_trees = ⊥
  AreSome (more_trees t ts) = IsWellFormed t × AreAll ts

  -- two or more
  pub AreTwo : Trees → Type 0
  AreTwo no_trees = ⊥
  AreTwo (more_trees t ts) = IsWellFormed t × AreSome ts

  pub AreAllNamed : NamedTrees → Type 0
  AreAllNamed no_named = Unit {0}
  AreAllNamed (more_named x t ts) = IsName x × IsWellFormed t × AreAllNamed ts

  -- one definition or field, or more
  pub AreNamed : NamedTrees → Type 0
  AreNamed no_named = ⊥
  AreNamed (more_named x t ts) = IsName x × IsWellFormed t × AreAllNamed ts

  pub AreAllArms : TreePairs → Type 0
  AreAllArms no_arms = Unit {0}
  AreAllArms (more_arms g e gs) = IsWellFormed g × IsWellFormed e × AreAllArms gs

  -- one or more
  pub AreArms : TreePairs → Type 0
  AreArms no_arms = ⊥
  AreArms (more_arms g e gs) = IsWellFormed g × IsWellFormed e × AreAllArms gs

  pub AreAllBinders : BoundTrees → Type 0
  AreAllBinders no_bound = Unit {0}
  AreAllBinders (more_bound xs r bs) = AreSomeNames xs × ((is_word r ≡ true) ⊎ IsWellFormed r) × AreAllBinders bs

  -- one or more
  pub AreBinders : BoundTrees → Type 0
  AreBinders no_bound = ⊥
  AreBinders (more_bound xs r bs) = AreSomeNames xs × ((is_word r ≡ true) ⊎ IsWellFormed r) × AreAllBinders bs

  pub AreAllUpdates : PathTrees → Type 0
  AreAllUpdates no_paths = Unit {0}
  AreAllUpdates (more_paths ps e us) = AreSome ps × IsWellFormed e × AreAllUpdates us

  -- one or more
  pub AreUpdates : PathTrees → Type 0
  AreUpdates no_paths = ⊥
  AreUpdates (more_paths ps e us) = AreSome ps × IsWellFormed e × AreAllUpdates us
