-- The walk over an expression, one level at a time: its operands rewritten in order, and what is made of them.
use Rattle.std.specs.Prelude.{ℕ, suc, List, [], ◌∷◌, ◌++◌, Option, Some, None}
use Rattle.pgo_base.specs.Lookup.{Name}
use Rattle.pgo_base.specs.Tree.{Tree, index, trees}
use Rattle.pgo_model.specs.Options.{on}
use Rattle.pgo_sections.specs.Access.{Mapped, MappedNames, Hoisted, pure, read_whole, read_element, index_tree, if_whole, name_alone, mapped_under, element_of}
use Rattle.pgo_rewrite.specs.Rewritten.{replacement, rewritten}
use Rattle.pgo_rewrite.specs.Rebuilt.{behind, rebuilt}

-- what is indexed
abbrev pub indexed : Tree → Option Tree
indexed (index f ts) = Some f
indexed _ = None

-- the mapped parameter whose element an expression itself reads
abbrev pub element_by : MappedNames → List Name → Tree → Option Mapped
element_by mapped under t = on None (indexed t) (element_of mapped under)

-- another expression, with these operands
abbrev pub form_rewritten : MappedNames → List Name → Tree → List Tree → ℕ → Hoisted Tree
form_rewritten mapped under t ps k =
    on (pure k (rebuilt t ps)) (element_by mapped under t) (λ m. read_element m (index_tree (trees (behind ps))) k)

module _ (stands : Name → Option Tree) (mapped : MappedNames) where
  -- operands, of which the first has the number i: around number i the names `around i` are bound
  abbrev pub parts : (ℕ → List Name) → ℕ → List Tree → ℕ → Hoisted (List Tree)
  parts around i [] k = pure k []
  parts around i (t ∷ ts) k =
      let p = rewritten stands mapped (around i) t k in
      let q = parts around (suc i) ts p.used in
      record { reads = p.reads ++ q.reads; rest = p.rest ∷ q.rest; used = q.used }

  -- a name
  abbrev pub name_rewritten : List Name → Name → ℕ → Hoisted Tree
  name_rewritten under x k = on (pure k (replacement stands under x)) (if_whole (mapped_under mapped under x)) (λ m. read_whole m k)

  abbrev pub finished : List Name → Tree → List Tree → ℕ → Hoisted Tree
  finished under t ps k = on (form_rewritten mapped under t ps k) (name_alone t) (λ x. name_rewritten under x k)
