-- The names that an expression binds, and which of them are bound around each of its operands.
use Rattle.std.specs.Prelude.{ℕ, zero, suc, nat_lt, if◌then◌else◌, List, length, take}
use Rattle.pgo_base.specs.Lookup.{Name}
pub use Rattle.pgo_base.specs.BoundNames.{bound_by as names_by}
use Rattle.pgo_base.specs.Tree.{Tree, let_in, quantified, choose, filter_of, image, fun_of, BoundTrees, no_bound, more_bound}
use Rattle.pgo_sections.specs.Bound.{below}

abbrev pub count_bound : BoundTrees → ℕ
count_bound no_bound = 0
count_bound (more_bound xs r bs) = suc (count_bound bs)

-- n at the first operand, and none behind it
abbrev pub at_first : ℕ → ℕ → ℕ
at_first n zero = n
at_first n (suc i) = 0

-- none at the first m operands, and n behind them
abbrev pub at_body : ℕ → ℕ → ℕ → ℕ
at_body m n i = if nat_lt i m then 0 else n

-- how many of the n names of an expression are bound around its operand i, from 0
abbrev pub count_at : Tree → ℕ → ℕ → ℕ
count_at (let_in ds e) n i = i
count_at (quantified q bs p) n i = at_body (count_bound bs) n i
count_at (choose x r p) n i = i
count_at (filter_of x r p) n i = i
count_at (image e x r) n i = at_first n i
count_at (fun_of bs e) n i = at_body (count_bound bs) n i
count_at _ n i = 0

-- the names that are bound around operand i, where the expression binds the names ns
abbrev pub under_at : Tree → List Name → List Name → ℕ → List Name
under_at t ns under i = below (take (count_at t (length ns) i) ns) under
