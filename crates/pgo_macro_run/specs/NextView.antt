-- What comes next in a statement.
use Rattle.std.specs.Prelude.{◌≡◌, ◌<◌, ◌+◌, ◌*◌, ℕ, Result, Ok, Err}
use Rattle.pgo_base.specs.Lookup.{Names}
use Rattle.pgo_base.specs.View.{data_of}
use Rattle.pgo_syntax.specs.Statement.{labeled}
use Rattle.pgo_syntax.specs.StatementSize.{height, labeled_height}
use Rattle.pgo_syntax.specs.StatementView.{statement}
use Rattle.pgo_resource.specs.declared.picks.Picks.{Picks}
use Rattle.pgo_resource.specs.declared.resource.OpStop.{OpStop}
use Rattle.pgo_macro_run.specs.AroundView.{FailsSo}
use Rattle.pgo_macro_run.specs.Given.{Given, Now, Answer, Goes, Yields}
use Rattle.pgo_macro_run.specs.Runs.{run, rows, jumps}
use Rattle.pgo_macro_run.specs.declared.next.Next.{Next}
use Rattle.pgo_macro_run.specs.declared.next.Next.TheVariants as nexts

-- x is what the rest is, with these names now; the rest nests less deep than h
abbrev pub NextSo : (h : ℕ) → Given → Answer → Names → Now → Picks → Result Next OpStop → Type 0
NextSo h g x env n q (Ok nexts.Goes) = x ≡ Goes n
NextSo h g x env n q (Ok (nexts.Yields v)) = x ≡ Yields (data_of v) n
NextSo h g x env n q (Ok (nexts.Inside t)) = (height (statement t.now) < h) × (x ≡ run g (statement t.now) env n)
NextSo h g x env n q (Ok (nexts.Looped t)) = (height (statement t.now) < h) × (x ≡ jumps (run g (statement t.now) env n))
NextSo h g x env n q (Ok (nexts.Rows b)) = (labeled_height (labeled b.now) < h) × (x ≡ rows g (labeled b.now) env n)
NextSo h g x env n q (Err e) = FailsSo x e q

abbrev pub rest_of : Given → Next → Names → Now → Answer
rest_of g nexts.Goes env n = Goes n
rest_of g (nexts.Yields v) env n = Yields (data_of v) n
rest_of g (nexts.Inside t) env n = run g (statement t.now) env n
rest_of g (nexts.Looped t) env n = jumps (run g (statement t.now) env n)
rest_of g (nexts.Rows b) env n = rows g (labeled b.now) env n

-- how much is left
abbrev pub weight : Next → ℕ
weight nexts.Goes = 0
weight (nexts.Yields v) = 0
weight (nexts.Inside t) = 3 * height (statement t.now) + 2
weight (nexts.Looped t) = 3 * height (statement t.now) + 2
weight (nexts.Rows b) = 3 * labeled_height (labeled b.now) + 3
