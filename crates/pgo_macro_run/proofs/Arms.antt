-- Parts of lists in memory by their places: arms, rows of a block, members.
use Rattle.std.proofs.Common.{◌≡◌, ℕ, zero, suc, ◌<◌, List, [], ◌∷◌, map, length, get_or, refl, ap, sym, ◌∙◌, subst, arith}
use Rattle.pgo_base.specs.Data.{Data}
use Rattle.pgo_base.specs.Lookup.{Names}
use Rattle.pgo_base.specs.View.{data_of}
use Rattle.pgo_base.specs.declared.value.Value.{Value}
use Rattle.pgo_model.specs.Choice.{pick}
use Rattle.pgo_model.specs.System.{Words}
use Rattle.pgo_sections.specs.SectionRun.{choice_among}
use Rattle.pgo_syntax.specs.Statement.{statements, labeled}
use Rattle.pgo_syntax.specs.StatementSize.{height, statements_height, labeled_height}
use Rattle.pgo_syntax.specs.StatementView.{statement, labeled_pair}
use Rattle.pgo_syntax.specs.declared.statement.Labeled.{Labeled}
use Rattle.pgo_syntax.specs.declared.statement.Stmt.{Stmt}
use Rattle.pgo_macro_run.specs.Given.{Given, Now, Yields, choose, next_pick, drawn}
use Rattle.pgo_macro_run.specs.Runs.{run, arm, count}

pub count_map : (ts : List Stmt) → count (statements (map statement ts)) ≡ length ts
count_map [] = refl
count_map (t ∷ ts) = ap suc (count_map ts)

pub arm_at : (g : Given) (ts : List Stmt) (i : ℕ) (x : Stmt) → i < length ts → x ≡ get_or ts i x → (env : Names) (n : Now)
    → arm g (statements (map statement ts)) i env n ≡ run g (statement x) env n
arm_at g [] i x h e env n = absurd (omega arith)
arm_at g (t ∷ ts) zero x h e env n = ap (λ z. run g (statement z) env n) (sym e)
arm_at g (t ∷ ts) (suc i) x h e env n = arm_at g ts i x (omega arith) e env n

pub low_arm : (ts : List Stmt) (i : ℕ) (x : Stmt) → i < length ts → x ≡ get_or ts i x → height (statement x) < suc (statements_height (statements (map statement ts)))
low_arm [] i x h e = absurd (omega arith)
low_arm (t ∷ ts) zero x h e = subst (λ z. height (statement z) < suc (statements_height (statements (map statement (t ∷ ts))))) (sym e) (omega arith)
low_arm (t ∷ ts) (suc i) x h e = omega (arith, low_arm ts i x (omega arith) e)

pub low_row : (rows : List Labeled) (i : ℕ) (x : Labeled) → i < length rows → x ≡ get_or rows i x → height (statement x.statement) < suc (labeled_height (labeled (map labeled_pair rows)))
low_row [] i x h e = absurd (omega arith)
low_row (t ∷ ts) zero x h e = subst (λ z. height (statement z.statement) < suc (labeled_height (labeled (map labeled_pair (t ∷ ts))))) (sym e) (omega arith)
low_row (t ∷ ts) (suc i) x h e = omega (arith, low_row ts i x (omega arith) e)

get_map : (xs : List Value) (i : ℕ) (x : Value) (b : Data) → i < length xs → x ≡ get_or xs i x → get_or (map data_of xs) i b ≡ data_of x
get_map [] i x b h e = absurd (omega arith)
get_map (y ∷ xs) zero x b h e = ap data_of (sym e)
get_map (y ∷ xs) (suc i) x b h e = get_map xs i x b (omega arith) e

map_length : (xs : List Value) → length (map data_of xs) ≡ length xs
map_length [] = refl
map_length (x ∷ xs) = ap suc (map_length xs)

pub chosen_member : (d : Words) (ms : List Value) (i : ℕ) (x : Value) (n : Now) → i < length ms → x ≡ get_or ms i x → i ≡ next_pick d n (length ms)
    → choose d (map data_of ms) n ≡ Yields (data_of x) (drawn (length ms) i n)
chosen_member d [] i x n h e f = absurd (omega arith)
chosen_member d (m ∷ ms) i x n h e f =
    let many = length (m ∷ ms) in
    ap (λ l. let j = next_pick d n l in Yields (get_or (map data_of (m ∷ ms)) j (data_of m)) (drawn l j n)) (map_length (m ∷ ms))
    ∙ ap (λ j. Yields (get_or (map data_of (m ∷ ms)) j (data_of m)) (drawn many j n)) (sym f)
    ∙ ap (λ v. Yields v (drawn many i n)) (get_map (m ∷ ms) i x (data_of m) h e)

-- of some it is the number and how many there are
pub counted : (many i : ℕ) → 0 < many → choice_among many i ≡ record { count = many; taken = i }
counted zero i h = absurd (omega (arith, h))
counted (suc many) i h = refl

pub none_else : (w : ℕ) → pick w 1 ≡ 0
none_else w = omega arith
