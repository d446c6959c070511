-- Nodes that each expansion of some code has: those that are counted, and those of what follows once for each path that is counted.
use Rattle.std.proofs.Common.{◌≡◌, ◌≤◌, ℕ, suc, ◌+◌, true, List, [], ◌∷◌, Option, Some, None, arith}
use Rattle.pgo_base.specs.Lookup.{Name, find}
use Rattle.pgo_base.specs.Tree.{Tree, binary}
use Rattle.pgo_model.specs.Written.{made}
use Rattle.pgo_sections.specs.Access.{Mapped, MappedNames, MappedRead, read_first, after, evaluated, hoisted}
use Rattle.pgo_sections.specs.Code.{Place, Code, Skip, Let, Pick, Await, Assert, Print, If, Either, Seq, Read, Codes, no_codes, more_codes, at_base}
use Rattle.pgo_sections.specs.Expand.{Renames, Current, OnGo, OnJump, OnYield, expand, expand_arms}
use Rattle.pgo_sections.specs.Expansion.{Expansion, With, In, Skip as ESkip, Await as EAwait, Assert as EAssert, Print as EPrint, If as EIf, Either as EEither, End}
use Rattle.pgo_sections.specs.Nodes.{tree_nodes, nodes, arms_total}
use Rattle.pgo_put_sizes.specs.Least.{passes, yields}
use Rattle.pgo_put_sizes.proofs.EvaluatedLaws.{AllYield, reads_nodes, hoisted_kept}
use Rattle.pgo_put_sizes.proofs.LeastLaws.{passes_law, read_law}
use Rattle.pgo_put_sizes.proofs.Replaced.{some_nodes, current_nodes}
use Rattle.pgo_least_nodes.specs.Counts.{none, step, jump, both, then', some_of, said}
use Rattle.pgo_least_nodes.specs.declared.count.Count.{Count}
use Rattle.pgo_least_nodes.proofs.Numbers.{with_behind, then_count, both_count, step_then}

pub some_node : (x : Expansion) → 1 ≤ nodes x
some_node (With x e rest) = omega arith
some_node (In x e rest) = omega arith
some_node (ESkip rest) = omega arith
some_node (EAwait e rest) = omega arith
some_node (EAssert e rest) = omega arith
some_node (EPrint e rest) = omega arith
some_node (EIf e a b) = omega arith
some_node (EEither xs) = omega arith
some_node (End changes label) = omega arith

-- an expression has the nodes that are counted of it
some_law : (t : Tree) → some_of t ≤ tree_nodes t
some_law (binary o a b) = omega (arith, some_nodes a, some_nodes b)
some_law t = some_nodes t

-- whatever follows, and whatever stands before
abbrev pub Has : Count → Code → Type 0
Has w c = (m : ℕ) (ps : List (Name × Place)) (ren : Renames) (cur : Current) (n : ℕ) (k : OnGo) (j : OnJump) (y : OnYield)
    → ((cur' : Current) (n' : ℕ) → m ≤ nodes (k cur' n')) → with_behind w m ≤ nodes (expand ps c ren cur n k j y)

abbrev pub ArmsHave : Count → Codes → Type 0
ArmsHave w cs = (m : ℕ) (ps : List (Name × Place)) (ren : Renames) (cur : Current) (n : ℕ) (k : OnGo) (j : OnJump) (y : OnYield)
    → ((cur' : Current) (n' : ℕ) → m ≤ nodes (k cur' n')) → with_behind w m ≤ arms_total (expand_arms ps cs ren cur n k j y)

pub passes_has : (c : Code) → passes c ≡ true → Has (step 0) c
passes_has c p m ps ren cur n k j y h = omega (arith, passes_law c m ps ren cur n k j y p h)

pub jump_has : (c : Code) → Has jump c
jump_has c m ps ren cur n k j y h = omega (arith, some_node (expand ps c ren cur n k j y))

pub skip_has : Has (step 1) Skip
skip_has m ps ren cur n k j y h = omega (arith, h cur n)

pub then_has : (a b : Count) (c d : Code) → Has a c → Has b d → Has (then' a b) (Seq c d)
then_has a b c d f g m ps ren cur n k j y h =
    omega (
      arith,
      then_count a b m,
      f (with_behind b m) ps ren cur n (λ cur' n'. expand ps d ren cur' n' k j y) j y (λ cur' n'. g m ps ren cur' n' k j y h),
    )

-- n more
abbrev pub HasMore : ℕ → Count → Code → Type 0
HasMore r w c = (m : ℕ) (ps : List (Name × Place)) (ren : Renames) (cur : Current) (n : ℕ) (k : OnGo) (j : OnJump) (y : OnYield)
    → ((cur' : Current) (n' : ℕ) → m ≤ nodes (k cur' n')) → r + with_behind w m ≤ nodes (expand ps c ren cur n k j y)

-- a statement that evaluates an expression, and then this
pub let_has : (r : ℕ) (w : Count) (b x : Name) (e : Tree) (c : Code) → HasMore r w c → HasMore (suc (tree_nodes e) + r) w (Let b x e c)
let_has r w b x e c f m ps ren cur n k j y h = omega (arith, current_nodes ps ren cur e, f m ps ((x, made b (suc n)) ∷ ren) cur (suc n) k j y h)

pub pick_has : (r : ℕ) (w : Count) (b x : Name) (e : Tree) (c : Code) → HasMore r w c → HasMore (suc (tree_nodes e) + r) w (Pick b x e c)
pick_has r w b x e c f m ps ren cur n k j y h = omega (arith, current_nodes ps ren cur e, f m ps ((x, made b (suc n)) ∷ ren) cur (suc n) k j y h)

pub await_has : (e : Tree) → HasMore (suc (tree_nodes e)) (step 0) (Await e)
await_has e m ps ren cur n k j y h = omega (arith, current_nodes ps ren cur e, h cur n)

pub assert_has : (e : Tree) → HasMore (suc (tree_nodes e)) (step 0) (Assert e)
assert_has e m ps ren cur n k j y h = omega (arith, current_nodes ps ren cur e, h cur n)

pub print_has : (e : Tree) → HasMore (suc (tree_nodes e)) (step 0) (Print e)
print_has e m ps ren cur n k j y h = omega (arith, current_nodes ps ren cur e, h cur n)

pub if_has : (a b : Count) (e : Tree) (c d : Code) → Has a c → Has b d → HasMore (suc (tree_nodes e)) (both a b) (If e c d)
if_has a b e c d f g m ps ren cur n k j y h =
    omega (
      arith,
      both_count a b m,
      current_nodes ps ren cur e,
      f m ps ren cur n k j y h,
      g m ps ren cur n k j y h,
    )

pub let_keeps : (r : ℕ) (w : Count) (b x : Name) (e : Tree) (c : Code) → HasMore r w c → HasMore r w (Let b x e c)
let_keeps r w b x e c f m ps ren cur n k j y h = omega (arith, f m ps ((x, made b (suc n)) ∷ ren) cur (suc n) k j y h)

pub pick_keeps : (r : ℕ) (w : Count) (b x : Name) (e : Tree) (c : Code) → HasMore r w c → HasMore r w (Pick b x e c)
pick_keeps r w b x e c f m ps ren cur n k j y h = omega (arith, f m ps ((x, made b (suc n)) ∷ ren) cur (suc n) k j y h)

-- fewer, and none of them
pub fewer : (r q : ℕ) (w : Count) (c : Code) → q ≤ r → HasMore r w c → HasMore q w c
fewer r q w c l f m ps ren cur n k j y h = omega (arith, l, f m ps ren cur n k j y h)

pub no_more_of : (r : ℕ) (w : Count) (c : Code) → HasMore r w c → Has w c
no_more_of r w c f m ps ren cur n k j y h = omega (arith, f m ps ren cur n k j y h)

pub with_none : (w : Count) (c : Code) → Has w c → HasMore 0 w c
with_none w c f m ps ren cur n k j y h = omega (arith, f m ps ren cur n k j y h)

-- a statement with this expression, of which no node is lost, and then what follows
pub said_then : (e : Tree) (r : ℕ) (w : Count) (c : Code) → tree_nodes e ≤ r → HasMore (suc r) w c → Has (then' (said e) w) c
said_then e r w c l f m ps ren cur n k j y h = omega (arith, l, some_law e, step_then (suc (some_of e)) w m, f m ps ren cur n k j y h)

pub said_only : (e : Tree) (r : ℕ) (c : Code) → tree_nodes e ≤ r → HasMore (suc r) (step 0) c → Has (said e) c
said_only e r c l f m ps ren cur n k j y h = omega (arith, l, some_law e, f m ps ren cur n k j y h)

pub either_has : (w : Count) (cs : Codes) → ArmsHave w cs → Has (then' (step 1) w) (Either cs)
either_has w cs f m ps ren cur n k j y h = omega (arith, step_then 1 w m, f m ps ren cur n k j y h)

pub no_arms_have : ArmsHave none no_codes
no_arms_have m ps ren cur n k j y h = omega arith

pub more_arms_have : (a b : Count) (c : Code) (cs : Codes) → Has a c → ArmsHave b cs → ArmsHave (both a b) (more_codes c cs)
more_arms_have a b c cs f g m ps ren cur n k j y h =
    omega (arith, both_count a b m, f m ps ren cur n k j y h, g m ps ren cur n k j y h)

-- ---- reads before an expression

read_has : (r : ℕ) (w : Count) (x g : Name) (i : Option Name) (block c : Code) → yields block ≡ true → HasMore r w c → HasMore r w (Read x g i block c)
read_has r w x g i block c p f m ps ren cur n k j y h =
    read_law (r + with_behind w m) ps block x g i c ren cur n k j y p (λ ren' cur' n'. f m ps ren' cur' n' k j y h)

-- this read, with an index like this, before others
abbrev with_index : MappedRead → Option (Name × Tree) → List MappedRead → List MappedRead
with_index b o bs = record { mapped = b.mapped; index = o; value = b.value } ∷ bs

first_has : (r : ℕ) (w : Count) (b : MappedRead) (bs : List MappedRead) (o : Option (Name × Tree)) (c : Code) → yields b.mapped.reads ≡ true → HasMore (reads_nodes bs + r) w c
    → HasMore (reads_nodes (with_index b o bs) + r) w (read_first o (λ i. Read b.value b.mapped.global i b.mapped.reads c))
first_has r w b bs None c p f =
    fewer (reads_nodes bs + r) (0 + reads_nodes bs + r) w (Read b.value b.mapped.global None b.mapped.reads c) (omega arith)
    (read_has (reads_nodes bs + r) w b.value b.mapped.global None b.mapped.reads c p f)
first_has r w b bs (Some i) c p f =
    let q = Read b.value b.mapped.global (Some i.0) b.mapped.reads c in
    fewer (suc (tree_nodes i.1) + (reads_nodes bs + r)) (suc (tree_nodes i.1) + reads_nodes bs + r) w (Let at_base i.0 i.1 q) (omega arith)
    (let_has (reads_nodes bs + r) w at_base i.0 i.1 q (read_has (reads_nodes bs + r) w b.value b.mapped.global (Some i.0) b.mapped.reads c p f))

after_has : (r : ℕ) (w : Count) (rs : List MappedRead) (c : Code) → AllYield rs → HasMore r w c → HasMore (reads_nodes rs + r) w (after rs c)
after_has r w [] c p f = fewer r (0 + r) w c (omega arith) f
after_has r w (b ∷ bs) c p f = first_has r w b bs b.index (after bs c) p.0 (after_has r w bs c p.1 f)

-- what follows the reads of an expression has what it has
pub reads_keep : (mapped : MappedNames) → ((x : Name) (m : Mapped) → find x mapped ≡ Some m → yields m.reads ≡ true)
    → (r : ℕ) (w : Count) (e : Tree) (k : ℕ) (f : Tree → ℕ → Code) → ((e' : Tree) (k' : ℕ) → HasMore r w (f e' k')) → HasMore r w (evaluated mapped e k f)
reads_keep mapped ok r w e k f h =
    let p = hoisted mapped [] e k in
    fewer (reads_nodes p.reads + r) r w (after p.reads (f p.rest p.used)) (omega arith) (after_has r w p.reads (f p.rest p.used) (hoisted_kept mapped ok [] e k).yield (h p.rest p.used))

-- an expression has its nodes, and its reads lose nothing of what follows
pub evaluated_has : (mapped : MappedNames) → ((x : Name) (m : Mapped) → find x mapped ≡ Some m → yields m.reads ≡ true)
    → (w : Count) (e : Tree) (k : ℕ) (f : Tree → ℕ → Code) → ((e' : Tree) (k' : ℕ) → HasMore (suc (tree_nodes e')) w (f e' k')) → HasMore (suc (tree_nodes e)) w (evaluated mapped e k f)
evaluated_has mapped ok w e k f h =
    let p = hoisted mapped [] e k in
    let kept = hoisted_kept mapped ok [] e k in
    fewer (reads_nodes p.reads + suc (tree_nodes p.rest)) (suc (tree_nodes e)) w (after p.reads (f p.rest p.used)) (omega (arith, kept.count))
    (after_has (suc (tree_nodes p.rest)) w p.reads (f p.rest p.used) kept.yield (h p.rest p.used))
