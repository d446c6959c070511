-- A section prints no more values than its expansion has nodes.
use Rattle.std.proofs.Common.{◌≡◌, ◌≤◌, ◌+◌, ◌-◌, ℕ, zero, suc, Bool, true, false, List, [], ◌∷◌, length, get_or, Option, Some, None, refl, ap, subst, arith, length-append, option_and_then}
use Rattle.std.specs.Prelude.{if◌then◌else◌}
use Rattle.pgo_base.specs.Data.{Data}
use Rattle.pgo_base.specs.Lookup.{Name, Names, Vars, find}
use Rattle.pgo_base.specs.Tree.{Tree, name}
use Rattle.pgo_model.specs.Operators.{members_of, truth_of}
use Rattle.pgo_model.specs.Options.{on}
use Rattle.pgo_model.specs.Outcome.{Blocked, NoValue, AssertFails, Next, Stuck}
use Rattle.pgo_model.specs.State.{is_shallow}
use Rattle.pgo_model.specs.System.{Words}
use Rattle.pgo_model.specs.Val.{Meaning}
use Rattle.pgo_model.specs.Written.{made}
use Rattle.pgo_sections.specs.Code.{Place, Whole, variable_of, Code, Empty, Skip, Let, Pick, Become, Set, Await, Assert, Print, If, Either, Seq, Goto, Yield, Read, Write, Codes, no_codes, more_codes, content_name, content_places, value_name, old_base, val_base, new_base}
use Rattle.pgo_sections.specs.Context.{Context, block_context, content, content_state, index_value, is_assigned, put_content, put_new, value_of}
use Rattle.pgo_sections.specs.BoundValues.{bindable, value_under}
use Rattle.pgo_sections.specs.Exec.{MacroEnd, Gives, Stops, read_end, write_end, with_choices, if_gives, touching, read_unmapped, becoming, count, Reads, Writes, exec_with, exec_arm_with}
use Rattle.pgo_sections.specs.Expand as expands
use Rattle.pgo_sections.specs.Expand.{Renames, Current, current, content_now, current_tree, value_handed, OnGo, OnJump, OnYield, no_go, no_jump, no_yield, put_back, left_behind, expand, expand_arms, to_end, expansion}
use Rattle.pgo_sections.specs.Expansion.{With}
use Rattle.pgo_sections.specs.Macros.{no_reads, no_writes, exec_block, block_read, block_write, exec}
use Rattle.pgo_sections.specs.Nodes.{nodes, arms_total}
use Rattle.pgo_sections.specs.Section.{closed, end_of, if_shallow, section}
use Rattle.pgo_sections.specs.SectionRun.{ChoiceMade, SectionRun, begun, printed, picked_number, chosen, Out, Go, Jump, Yielded, Stop, with_value, if_true, picked, go_on}

-- What was printed along code that ended so, with so many values printed before it and an expansion of x nodes: what follows the code has
-- at least g nodes where it goes on, l at a label, and v where the block ends with a value.
abbrev Fits : (before x g l v : ℕ) → Out → Type 0
Fits before x g l v (Go run) = length run.prints + g ≤ before + x
Fits before x g l v (Jump label run) = length run.prints + l ≤ before + x
Fits before x g l v (Yielded d run) = length run.prints + v ≤ before + x
Fits before x g l v (Stop kind run) = Unit {0}

-- each way on has at least so many nodes
record Behind (k : OnGo) (j : OnJump) (y : OnYield) (g l v : ℕ) : Type 0 where
  go : (cur : Current) (n : ℕ) → g ≤ nodes (k cur n)
  jump : (label : Name) (cur : Current) (n : ℕ) → l ≤ nodes (j label cur n)
  yields : (e : Tree) (cur : Current) (n : ℕ) → v ≤ nodes (y e cur n)

-- ---- how code ends

module _ (before g l v : ℕ) where
  wider : (o : Out) (x z : ℕ) → x ≤ z → Fits before x g l v o → Fits before z g l v o
  wider (Go run) x z le h = omega (arith, le, h)
  wider (Jump label run) x z le h = omega (arith, le, h)
  wider (Yielded d run) x z le h = omega (arith, le, h)
  wider (Stop kind run) x z le h = tt

  module _ (x : ℕ) where
    value_fits : {A : Type 0} (o : Option A) (run : SectionRun) (f : A → Out) → ((a : A) → Fits before x g l v (f a)) → Fits before x g l v (with_value o run f)
    value_fits None run f h = tt
    value_fits (Some a) run f h = h a

    picked_fits : (ms : List Data) (d : Words) (run : SectionRun) (f : Data → SectionRun → Out) → ((m : Data) (n i : ℕ) → Fits before x g l v (f m (chosen n i run))) → Fits before x g l v (picked ms d run f)
    picked_fits [] d run f h = tt
    picked_fits (m ∷ ms) d run f h = let n = length (m ∷ ms) in h (get_or (m ∷ ms) (picked_number d run n) m) n (picked_number d run n)

    true_fits : (o : Option Bool) (run : SectionRun) (a b : Out) → Fits before x g l v a → Fits before x g l v b → Fits before x g l v (if_true o run a b)
    true_fits (Some true) run a b h i = h
    true_fits (Some false) run a b h i = i
    true_fits None run a b h i = tt

    gives_fits : {A : Type 0} (m : MacroEnd A) (run : SectionRun) (f : A → SectionRun → Out) → ((a : A) (cs : List ChoiceMade) → m ≡ Gives a cs → Fits before x g l v (f a (with_choices cs run))) → Fits before x g l v (if_gives m run f)
    gives_fits (Gives a cs) run f h = h a cs refl
    gives_fits (Stops kind cs) run f h = tt

    -- behind m printed values the code goes on in one of many ways, each of which is counted
    passes : {I : Type 0} (inner : I → ℕ) (m : ℕ) (o : Out) → ((q : ℕ) → ((i : I) → q ≤ inner i) → m + q ≤ before + x) → ((i : I) → Fits m (inner i) g l v o) → Fits before x g l v o
    passes inner m (Go run) h f = let q = h ((length run.prints + g) - m) (λ i. let s = f i in omega (arith, s)) in omega (arith, q)
    passes inner m (Jump label run) h f = let q = h ((length run.prints + l) - m) (λ i. let s = f i in omega (arith, s)) in omega (arith, q)
    passes inner m (Yielded d run) h f = let q = h ((length run.prints + v) - m) (λ i. let s = f i in omega (arith, s)) in omega (arith, q)
    passes inner m (Stop kind run) h f = tt

    -- the code goes on behind other code
    goes_on : {I : Type 0} (inner : I → ℕ) (o : Out) (f : SectionRun → Out) → ((q : ℕ) → ((i : I) → q ≤ inner i) → Fits before x q l v o) → ((run : SectionRun) (i : I) → Fits (length run.prints) (inner i) g l v (f run)) → Fits before x g l v (go_on o f)
    goes_on inner (Go run) f h k = passes inner (length run.prints) (f run) h (k run)
    goes_on inner (Jump label run) f h k = h 0 (λ i. omega arith)
    goes_on inner (Yielded d run) f h k = h 0 (λ i. omega arith)
    goes_on inner (Stop kind run) f h k = tt

-- ---- blocks of mapping macros

-- behind a block that gives something, what follows each value that it may end with is in its expansion
abbrev Reaches : Code → Type 0
Reaches block =
    (ps : List (Name × Place)) (ren : Renames) (cur : Current) (n : ℕ) (y : OnYield) (q : ℕ) → ((e : Tree) (mem : Current) (m : ℕ) → q ≤ nodes (y e mem m)) → q ≤ nodes (expand ps block ren cur n no_go no_jump y)

abbrev ReadsReach : Reads → Type 0
ReadsReach reads =
    (block : Code) (defs : List Meaning) (id old : Data) (d : Words) (choices : List ChoiceMade) (r : Data × Option Data) (cs : List ChoiceMade) → reads block defs id old d choices ≡ Gives r cs → Reaches block

abbrev WritesReach : Writes → Type 0
WritesReach writes =
    (block : Code) (defs : List Meaning) (id old v : Data) (d : Words) (choices : List ChoiceMade) (r : Data) (cs : List ChoiceMade) → writes block defs id old v d choices ≡ Gives r cs → Reaches block

-- the nodes of what follows a block stand in what puts its content back
left_many : (b : Bool) (ren : Renames) (cur : Current) (g : Name) (i : Option Name) (e : Tree) (n q : ℕ) (k : OnGo) → ((c : Current) (m : ℕ) → q ≤ nodes (k c m)) → q ≤ nodes (left_behind b ren cur g i e n k)
left_many false ren cur g i e n q k h = h cur n
left_many true ren cur g i e n q k h = let s = h ((g, made g (suc n)) ∷ cur) (suc n) in omega (arith, s)

-- what follows a block that is read
abbrev behind : (w z : Name) (i : Option Name) (c : Code) (ps : List (Name × Place)) (ren : Renames) (cur : Current) (k : OnGo) (j : OnJump) (y : OnYield) → OnYield
behind w z i c ps ren cur k j y e mem m =
    With (made val_base (suc m)) e (left_behind (is_assigned mem) ren cur z i (current mem (Whole content_name)) (suc m) (λ cur' n. expand ps c ((w, made val_base (suc m)) ∷ ren) cur' n k j y))

behind_fits : (w z : Name) (i : Option Name) (c : Code) (ps : List (Name × Place)) (ren : Renames) (cur : Current) (k : OnGo) (j : OnJump) (y : OnYield) (before g l v : ℕ) (o : Out) (e : Tree) (mem : Current) (m : ℕ)
    → ((cur' : Current) (n : ℕ) → Fits before (nodes (expand ps c ((w, made val_base (suc m)) ∷ ren) cur' n k j y)) g l v o) → Fits before (nodes (behind w z i c ps ren cur k j y e mem m)) g l v o
behind_fits w z i c ps ren cur k j y before g l v o e mem m h =
    passes before g l v (nodes (behind w z i c ps ren cur k j y e mem m)) {I = Current × ℕ} (λ t. nodes (expand ps c ((w, made val_base (suc m)) ∷ ren) t.0 t.1 k j y)) before o
    (λ q s.
    let r = left_many (is_assigned mem) ren cur z i (current mem (Whole content_name)) (suc m) q (λ cur' n. expand ps c ((w, made val_base (suc m)) ∷ ren) cur' n k j y) (λ cur' n. s (cur', n)) in
    omega (arith, r)) (λ t. h t.0 t.1)

-- ---- along code

module _ (reads : Reads) (writes : Writes) (rr : ReadsReach reads) (wr : WritesReach writes) (a : Context) where
  mutual
    code_fits : (c : Code) (ps : List (Name × Place)) (ren : Renames) (cur : Current) (n : ℕ) (k : OnGo) (j : OnJump) (y : OnYield) (g l v : ℕ) → Behind k j y g l v → (env : Names) (d : Words) (run : SectionRun)
        → Fits (length run.prints) (nodes (expand ps c ren cur n k j y)) g l v (exec_with reads writes a c env d run)
    code_fits Empty ps ren cur n k j y g l v h env d run = let s = h.go cur n in omega (arith, s)
    code_fits Skip ps ren cur n k j y g l v h env d run = let s = h.go cur n in omega (arith, s)
    code_fits (Let b w e c) ps ren cur n k j y g l v h env d run =
        let x = nodes (expand ps (Let b w e c) ren cur n k j y) in
        let now = read_unmapped a e run in
        value_fits (length run.prints) g l v x (bindable (value_of a e env run.changes)) now (λ z. exec_with reads writes a c ((w, Some z) ∷ env) d now) (λ z.
        wider (length run.prints) g l v (exec_with reads writes a c ((w, Some z) ∷ env) d now) (nodes (expand ps c ((w, made b (suc n)) ∷ ren) cur (suc n) k j y)) x (omega arith)
        (code_fits c ps ((w, made b (suc n)) ∷ ren) cur (suc n) k j y g l v h ((w, Some z) ∷ env) d now))
    code_fits (Pick b w e c) ps ren cur n k j y g l v h env d run =
        let x = nodes (expand ps (Pick b w e c) ren cur n k j y) in
        let now = read_unmapped a e run in
        let f = λ (z : Data) (then' : SectionRun). exec_with reads writes a c ((w, Some z) ∷ env) d then' in
        value_fits (length run.prints) g l v x (option_and_then members_of (value_of a e env run.changes)) now (λ ms. picked ms d now f) (λ ms.
        picked_fits (length run.prints) g l v x ms d now f (λ z m i.
        wider (length run.prints) g l v (f z (chosen m i now)) (nodes (expand ps c ((w, made b (suc n)) ∷ ren) cur (suc n) k j y)) x (omega arith)
        (code_fits c ps ((w, made b (suc n)) ∷ ren) cur (suc n) k j y g l v h ((w, Some z) ∷ env) d (chosen m i now))))
    code_fits (Become p w) ps ren cur n k j y g l v h env d run =
        value_fits (length run.prints) g l v (nodes (expand ps (Become p w) ren cur n k j y)) (value_under w env) run (λ z. Go (becoming p z run)) (λ z. let s = h.go (expands.becoming p (find w ren) cur) n in omega (arith, s))
    code_fits (Set b p e) ps ren cur n k j y g l v h env d run =
        let now = read_unmapped a e run in
        value_fits (length run.prints) g l v (nodes (expand ps (Set b p e) ren cur n k j y)) (bindable (value_of a e env run.changes)) now (λ z. Go (becoming p z now)) (λ z. let s = h.go ((variable_of p, made b (suc n)) ∷ cur) (suc n) in omega (arith, s))
    code_fits (Await e) ps ren cur n k j y g l v h env d run =
        let now = read_unmapped a e run in
        true_fits (length run.prints) g l v (nodes (expand ps (Await e) ren cur n k j y)) (truth_of (value_of a e env run.changes)) now (Go now) (Stop Blocked now) (let s = h.go cur n in omega (arith, s)) tt
    code_fits (Assert e) ps ren cur n k j y g l v h env d run =
        let now = read_unmapped a e run in
        true_fits (length run.prints) g l v (nodes (expand ps (Assert e) ren cur n k j y)) (truth_of (value_of a e env run.changes)) now (Go now) (Stop AssertFails now) (let s = h.go cur n in omega (arith, s)) tt
    code_fits (Print e) ps ren cur n k j y g l v h env d run =
        let now = read_unmapped a e run in
        value_fits (length run.prints) g l v (nodes (expand ps (Print e) ren cur n k j y)) (value_of a e env run.changes) now (λ z. Go (printed z now)) (λ z.
        let s = h.go cur n in let m = length-append run.prints (z ∷ []) in omega (arith, s, m))
    code_fits (If e b c) ps ren cur n k j y g l v h env d run =
        let x = nodes (expand ps (If e b c) ren cur n k j y) in
        let now = read_unmapped a e run in
        true_fits (length run.prints) g l v x (truth_of (value_of a e env run.changes)) now (exec_with reads writes a b env d now) (exec_with reads writes a c env d now)
        (wider (length run.prints) g l v (exec_with reads writes a b env d now) (nodes (expand ps b ren cur n k j y)) x (omega arith) (code_fits b ps ren cur n k j y g l v h env d now))
        (wider (length run.prints) g l v (exec_with reads writes a c env d now) (nodes (expand ps c ren cur n k j y)) x (omega arith) (code_fits c ps ren cur n k j y g l v h env d now))
    code_fits (Either cs) ps ren cur n k j y g l v h env d run =
        let i = picked_number d run (count cs) in
        wider (length run.prints) g l v (exec_arm_with reads writes a cs i env d (chosen (count cs) i run)) (arms_total (expand_arms ps cs ren cur n k j y)) (nodes (expand ps (Either cs) ren cur n k j y)) (omega arith)
        (arm_fits cs i ps ren cur n k j y g l v h env d (chosen (count cs) i run))
    code_fits (Seq b c) ps ren cur n k j y g l v h env d run =
        goes_on (length run.prints) g l v (nodes (expand ps (Seq b c) ren cur n k j y)) {I = Current × ℕ} (λ i. nodes (expand ps c ren i.0 i.1 k j y)) (exec_with reads writes a b env d run) (λ now. exec_with reads writes a c env d now)
        (λ q s. code_fits b ps ren cur n (λ cur' m. expand ps c ren cur' m k j y) j y q l v (record { go = λ cur' m. s (cur', m); jump = h.jump; yields = h.yields }) env d run)
        (λ now i. code_fits c ps ren i.0 i.1 k j y g l v h env d now)
    code_fits (Goto label) ps ren cur n k j y g l v h env d run = let s = h.jump label cur n in omega (arith, s)
    code_fits (Yield e) ps ren cur n k j y g l v h env d run =
        value_fits (length run.prints) g l v (nodes (expand ps (Yield e) ren cur n k j y)) (bindable (value_of a e env run.changes)) run (λ z. Yielded z run) (λ z. let s = h.yields (current_tree ps ren cur e) cur n in omega (arith, s))
    code_fits (Read w z i block c) ps ren cur n k j y g l v h env d run =
        let x = nodes (expand ps (Read w z i block c) ren cur n k j y) in
        let inner : Tree × Current × ℕ → ℕ = λ t. nodes (behind w z i c ps ren cur k j y t.0 t.1 t.2) in
        value_fits (length run.prints) g l v x (index_value i env) run (λ o.
        with_value (bindable (content a z o run.changes)) (touching a z o run) (λ old.
        if_gives (reads block a.defs a.id old d run.choices) (touching a z o run) (λ r then'.
        with_value (put_new a z o r.1 run.changes) then' (λ ch.
        exec_with reads writes a c ((w, Some r.0) ∷ env) d (record then' { changes = ch }))))) (λ o.
        let now = touching a z o run in
        value_fits (length run.prints) g l v x (bindable (content a z o run.changes)) now (λ old. if_gives (reads block a.defs a.id old d run.choices) now (λ r then'.
        with_value (put_new a z o r.1 run.changes) then' (λ ch.
        exec_with reads writes a c ((w, Some r.0) ∷ env) d (record then' { changes = ch })))) (λ old.
        gives_fits (length run.prints) g l v x (reads block a.defs a.id old d run.choices) now (λ r then'.
        with_value (put_new a z o r.1 run.changes) then' (λ ch.
        exec_with reads writes a c ((w, Some r.0) ∷ env) d (record then' { changes = ch }))) (λ r cs given.
        value_fits (length run.prints) g l v x (put_new a z o r.1 run.changes) (with_choices cs now) (λ ch.
        exec_with reads writes a c ((w, Some r.0) ∷ env) d (record (with_choices cs now) { changes = ch })) (λ ch.
        passes (length run.prints) g l v x {I = Tree × Current × ℕ} inner (length run.prints) (exec_with reads writes a c ((w, Some r.0) ∷ env) d (record (with_choices cs now) { changes = ch }))
        (λ q s. let m = rr block a.defs a.id old d run.choices r cs given content_places [] (content_now (made old_base (suc n))) (suc n) (λ e mem m. behind w z i c ps ren cur k j y e mem m) q (λ e mem m. s (e, mem, m)) in omega (arith, m))
        (λ t. behind_fits w z i c ps ren cur k j y (length run.prints) g l v (exec_with reads writes a c ((w, Some r.0) ∷ env) d (record (with_choices cs now) { changes = ch })) t.0 t.1 t.2 (λ cur' m.
        code_fits c ps ((w, made val_base (suc t.2)) ∷ ren) cur' m k j y g l v h ((w, Some r.0) ∷ env) d (record (with_choices cs now) { changes = ch })))))))
    code_fits (Write z i w block) ps ren cur n k j y g l v h env d run =
        let x = nodes (expand ps (Write z i w block) ren cur n k j y) in
        value_fits (length run.prints) g l v x (index_value i env) run (λ o.
        with_value (bindable (content a z o run.changes)) (touching a z o run) (λ old.
        with_value (value_under w env) (touching a z o run) (λ u.
        if_gives (writes block a.defs a.id old u d run.choices) (touching a z o run) (λ new then'.
        with_value (put_content a z o (Some new) run.changes) then' (λ ch.
        Go (record then' { changes = ch })))))) (λ o.
        let now = touching a z o run in
        value_fits (length run.prints) g l v x (bindable (content a z o run.changes)) now (λ old. with_value (value_under w env) now (λ u.
        if_gives (writes block a.defs a.id old u d run.choices) now (λ new then'.
        with_value (put_content a z o (Some new) run.changes) then' (λ ch.
        Go (record then' { changes = ch }))))) (λ old.
        value_fits (length run.prints) g l v x (value_under w env) now (λ u.
        if_gives (writes block a.defs a.id old u d run.choices) now (λ new then'.
        with_value (put_content a z o (Some new) run.changes) then' (λ ch.
        Go (record then' { changes = ch })))) (λ u.
        gives_fits (length run.prints) g l v x (writes block a.defs a.id old u d run.choices) now (λ new then'.
        with_value (put_content a z o (Some new) run.changes) then' (λ ch.
        Go (record then' { changes = ch }))) (λ new cs given.
        value_fits (length run.prints) g l v x (put_content a z o (Some new) run.changes) (with_choices cs now) (λ ch.
        Go (record (with_choices cs now) { changes = ch })) (λ ch.
        let m = wr block a.defs a.id old u d run.choices new cs given content_places (value_handed (find w ren)) (content_now (made old_base (suc n))) (suc n) (λ e mem m. With (made new_base (suc m)) e (put_back ren cur z i (name (made new_base (suc m))) (suc m) k)) g (λ e mem m. let s = h.go ((z, made z (suc (suc m))) ∷ cur) (suc (suc m)) in omega (arith, s)) in
        omega (arith, m))))))

    arm_fits : (cs : Codes) (i : ℕ) (ps : List (Name × Place)) (ren : Renames) (cur : Current) (n : ℕ) (k : OnGo) (j : OnJump) (y : OnYield) (g l v : ℕ) → Behind k j y g l v → (env : Names) (d : Words) (run : SectionRun)
        → Fits (length run.prints) (arms_total (expand_arms ps cs ren cur n k j y)) g l v (exec_arm_with reads writes a cs i env d run)
    arm_fits no_codes i ps ren cur n k j y g l v h env d run = tt
    arm_fits (more_codes c cs) zero ps ren cur n k j y g l v h env d run =
        wider (length run.prints) g l v (exec_with reads writes a c env d run) (nodes (expand ps c ren cur n k j y)) (arms_total (expand_arms ps (more_codes c cs) ren cur n k j y)) (omega arith) (code_fits c ps ren cur n k j y g l v h env d run)
    arm_fits (more_codes c cs) (suc i) ps ren cur n k j y g l v h env d run =
        wider (length run.prints) g l v (exec_arm_with reads writes a cs i env d run) (arms_total (expand_arms ps cs ren cur n k j y)) (arms_total (expand_arms ps (more_codes c cs) ren cur n k j y)) (omega arith) (arm_fits cs i ps ren cur n k j y g l v h env d run)

-- ---- blocks, and sections

reads_none : ReadsReach no_reads
reads_none block defs id old d choices r cs e = absurd (cc)

writes_none : WritesReach no_writes
writes_none block defs id old v d choices r cs e = absurd (cc)

-- where a block ends with a value, what follows that stands in its expansion
yields : (block : Code) (k : Context) (env : Names) (d : Words) (ch : Vars) (choices : List ChoiceMade) (z : Data) (run : SectionRun) → exec_block k block env d (begun ch choices) ≡ Yielded z run → Reaches block
yields block k env d ch choices z run e ps ren cur n y q h =
    let s = code_fits no_reads no_writes reads_none writes_none k block ps ren cur n no_go no_jump y 0 0 q (record { go = λ cur m. omega arith; jump = λ l cur m. omega arith; yields = h }) env d (begun ch choices) in
    let t : Fits 0 (nodes (expand ps block ren cur n no_go no_jump y)) 0 0 q (Yielded z run) = subst (Fits 0 (nodes (expand ps block ren cur n no_go no_jump y)) 0 0 q) e s in
    omega (arith, t)

read_yields : (o : Out) (r : Data × Option Data) (cs : List ChoiceMade) → read_end o ≡ Gives r cs → (z : Data) × (run : SectionRun) × (o ≡ Yielded z run)
read_yields (Go run) r cs e = absurd (cc)
read_yields (Jump l run) r cs e = absurd (cc)
read_yields (Yielded z run) r cs e = (z, run, refl)
read_yields (Stop kind run) r cs e = absurd (cc)

write_yields : (o : Out) (r : Data) (cs : List ChoiceMade) → write_end o ≡ Gives r cs → (z : Data) × (run : SectionRun) × (o ≡ Yielded z run)
write_yields (Go run) r cs e = absurd (cc)
write_yields (Jump l run) r cs e = absurd (cc)
write_yields (Yielded z run) r cs e = (z, run, refl)
write_yields (Stop kind run) r cs e = absurd (cc)

reads_reach : ReadsReach block_read
reads_reach block defs id old d choices r cs e =
    let t = read_yields (exec_block (block_context defs id) block [] d (begun (content_state old) choices)) r cs e in
    yields block (block_context defs id) [] d (content_state old) choices t.0 t.1 t.2

writes_reach : WritesReach block_write
writes_reach block defs id old v d choices r cs e =
    let env = (value_name, Some v) ∷ [] in
    let t = write_yields (exec_block (block_context defs id) block env d (begun (content_state old) choices)) r cs e in
    yields block (block_context defs id) env d (content_state old) choices t.0 t.1 t.2

-- what is printed where a section ends was printed along its code
ends_with : (k : Context) (o : Out) (t : Vars) (prints : List Data) (x : ℕ) → Fits 0 x 0 0 0 o → end_of k o ≡ Next t prints → length prints ≤ x
ends_with k (Go run) t prints x h e = absurd (cc)
ends_with k (Jump l run) t prints x h e = go (closed k l run.changes k.start) e
  where
    same : (u : Vars) (b : Bool) → (if b then Next u run.prints else Stuck NoValue) ≡ Next t prints → run.prints ≡ prints
    same u true e = cc
    same u false e = absurd (cc)

    go : (o : Option Vars) → on (Stuck NoValue) o (if_shallow run.prints) ≡ Next t prints → length prints ≤ x
    go None e = absurd (cc)
    go (Some u) e = let s = ap length (same u (is_shallow u) e) in omega (arith, h, s)
ends_with k (Yielded z run) t prints x h e = absurd (cc)
ends_with k (Stop kind run) t prints x h e = absurd (cc)

-- a section prints no more values than its expansion has nodes, whatever its variables are
pub section_prints_few : (k : Context) (c : Code) (d : Words) (t : Vars) (prints : List Data) (vs : List Name) (ps : List (Name × Place)) → (section k c d).end ≡ Next t prints → length prints ≤ nodes (expansion vs ps c)
section_prints_few k c d t prints vs ps e =
    ends_with k (exec k c [] d (begun [] [])) t prints (nodes (expansion vs ps c))
    (code_fits block_read block_write reads_reach writes_reach k c ps [] [] 0 no_go (to_end vs) no_yield 0 0 0 (record { go = λ cur m. omega arith; jump = λ l cur m. omega arith; yields = λ e cur m. omega arith }) [] d (begun [] [])) e
