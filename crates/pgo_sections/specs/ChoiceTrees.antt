-- What code does, as a tree of its choice points: with words of choice it does what the tree leads to.
use Rattle.std.proofs.Common.{◌≡◌, ◌<◌, ◌%◌, ◌++◌, ℕ, zero, suc, Bool, true, false, List, [], ◌∷◌, length, get_or, Option, Some, None, option_and_then, refl, sym, ap, ◌∙◌, arith, mod-lt}
use Rattle.pgo_base.specs.Data.{Data}
use Rattle.pgo_base.specs.Lookup.{Names}
use Rattle.pgo_model.specs.Choice.{pick}
use Rattle.pgo_model.specs.Operators.{members_of, truth_of}
use Rattle.pgo_model.specs.Options.{on}
use Rattle.pgo_model.specs.Outcome.{Blocked, NoValue, AssertFails}
use Rattle.pgo_model.specs.System.{Words}
use Rattle.pgo_model.specs.Val.{Meaning}
use Rattle.pgo_tries.specs.Chosen.{Chosen, Ended, Chooses, follow, Leaf}
use Rattle.pgo_sections.specs.BoundValues.{bindable, value_under}
use Rattle.pgo_sections.specs.Code.{Code, Empty, Skip, Let, Pick, Become, Set, Await, Assert, Print, If, Either, Seq, Goto, Yield, Read, Write, Codes, no_codes, more_codes, value_name}
use Rattle.pgo_sections.specs.Context.{Context, block_context, content, content_state, index_value, put_content, put_new, value_of}
use Rattle.pgo_sections.specs.Exec.{MacroEnd, Gives, Stops, read_end, write_end, with_choices, if_gives, touching, read_unmapped, becoming, count, Reads, Writes, exec_with, exec_arm_with}
use Rattle.pgo_sections.specs.Macros.{no_reads, no_writes, exec_block, block_read, block_write, exec}
use Rattle.pgo_sections.specs.Section.{run_of}
use Rattle.pgo_sections.specs.SectionRun.{ChoiceMade, SectionRun, begun, printed, chosen, Out, Go, Jump, Yielded, Stop, with_value, if_true, picked, go_on}

abbrev pub and_then : {A B : Type 0} → Chosen A → (A → Chosen B) → Chosen B
and_then (Ended a) k = k a
and_then (Chooses more arms) k = Chooses more (λ i. and_then (arms i) k)

-- behind the choices cs, the newest first: where the words lead, with all choices then
abbrev pub led : {A : Type 0} → Words → List ChoiceMade → Chosen A → List ChoiceMade × A
led d cs (Ended a) = (cs, a)
led d cs (Chooses more arms) = let i = pick (d (length cs)) (suc more) in led d (record { count = suc more; taken = i } ∷ cs) (arms i)

-- ---- the trees

abbrev pub value_tree : {A : Type 0} → Option A → SectionRun → (A → Chosen Out) → Chosen Out
value_tree None run f = Ended (Stop NoValue run)
value_tree (Some v) run f = f v

abbrev pub truth_tree : Option Bool → SectionRun → Chosen Out → Chosen Out → Chosen Out
truth_tree (Some true) run a b = a
truth_tree (Some false) run a b = b
truth_tree None run a b = Ended (Stop NoValue run)

abbrev pub pick_tree : List Data → SectionRun → (Data → SectionRun → Chosen Out) → Chosen Out
pick_tree [] run f = Ended (Stop Blocked run)
pick_tree (m ∷ ms) run f = Chooses (length ms) (λ i. f (get_or (m ∷ ms) i m) (chosen (length (m ∷ ms)) i run))

abbrev pub on_tree : Out → (SectionRun → Chosen Out) → Chosen Out
on_tree (Go run) f = f run
on_tree (Jump l run) f = Ended (Jump l run)
on_tree (Yielded v run) f = Ended (Yielded v run)
on_tree (Stop kind run) f = Ended (Stop kind run)

abbrev pub gives_tree : {A : Type 0} → MacroEnd A → SectionRun → (A → SectionRun → Chosen Out) → Chosen Out
gives_tree (Gives a cs) run f = f a (with_choices cs run)
gives_tree (Stops kind cs) run f = Ended (Stop kind (with_choices cs run))

abbrev pub ReadTrees : Type 0
ReadTrees = (block : Code) → (defs : List Meaning) → (id old : Data) → (choices : List ChoiceMade) → Chosen (MacroEnd (Data × Option Data))

abbrev pub WriteTrees : Type 0
WriteTrees = (block : Code) → (defs : List Meaning) → (id old v : Data) → (choices : List ChoiceMade) → Chosen (MacroEnd Data)

module _ (reads : ReadTrees) (writes : WriteTrees) where
  abbrev mutual
    pub tree_with : Context → Code → Names → SectionRun → Chosen Out
    tree_with k Empty env run = Ended (Go run)
    tree_with k Skip env run = Ended (Go run)
    tree_with k (Let b w e c) env run =
        let now = read_unmapped k e run in value_tree (bindable (value_of k e env run.changes)) now (λ v. tree_with k c ((w, Some v) ∷ env) now)
    tree_with k (Pick b w e c) env run =
        let now = read_unmapped k e run in
        value_tree (option_and_then members_of (value_of k e env run.changes)) now (λ ms. pick_tree ms now (λ v then'. tree_with k c ((w, Some v) ∷ env) then'))
    tree_with k (Become p w) env run = value_tree (value_under w env) run (λ v. Ended (Go (becoming p v run)))
    tree_with k (Set b p e) env run = let now = read_unmapped k e run in value_tree (bindable (value_of k e env run.changes)) now (λ v. Ended (Go (becoming p v now)))
    tree_with k (Await e) env run = let now = read_unmapped k e run in truth_tree (truth_of (value_of k e env run.changes)) now (Ended (Go now)) (Ended (Stop Blocked now))
    tree_with k (Assert e) env run = let now = read_unmapped k e run in truth_tree (truth_of (value_of k e env run.changes)) now (Ended (Go now)) (Ended (Stop AssertFails now))
    tree_with k (Print e) env run = let now = read_unmapped k e run in value_tree (value_of k e env run.changes) now (λ v. Ended (Go (printed v now)))
    tree_with k (If e a b) env run = let now = read_unmapped k e run in truth_tree (truth_of (value_of k e env run.changes)) now (tree_with k a env now) (tree_with k b env now)
    tree_with k (Either no_codes) env run = Chooses 0 (λ i. Ended (Stop NoValue (chosen 0 i run)))
    tree_with k (Either (more_codes c cs)) env run = Chooses (count cs) (λ i. arm_with k (more_codes c cs) i env (chosen (count (more_codes c cs)) i run))
    tree_with k (Seq a b) env run = and_then (tree_with k a env run) (λ o. on_tree o (λ now. tree_with k b env now))
    tree_with k (Goto l) env run = Ended (Jump l run)
    tree_with k (Yield e) env run = value_tree (bindable (value_of k e env run.changes)) run (λ v. Ended (Yielded v run))
    tree_with k (Read w g i block c) env run =
        value_tree (index_value i env) run (λ j.
        let now = touching k g j run in
        value_tree (bindable (content k g j run.changes)) now (λ old.
        and_then (reads block k.defs k.id old run.choices) (λ e.
        gives_tree e now (λ r then'.
        value_tree (put_new k g j r.1 run.changes) then' (λ ch. tree_with k c ((w, Some r.0) ∷ env) (record then' { changes = ch }))))))
    tree_with k (Write g i w block) env run =
        value_tree (index_value i env) run (λ j.
        let now = touching k g j run in
        value_tree (bindable (content k g j run.changes)) now (λ old.
        value_tree (value_under w env) now (λ v.
        and_then (writes block k.defs k.id old v run.choices) (λ e.
        gives_tree e now (λ new then'.
        value_tree (put_content k g j (Some new) run.changes) then' (λ ch. Ended (Go (record then' { changes = ch }))))))))

    pub arm_with : Context → Codes → ℕ → Names → SectionRun → Chosen Out
    arm_with k no_codes i env run = Ended (Stop NoValue run)
    arm_with k (more_codes c cs) zero env run = tree_with k c env run
    arm_with k (more_codes c cs) (suc i) env run = arm_with k cs i env run

abbrev pub no_read_trees : ReadTrees
no_read_trees block defs id old choices = Ended (Stops NoValue choices)

abbrev pub no_write_trees : WriteTrees
no_write_trees block defs id old v choices = Ended (Stops NoValue choices)

abbrev pub read_tree : ReadTrees
read_tree block defs id old choices = and_then (tree_with no_read_trees no_write_trees (block_context defs id) block [] (begun (content_state old) choices)) (λ o. Ended (read_end o))

abbrev pub write_tree : WriteTrees
write_tree block defs id old v choices =
    and_then (tree_with no_read_trees no_write_trees (block_context defs id) block ((value_name, Some v) ∷ []) (begun (content_state old) choices)) (λ o. Ended (write_end o))

-- the tree of a section's code
abbrev pub tree : Context → Code → Names → SectionRun → Chosen Out
tree = tree_with read_tree write_tree

-- ---- laws

abbrev pub told : Out → List ChoiceMade × Out
told o = ((run_of o).choices, o)

abbrev pub end_choices : {A : Type 0} → MacroEnd A → List ChoiceMade
end_choices (Gives a cs) = cs
end_choices (Stops kind cs) = cs

abbrev pub end_told : {A : Type 0} → MacroEnd A → List ChoiceMade × MacroEnd A
end_told e = (end_choices e, e)

-- among one there is no choice
pick_one : (w : ℕ) → pick w 1 ≡ 0
pick_one w = let h : 0 < 1 = omega arith in let l : w % 1 < 1 = mod-lt w h in omega (arith, l)

led_then : {A B : Type 0} (d : Words) (cs : List ChoiceMade) (t : Chosen A) (k : A → Chosen B) → led d cs (and_then t k) ≡ led d (led d cs t).0 (k (led d cs t).1)
led_then d cs (Ended a) k = refl
led_then d cs (Chooses more arms) k = let i = pick (d (length cs)) (suc more) in led_then d (record { count = suc more; taken = i } ∷ cs) (arms i) k

valued : {A : Type 0} (d : Words) (o : Option A) (run : SectionRun) (f : A → Out) (g : A → Chosen Out) → ((v : A) → led d run.choices (g v) ≡ told (f v)) → led d run.choices (value_tree o run g) ≡ told (with_value o run f)
valued d None run f g h = refl
valued d (Some v) run f g h = h v

judged : (d : Words) (o : Option Bool) (run : SectionRun) (a b : Out) (s t : Chosen Out) → led d run.choices s ≡ told a → led d run.choices t ≡ told b → led d run.choices (truth_tree o run s t) ≡ told (if_true o run a b)
judged d (Some true) run a b s t h k = h
judged d (Some false) run a b s t h k = k
judged d None run a b s t h k = refl

chose : (d : Words) (ms : List Data) (run : SectionRun) (f : Data → SectionRun → Out) (g : Data → SectionRun → Chosen Out) → ((v : Data) (then' : SectionRun) → led d then'.choices (g v then') ≡ told (f v then')) → led d run.choices (pick_tree ms run g) ≡ told (picked ms d run f)
chose d [] run f g h = refl
chose d (m ∷ ms) run f g h = let i = pick (d (length run.choices)) (suc (length ms)) in h (get_or (m ∷ ms) i m) (chosen (length (m ∷ ms)) i run)

went : (d : Words) (o : Out) (f : SectionRun → Out) (g : SectionRun → Chosen Out) → ((run : SectionRun) → led d run.choices (g run) ≡ told (f run)) → led d (run_of o).choices (on_tree o g) ≡ told (go_on o f)
went d (Go run) f g h = h run
went d (Jump l run) f g h = refl
went d (Yielded v run) f g h = refl
went d (Stop kind run) f g h = refl

given : {A : Type 0} (d : Words) (e : MacroEnd A) (run : SectionRun) (f : A → SectionRun → Out) (g : A → SectionRun → Chosen Out) → ((a : A) (then' : SectionRun) → led d then'.choices (g a then') ≡ told (f a then')) → led d (end_choices e) (gives_tree e run g) ≡ told (if_gives e run f)
given d (Gives a cs) run f g h = h a (with_choices cs run)
given d (Stops kind cs) run f g h = refl

module _ (reads : Reads) (writes : Writes) (read_trees : ReadTrees) (write_trees : WriteTrees) (d : Words)
    (read_led : (block : Code) (defs : List Meaning) (id old : Data) (cs : List ChoiceMade) → led d cs (read_trees block defs id old cs) ≡ end_told (reads block defs id old d cs))
    (write_led : (block : Code) (defs : List Meaning) (id old v : Data) (cs : List ChoiceMade) → led d cs (write_trees block defs id old v cs) ≡ end_told (writes block defs id old v d cs)) where
  mutual
    pub code_led : (k : Context) (c : Code) (env : Names) (run : SectionRun) → led d run.choices (tree_with read_trees write_trees k c env run) ≡ told (exec_with reads writes k c env d run)
    code_led k Empty env run = refl
    code_led k Skip env run = refl
    code_led k (Let b w e c) env run =
        let now = read_unmapped k e run in
        valued d (bindable (value_of k e env run.changes)) now (λ v. exec_with reads writes k c ((w, Some v) ∷ env) d now) (λ v. tree_with read_trees write_trees k c ((w, Some v) ∷ env) now) (λ v. code_led k c ((w, Some v) ∷ env) now)
    code_led k (Pick b w e c) env run =
        let now = read_unmapped k e run in
        valued d (option_and_then members_of (value_of k e env run.changes)) now (λ ms. picked ms d now (λ v then'. exec_with reads writes k c ((w, Some v) ∷ env) d then')) (λ ms. pick_tree ms now (λ v then'. tree_with read_trees write_trees k c ((w, Some v) ∷ env) then'))
        (λ ms. chose d ms now (λ v then'. exec_with reads writes k c ((w, Some v) ∷ env) d then') (λ v then'. tree_with read_trees write_trees k c ((w, Some v) ∷ env) then') (λ v then'. code_led k c ((w, Some v) ∷ env) then'))
    code_led k (Become p w) env run = valued d (value_under w env) run (λ v. Go (becoming p v run)) (λ v. Ended (Go (becoming p v run))) (λ v. refl)
    code_led k (Set b p e) env run =
        let now = read_unmapped k e run in valued d (bindable (value_of k e env run.changes)) now (λ v. Go (becoming p v now)) (λ v. Ended (Go (becoming p v now))) (λ v. refl)
    code_led k (Await e) env run = let now = read_unmapped k e run in judged d (truth_of (value_of k e env run.changes)) now (Go now) (Stop Blocked now) (Ended (Go now)) (Ended (Stop Blocked now)) refl refl
    code_led k (Assert e) env run = let now = read_unmapped k e run in judged d (truth_of (value_of k e env run.changes)) now (Go now) (Stop AssertFails now) (Ended (Go now)) (Ended (Stop AssertFails now)) refl refl
    code_led k (Print e) env run = let now = read_unmapped k e run in valued d (value_of k e env run.changes) now (λ v. Go (printed v now)) (λ v. Ended (Go (printed v now))) (λ v. refl)
    code_led k (If e a b) env run =
        let now = read_unmapped k e run in
        judged d (truth_of (value_of k e env run.changes)) now (exec_with reads writes k a env d now) (exec_with reads writes k b env d now) (tree_with read_trees write_trees k a env now) (tree_with read_trees write_trees k b env now) (code_led k a env now) (code_led k b env now)
    code_led k (Either no_codes) env run =
        ap (λ i. (record { count = 1; taken = i } ∷ run.choices, Stop NoValue (chosen 0 0 run))) (pick_one (d (length run.choices)))
    code_led k (Either (more_codes c cs)) env run =
        let i = pick (d (length run.choices)) (count (more_codes c cs)) in arm_led k (more_codes c cs) i env (chosen (count (more_codes c cs)) i run)
    code_led k (Seq a b) env run =
        led_then d run.choices (tree_with read_trees write_trees k a env run) (λ o. on_tree o (λ now. tree_with read_trees write_trees k b env now))
        ∙ ap (λ (p : List ChoiceMade × Out). led d p.0 (on_tree p.1 (λ now. tree_with read_trees write_trees k b env now))) (code_led k a env run)
        ∙ went d (exec_with reads writes k a env d run) (λ now. exec_with reads writes k b env d now) (λ now. tree_with read_trees write_trees k b env now) (λ now. code_led k b env now)
    code_led k (Goto l) env run = refl
    code_led k (Yield e) env run = valued d (bindable (value_of k e env run.changes)) run (λ v. Yielded v run) (λ v. Ended (Yielded v run)) (λ v. refl)
    code_led k (Read w g i block c) env run =
        valued d (index_value i env) run _ _ (λ j.
        let now = touching k g j run in
        valued d (bindable (content k g j run.changes)) now _ _ (λ old.
        led_then d run.choices (read_trees block k.defs k.id old run.choices) _
        ∙ ap (λ (p : List ChoiceMade × MacroEnd (Data × Option Data)). led d p.0 (gives_tree p.1 now (λ r then'. value_tree (put_new k g j r.1 run.changes) then' (λ ch. tree_with read_trees write_trees k c ((w, Some r.0) ∷ env) (record then' { changes = ch }))))) (read_led block k.defs k.id old run.choices)
        ∙ given d (reads block k.defs k.id old d run.choices) now
        (λ r then'. with_value (put_new k g j r.1 run.changes) then' (λ ch. exec_with reads writes k c ((w, Some r.0) ∷ env) d (record then' { changes = ch })))
        (λ r then'. value_tree (put_new k g j r.1 run.changes) then' (λ ch. tree_with read_trees write_trees k c ((w, Some r.0) ∷ env) (record then' { changes = ch })))
        (λ r then'. valued d (put_new k g j r.1 run.changes) then' _ _ (λ ch. code_led k c ((w, Some r.0) ∷ env) (record then' { changes = ch })))))
    code_led k (Write g i w block) env run =
        valued d (index_value i env) run _ _ (λ j.
        let now = touching k g j run in
        valued d (bindable (content k g j run.changes)) now _ _ (λ old.
        valued d (value_under w env) now _ _ (λ v.
        led_then d run.choices (write_trees block k.defs k.id old v run.choices) _
        ∙ ap (λ (p : List ChoiceMade × MacroEnd Data). led d p.0 (gives_tree p.1 now (λ new then'. value_tree (put_content k g j (Some new) run.changes) then' (λ ch. Ended (Go (record then' { changes = ch })))))) (write_led block k.defs k.id old v run.choices)
        ∙ given d (writes block k.defs k.id old v d run.choices) now
        (λ new then'. with_value (put_content k g j (Some new) run.changes) then' (λ ch. Go (record then' { changes = ch })))
        (λ new then'. value_tree (put_content k g j (Some new) run.changes) then' (λ ch. Ended (Go (record then' { changes = ch }))))
        (λ new then'. valued d (put_content k g j (Some new) run.changes) then' _ _ (λ ch. refl)))))

    arm_led : (k : Context) (cs : Codes) (i : ℕ) (env : Names) (run : SectionRun) → led d run.choices (arm_with read_trees write_trees k cs i env run) ≡ told (exec_arm_with reads writes k cs i env d run)
    arm_led k no_codes i env run = refl
    arm_led k (more_codes c cs) zero env run = code_led k c env run
    arm_led k (more_codes c cs) (suc i) env run = arm_led k cs i env run

block_led : (d : Words) (k : Context) (c : Code) (env : Names) (run : SectionRun) → led d run.choices (tree_with no_read_trees no_write_trees k c env run) ≡ told (exec_block k c env d run)
block_led d = code_led no_reads no_writes no_read_trees no_write_trees d (λ block defs id old cs. refl) (λ block defs id old v cs. refl)

read_choices : (o : Out) → end_choices (read_end o) ≡ (run_of o).choices
read_choices (Go run) = refl
read_choices (Jump l run) = refl
read_choices (Yielded v run) = go (Rattle.pgo_sections.specs.Context.new_content run.changes)
  where
    given_by : Option (Option Data) → MacroEnd (Data × Option Data)
    given_by o = on (Stops NoValue run.choices) o (λ new. Gives (v, new) run.choices)

    go : (o : Option (Option Data)) → end_choices (given_by o) ≡ run.choices
    go None = refl
    go (Some new) = refl
read_choices (Stop kind run) = refl

write_choices : (o : Out) → end_choices (write_end o) ≡ (run_of o).choices
write_choices (Go run) = refl
write_choices (Jump l run) = refl
write_choices (Yielded v run) = refl
write_choices (Stop kind run) = refl

-- a section's code does what its tree leads to
pub section_led : (d : Words) (k : Context) (c : Code) (env : Names) (run : SectionRun) → led d run.choices (tree k c env run) ≡ told (exec k c env d run)
section_led d =
    code_led block_read block_write read_tree write_tree d
    (λ block defs id old cs.
    let t = tree_with no_read_trees no_write_trees (block_context defs id) block [] (begun (content_state old) cs) in
    led_then d cs t (λ o. Ended (read_end o))
    ∙ ap (λ (p : List ChoiceMade × Out). led d p.0 (Ended (read_end p.1))) (block_led d (block_context defs id) block [] (begun (content_state old) cs))
    ∙ (let o = exec_block (block_context defs id) block [] d (begun (content_state old) cs) in λ i. (sym (read_choices o) i, read_end o)))
    (λ block defs id old v cs.
    let t = tree_with no_read_trees no_write_trees (block_context defs id) block ((value_name, Some v) ∷ []) (begun (content_state old) cs) in
    led_then d cs t (λ o. Ended (write_end o))
    ∙ ap (λ (p : List ChoiceMade × Out). led d p.0 (Ended (write_end p.1))) (block_led d (block_context defs id) block ((value_name, Some v) ∷ []) (begun (content_state old) cs))
    ∙ (let o = exec_block (block_context defs id) block ((value_name, Some v) ∷ []) d (begun (content_state old) cs) in λ i. (sym (write_choices o) i, write_end o)))

-- ---- as leaves

-- the choices ps, the first first, behind cs, the newest first
abbrev pub onto : List ChoiceMade → List ChoiceMade → List ChoiceMade
onto [] cs = cs
onto (p ∷ ps) cs = onto ps (p ∷ cs)

led_leaf : {A : Type 0} (d : Words) (n : ℕ) (cs : List ChoiceMade) (t : Chosen A) → length cs ≡ n → led d cs t ≡ (let l = follow d n [] t in (onto l.0 cs, l.1))
led_leaf d n cs (Ended a) e = refl
led_leaf d n cs (Chooses more arms) e =
    let i = pick (d (length cs)) (suc more) in let j = pick (d n) (suc more) in
    led_leaf d (suc n) (record { count = suc more; taken = i } ∷ cs) (arms i) (ap suc e)
    ∙ ap (λ n'. let i = pick (d n') (suc more) in let l = follow d (suc n) [] (arms i) in (onto l.0 (record { count = suc more; taken = i } ∷ cs), l.1)) e

-- the choices that were made, the first first
abbrev pub in_order : List ChoiceMade → List ChoiceMade
in_order cs = onto cs []

onto_back : (ps cs qs : List ChoiceMade) → onto (onto ps cs) qs ≡ onto cs (ps ++ qs)
onto_back [] cs qs = refl
onto_back (p ∷ ps) cs qs = onto_back ps (p ∷ cs) qs

nil_append : (l : List ChoiceMade) → l ++ [] ≡ l
nil_append [] = refl
nil_append (x ∷ l) = ap (λ k. x ∷ k) (nil_append l)

-- what code does with words of choice, with the choices that it makes in order, is the leaf of its tree to which the words lead
abbrev pub leaf_of : Context → Code → Words → Leaf Out
leaf_of k c d = let o = exec k c [] d (begun [] []) in (in_order (run_of o).choices, o)

pub section_leaf : (d : Words) (k : Context) (c : Code) → leaf_of k c d ≡ follow d 0 [] (tree k c [] (begun [] []))
section_leaf d k c =
    let l = follow d 0 [] (tree k c [] (begun [] [])) in
    let e : told (exec k c [] d (begun [] [])) ≡ (onto l.0 [], l.1) = sym (section_led d k c [] (begun [] [])) ∙ led_leaf d 0 [] (tree k c [] (begun [] [])) refl in
    (λ i. (in_order (e i).0, (e i).1)) ∙ ap (λ ps. (ps, l.1)) (onto_back l.0 [] [] ∙ nil_append l.0)
