-- A walk that takes the operands of an expression one after another and builds the form anew gives what `rewritten` says.
use Rattle.std.proofs.Common.{◌≡◌, ◌<◌, ◌+◌, ℕ, suc, true, false, nat_lt, List, [], ◌∷◌, ◌++◌, length, take, Option, refl, ap, sym, ◌∙◌, append_assoc, arith}
use Rattle.std.specs.Prelude.{if◌then◌else◌}
use Rattle.std.proofs.lemmas.List.{append-nil, length-append}
use Rattle.std.proofs.Math.Seq.{take-append_seam, take-length}
use Rattle.pgo_base.specs.Lookup.{Name}
use Rattle.pgo_base.specs.Tree.{Tree, name, primed, number, text, truth, at, word, unary, binary, product, cond_of, case_of, case_other, let_in, quantified, choose, tuple, set_of, filter_of, image, fun_of, fun_set, record_of, record_set, except, index, field, call, unchanged, Trees, no_trees, more_trees, NamedTrees, no_named, more_named, TreePairs, no_arms, more_arms, BoundTrees, no_bound, more_bound, PathTrees, no_paths, more_paths, trees, named, arms, bound, paths}
use Rattle.pgo_model.specs.Options.{on}
use Rattle.pgo_operands.specs.Operands.{operands, members, named_members, arm_members, bound_members, path_members}
use Rattle.pgo_sections.specs.Access.{MappedNames, MappedRead, Hoisted, pure, then_hoist, read_element, index_tree, element_of}
use Rattle.pgo_sections.specs.Bound.{names_of, names_bound, below}
use Rattle.pgo_rewrite.specs.Parts.{parts, finished}
use Rattle.pgo_rewrite.specs.Rebuilt.{next, behind, fill_trees, behind_trees, fill_named, behind_named, fill_arms, behind_arms, fill_bound, behind_bound, fill_paths}
use Rattle.pgo_rewrite.specs.Rewritten.{rewritten, rewritten_all, rewritten_arms, rewritten_fields, rewritten_let, rewritten_bound, rewritten_paths}
use Rattle.pgo_rewrite.specs.Scoped.{names_by, count_bound, at_body, under_at}

nest_2 : {A B C D : Type 0} (p : Hoisted A) (f : A → ℕ → Hoisted B) (h : A → B → C) (g : C → ℕ → Hoisted D)
    → then_hoist (then_hoist p (λ a k. then_hoist (f a k) (λ b l. pure l (h a b)))) g ≡ then_hoist p (λ a k. then_hoist (f a k) (λ b l. g (h a b) l))
nest_2 p f h g =
    let q = f p.rest p.used in
    let r = g (h p.rest q.rest) q.used in
    let e : (p.reads ++ (q.reads ++ [])) ++ r.reads ≡ p.reads ++ (q.reads ++ r.reads) =
    ap (λ l. (p.reads ++ l) ++ r.reads) (append-nil q.reads) ∙ append_assoc p.reads q.reads r.reads in
    λ i. record { reads = e i; rest = r.rest; used = r.used }

nest_3 : {A B C D E : Type 0} (p : Hoisted A) (f : A → ℕ → Hoisted B) (f' : A → B → ℕ → Hoisted C) (h : A → B → C → D) (g : D → ℕ → Hoisted E)
    → then_hoist (then_hoist p (λ a k. then_hoist (f a k) (λ b l. then_hoist (f' a b l) (λ c m. pure m (h a b c))))) g
    ≡ then_hoist p (λ a k. then_hoist (f a k) (λ b l. then_hoist (f' a b l) (λ c m. g (h a b c) m)))
nest_3 p f f' h g =
    let q = f p.rest p.used in
    let s = f' p.rest q.rest q.used in
    let r = g (h p.rest q.rest s.rest) s.used in
    let e : (p.reads ++ (q.reads ++ (s.reads ++ []))) ++ r.reads ≡ p.reads ++ (q.reads ++ (s.reads ++ r.reads)) =
    ap (λ l. (p.reads ++ (q.reads ++ l)) ++ r.reads) (append-nil s.reads) ∙ append_assoc p.reads (q.reads ++ s.reads) r.reads
    ∙ ap (λ l. p.reads ++ l) (append_assoc q.reads s.reads r.reads) in
    λ i. record { reads = e i; rest = r.rest; used = r.used }

below_more : (pre : List Name) (x : Name) (under : List Name) → below (pre ++ x ∷ []) under ≡ x ∷ below pre under
below_more [] x under = refl
below_more (y ∷ ys) x under = below_more ys x (y ∷ under)

is_below : (i n : ℕ) → i < n → nat_lt i n ≡ true
is_below i n h = grind (arith, h)

not_below : (n : ℕ) → nat_lt n n ≡ false
not_below n = grind arith

one_longer : (n : ℕ) (pre : List Name) (x : Name) → n ≡ length pre → suc n ≡ length (pre ++ x ∷ [])
one_longer n pre x k = omega (arith, k, length-append pre (x ∷ []))

around_at : (around : ℕ → List Name) (under ns pre rest : List Name) (i : ℕ) → ((j : ℕ) → around j ≡ below (take j ns) under) → ns ≡ pre ++ rest → i ≡ length pre → below pre under ≡ around i
around_at around under ns pre rest i is s n = sym (is i ∙ ap (λ l. below l under) ((λ z. take (n z) (s z)) ∙ take-append_seam pre rest))

module _ (stands : Name → Option Tree) (mapped : MappedNames) where
  -- operands, and then what f makes of them
  abbrev parts_then : {B : Type 0} → (ℕ → List Name) → ℕ → List Tree → ℕ → (List Tree → ℕ → Hoisted B) → Hoisted B
  parts_then around i [] k f = f [] k
  parts_then around i (t ∷ ts) k f =
      then_hoist (rewritten stands mapped (around i) t k) (λ t' l. parts_then around (suc i) ts l (λ us. f (t' ∷ us)))

  parts_bind : {B : Type 0} (around : ℕ → List Name) (i : ℕ) (ts : List Tree) (k : ℕ) (f : List Tree → ℕ → Hoisted B) → parts_then around i ts k f ≡ then_hoist (parts stands mapped around i ts k) f
  parts_bind around i [] k f = refl
  parts_bind around i (t ∷ ts) k f =
      let p = rewritten stands mapped (around i) t k in
      let q = parts stands mapped around (suc i) ts p.used in
      let r = f (p.rest ∷ q.rest) q.used in
      ap (λ h. then_hoist p (λ a l. h)) (parts_bind around (suc i) ts p.used (λ us. f (p.rest ∷ us)))
      ∙ sym (λ j. record { reads = append_assoc p.reads q.reads r.reads j; rest = r.rest; used = r.used })

  -- the same names around each operand
  abbrev all_then : {B : Type 0} → List Name → List Tree → ℕ → (List Tree → ℕ → Hoisted B) → Hoisted B
  all_then under [] k f = f [] k
  all_then under (t ∷ ts) k f = then_hoist (rewritten stands mapped under t k) (λ t' l. all_then under ts l (λ us. f (t' ∷ us)))

  all_is : {B : Type 0} (under : List Name) (i : ℕ) (ts : List Tree) (k : ℕ) (f : List Tree → ℕ → Hoisted B) → all_then under ts k f ≡ parts_then (λ j. under) i ts k f
  all_is under i [] k f = refl
  all_is under i (t ∷ ts) k f =
      let p = rewritten stands mapped under t k in
      ap (λ h. then_hoist p (λ a l. h)) (all_is under (suc i) ts p.used (λ us. f (p.rest ∷ us)))

  trees_run : {B : Type 0} (under : List Name) (ts : Trees) (k : ℕ) (g : Trees → ℕ → Hoisted B)
      → then_hoist (rewritten_all stands mapped under ts k) g ≡ all_then under (members ts) k (λ ps l. g (trees ps) l)
  trees_run under no_trees k g = refl
  trees_run under (more_trees t ts) k g =
      let p = rewritten stands mapped under t k in
      nest_2 p (λ a l. rewritten_all stands mapped under ts l) more_trees g
      ∙ ap (λ h. then_hoist p (λ a l. h)) (trees_run under ts p.used (λ us l. g (more_trees p.rest us) l))

  trees_front : {B : Type 0} (under : List Name) (ts : Trees) (rest : List Tree) (k : ℕ) (g : Trees → List Tree → ℕ → Hoisted B)
      → then_hoist (rewritten_all stands mapped under ts k) (λ us l. all_then under rest l (λ ps m. g us ps m))
      ≡ all_then under (members ts ++ rest) k (λ ps l. g (trees (fill_trees ts ps)) (behind_trees ts ps) l)
  trees_front under no_trees rest k g = refl
  trees_front under (more_trees t ts) rest k g =
      let p = rewritten stands mapped under t k in
      nest_2 p (λ a l. rewritten_all stands mapped under ts l) more_trees (λ us l. all_then under rest l (λ ps m. g us ps m))
      ∙ ap (λ h. then_hoist p (λ a l. h)) (trees_front under ts rest p.used (λ us ps l. g (more_trees p.rest us) ps l))

  fields_run : {B : Type 0} (under : List Name) (ds : NamedTrees) (k : ℕ) (g : NamedTrees → ℕ → Hoisted B)
      → then_hoist (rewritten_fields stands mapped under ds k) g ≡ all_then under (named_members ds) k (λ ps l. g (named (fill_named ds ps)) l)
  fields_run under no_named k g = refl
  fields_run under (more_named x t ds) k g =
      let p = rewritten stands mapped under t k in
      nest_2 p (λ a l. rewritten_fields stands mapped under ds l) (more_named x) g
      ∙ ap (λ h. then_hoist p (λ a l. h)) (fields_run under ds p.used (λ us l. g (more_named x p.rest us) l))

  arms_front : {B : Type 0} (under : List Name) (gs : TreePairs) (rest : List Tree) (k : ℕ) (g : TreePairs → List Tree → ℕ → Hoisted B)
      → then_hoist (rewritten_arms stands mapped under gs k) (λ us l. all_then under rest l (λ ps m. g us ps m))
      ≡ all_then under (arm_members gs ++ rest) k (λ ps l. g (arms (fill_arms gs ps)) (behind_arms gs ps) l)
  arms_front under no_arms rest k g = refl
  arms_front under (more_arms t e gs) rest k g =
      let p = rewritten stands mapped under t k in
      let q = rewritten stands mapped under e p.used in
      nest_3 p (λ a l. rewritten stands mapped under e l) (λ a b l. rewritten_arms stands mapped under gs l) more_arms (λ us l. all_then under rest l (λ ps m. g us ps m))
      ∙ ap (λ h. then_hoist p (λ a l. then_hoist q (λ b m. h))) (arms_front under gs rest q.used (λ us ps l. g (more_arms p.rest q.rest us) ps l))

  arms_run : {B : Type 0} (under : List Name) (gs : TreePairs) (k : ℕ) (g : TreePairs → ℕ → Hoisted B)
      → then_hoist (rewritten_arms stands mapped under gs k) g ≡ all_then under (arm_members gs) k (λ ps l. g (arms (fill_arms gs ps)) l)
  arms_run under gs k g =
      arms_front under gs [] k (λ us ps l. g us l) ∙ ap (λ ts. all_then under ts k (λ ps l. g (arms (fill_arms gs ps)) l)) (append-nil (arm_members gs))

  paths_run : {B : Type 0} (under : List Name) (us : PathTrees) (k : ℕ) (g : PathTrees → ℕ → Hoisted B)
      → then_hoist (rewritten_paths stands mapped under us k) g ≡ all_then under (path_members us) k (λ ps l. g (paths (fill_paths us ps)) l)
  paths_run under no_paths k g = refl
  paths_run under (more_paths ts e us) k g =
      let p = rewritten_all stands mapped under ts k in
      let q = rewritten stands mapped under e p.used in
      nest_3 p (λ a l. rewritten stands mapped under e l) (λ a b l. rewritten_paths stands mapped under us l) more_paths g
      ∙ ap (λ h. then_hoist p (λ a l. then_hoist q (λ b m. h))) (paths_run under us q.used (λ vs l. g (more_paths p.rest q.rest vs) l))
      ∙ trees_front under ts (e ∷ path_members us) k (λ vs ps l. g (more_paths vs (next ps) (paths (fill_paths us (behind ps)))) l)

  bound_run : {B : Type 0} (around : ℕ → List Name) (under : List Name) (bs : BoundTrees) (p : Tree) (i n k : ℕ) (g : BoundTrees → Tree → ℕ → Hoisted B)
      → ((j : ℕ) → j < n → under ≡ around j) → i + count_bound bs ≡ n
      → then_hoist (rewritten_bound stands mapped under bs k) (λ us l. then_hoist (rewritten stands mapped (around n) p l) (λ p' m. g us p' m))
      ≡ parts_then around i (bound_members bs ++ p ∷ []) k (λ ps l. g (bound (fill_bound bs ps)) (next (behind_bound bs ps)) l)
  bound_run around under no_bound p i n k g same here =
      let e : n ≡ i = omega (arith, here) in
      ap (λ j. then_hoist (rewritten stands mapped (around j) p k) (λ p' m. g no_bound p' m)) e
  bound_run around under (more_bound xs r bs) p i n k g same here =
      let q = rewritten stands mapped under r k in
      let low : i < n = omega (arith, here) in
      nest_2 q (λ a l. rewritten_bound stands mapped under bs l) (more_bound xs) (λ us l. then_hoist (rewritten stands mapped (around n) p l) (λ p' m. g us p' m))
      ∙ ap (λ h. then_hoist q (λ a l. h)) (bound_run around under bs p (suc i) n q.used (λ us p' m. g (more_bound xs q.rest us) p' m) same (omega (arith, here)))
      ∙ ap (λ u. then_hoist (rewritten stands mapped u r k) (λ r' l. parts_then around (suc i) (bound_members bs ++ p ∷ []) l (λ ps m. g (more_bound xs r' (bound (fill_bound bs ps))) (next (behind_bound bs ps)) m))) (same i low)

  let_run : {B : Type 0} (around : ℕ → List Name) (under ns pre : List Name) (ds : NamedTrees) (e : Tree) (i k : ℕ) (g : NamedTrees → Tree → ℕ → Hoisted B)
      → ((j : ℕ) → around j ≡ below (take j ns) under) → ns ≡ pre ++ names_of ds → i ≡ length pre
      → then_hoist (rewritten_let stands mapped (below pre under) ds k) (λ us l. then_hoist (rewritten stands mapped (below (names_of ds) (below pre under)) e l) (λ e' m. g us e' m))
      ≡ parts_then around i (named_members ds ++ e ∷ []) k (λ ps l. g (named (fill_named ds ps)) (next (behind_named ds ps)) l)
  let_run around under ns pre no_named e i k g is split at' =
      ap (λ u. then_hoist (rewritten stands mapped u e k) (λ e' m. g no_named e' m)) (around_at around under ns pre [] i is split at')
  let_run around under ns pre (more_named x t ds) e i k g is split at' =
      let q = rewritten stands mapped (below pre under) t k in
      let inner = below pre under in
      let more = let_run around under ns (pre ++ x ∷ []) ds e (suc i) q.used (λ us e' m. g (more_named x q.rest us) e' m) is (split ∙ sym (append_assoc pre (x ∷ []) (names_of ds))) (one_longer i pre x at') in
      nest_2 q (λ a l. rewritten_let stands mapped (x ∷ inner) ds l) (more_named x) (λ us l. then_hoist (rewritten stands mapped (below (names_of ds) (x ∷ inner)) e l) (λ e' m. g us e' m))
      ∙ ap (λ u. then_hoist q (λ a l. then_hoist (rewritten_let stands mapped u ds l) (λ us m. then_hoist (rewritten stands mapped (below (names_of ds) u) e m) (λ e' o. g (more_named x a us) e' o)))) (sym (below_more pre x under))
      ∙ ap (λ h. then_hoist q (λ a l. h)) more
      ∙ ap (λ u. then_hoist (rewritten stands mapped u t k) (λ t' l. parts_then around (suc i) (named_members ds ++ e ∷ []) l (λ ps m. g (more_named x t' (named (fill_named ds ps))) (next (behind_named ds ps)) m))) (around_at around under ns pre (x ∷ names_of ds) i is split at')

  at_body_is : (ns under : List Name) (m : ℕ) → below ns under ≡ below (take (at_body m (length ns) m) ns) under
  at_body_is ns under m = sym ((λ z. below (take (if not_below m z then 0 else length ns) ns) under) ∙ ap (λ l. below l under) (take-length ns))

  body_run : {B : Type 0} (under : List Name) (bs : BoundTrees) (p : Tree) (k : ℕ) (g : BoundTrees → Tree → ℕ → Hoisted B)
      → then_hoist (rewritten_bound stands mapped under bs k) (λ us l. then_hoist (rewritten stands mapped (below (names_bound bs) under) p l) (λ p' m. g us p' m))
      ≡ parts_then (λ i. below (take (at_body (count_bound bs) (length (names_bound bs)) i) (names_bound bs)) under) 0 (bound_members bs ++ p ∷ []) k (λ ps l. g (bound (fill_bound bs ps)) (next (behind_bound bs ps)) l)
  body_run under bs p k g =
      let ns = names_bound bs in
      let n = count_bound bs in
      ap (λ u. then_hoist (rewritten_bound stands mapped under bs k) (λ us l. then_hoist (rewritten stands mapped u p l) (λ p' m. g us p' m))) (at_body_is ns under n)
      ∙ bound_run (λ i. below (take (at_body n (length ns) i) ns) under) under bs p 0 n k g
      (λ j low. sym (λ z. below (take (if is_below j n low z then 0 else length ns) ns) under)) (omega arith)

  walked : (under : List Name) (t : Tree) (k : ℕ) → rewritten stands mapped under t k ≡ parts_then (under_at t (names_by t) under) 0 (operands t) k (finished stands mapped under t)
  walked under (name x) k = refl
  walked under (primed x) k = refl
  walked under (number z) k = refl
  walked under (text s) k = refl
  walked under (truth b) k = refl
  walked under at k = refl
  walked under (word w) k = refl
  walked under (unary o a) k = refl
  walked under (binary o a b) k = refl
  walked under (product ts) k = trees_run under ts k (λ us l. pure l (product us)) ∙ all_is under 0 (members ts) k (finished stands mapped under (product ts))
  walked under (cond_of p a b) k = refl
  walked under (case_of gs) k = arms_run under gs k (λ us l. pure l (case_of us)) ∙ all_is under 0 (arm_members gs) k (finished stands mapped under (case_of gs))
  walked under (case_other gs e) k =
      arms_front under gs (e ∷ []) k (λ us ps l. pure l (case_other us (next ps))) ∙ all_is under 0 (arm_members gs ++ e ∷ []) k (finished stands mapped under (case_other gs e))
  walked under (let_in ds e) k = let_run (under_at (let_in ds e) (names_of ds) under) under (names_of ds) [] ds e 0 k (λ us e' l. pure l (let_in us e')) (λ j. refl) refl refl
  walked under (quantified q bs p) k = body_run under bs p k (λ us p' l. pure l (quantified q us p'))
  walked under (choose x r p) k = refl
  walked under (tuple ts) k = trees_run under ts k (λ us l. pure l (tuple us)) ∙ all_is under 0 (members ts) k (finished stands mapped under (tuple ts))
  walked under (set_of ts) k = trees_run under ts k (λ us l. pure l (set_of us)) ∙ all_is under 0 (members ts) k (finished stands mapped under (set_of ts))
  walked under (filter_of x r p) k = refl
  walked under (image e x r) k = refl
  walked under (fun_of bs e) k = body_run under bs e k (λ us e' l. pure l (fun_of us e'))
  walked under (fun_set a b) k = refl
  walked under (record_of ds) k = fields_run under ds k (λ us l. pure l (record_of us)) ∙ all_is under 0 (named_members ds) k (finished stands mapped under (record_of ds))
  walked under (record_set ds) k = fields_run under ds k (λ us l. pure l (record_set us)) ∙ all_is under 0 (named_members ds) k (finished stands mapped under (record_set ds))
  walked under (except f us) k =
      let p = rewritten stands mapped under f k in
      ap (λ h. then_hoist p (λ a l. h)) (paths_run under us p.used (λ vs l. pure l (except p.rest vs)))
      ∙ all_is under 0 (f ∷ path_members us) k (finished stands mapped under (except f us))
  walked under (index f ts) k =
      let p = rewritten stands mapped under f k in
      ap (λ h. then_hoist p (λ a l. h)) (trees_run under ts p.used (λ us l. on (pure l (index p.rest us)) (element_of mapped under f) (λ m. read_element m (index_tree us) l)))
      ∙ all_is under 0 (f ∷ members ts) k (finished stands mapped under (index f ts))
  walked under (field r x) k = refl
  walked under (call x ts) k = trees_run under ts k (λ us l. pure l (call x us)) ∙ all_is under 0 (members ts) k (finished stands mapped under (call x ts))
  walked under (unchanged xs) k = refl

  -- the operands rewritten, and then what is made of them
  pub all_walked : (under ns : List Name) (t : Tree) (ls : List Tree) (k : ℕ) → ns ≡ names_by t → ls ≡ operands t
      → rewritten stands mapped under t k ≡ then_hoist (parts stands mapped (under_at t ns under) 0 ls k) (finished stands mapped under t)
  all_walked under ns t ls k e h =
      walked under t k ∙ parts_bind (under_at t (names_by t) under) 0 (operands t) k (finished stands mapped under t)
      ∙ sym (λ i. then_hoist (parts stands mapped (under_at t (e i) under) 0 (h i) k) (finished stands mapped under t))

  -- the same, field by field, where the operands became ps and u places are in use then
  pub walked_rest : (under ns : List Name) (t : Tree) (ls : List Tree) (k : ℕ) (ps : List Tree) (u : ℕ) → ns ≡ names_by t → ls ≡ operands t
      → ps ≡ (parts stands mapped (under_at t ns under) 0 ls k).rest → u ≡ (parts stands mapped (under_at t ns under) 0 ls k).used
      → (finished stands mapped under t ps u).rest ≡ (rewritten stands mapped under t k).rest
  walked_rest under ns t ls k ps u e h r n = (λ i. (finished stands mapped under t (r i) (n i)).rest) ∙ sym (ap (λ w. w.rest) (all_walked under ns t ls k e h))

  pub walked_used : (under ns : List Name) (t : Tree) (ls : List Tree) (k : ℕ) (ps : List Tree) (u : ℕ) → ns ≡ names_by t → ls ≡ operands t
      → ps ≡ (parts stands mapped (under_at t ns under) 0 ls k).rest → u ≡ (parts stands mapped (under_at t ns under) 0 ls k).used
      → (finished stands mapped under t ps u).used ≡ (rewritten stands mapped under t k).used
  walked_used under ns t ls k ps u e h r n = (λ i. (finished stands mapped under t (r i) (n i)).used) ∙ sym (ap (λ w. w.used) (all_walked under ns t ls k e h))

  pub walked_reads : (under ns : List Name) (t : Tree) (ls : List Tree) (k : ℕ) (ps : List Tree) (u : ℕ) (before between : List MappedRead) → ns ≡ names_by t → ls ≡ operands t
      → ps ≡ (parts stands mapped (under_at t ns under) 0 ls k).rest → u ≡ (parts stands mapped (under_at t ns under) 0 ls k).used
      → between ≡ before ++ (parts stands mapped (under_at t ns under) 0 ls k).reads
      → between ++ (finished stands mapped under t ps u).reads ≡ before ++ (rewritten stands mapped under t k).reads
  walked_reads under ns t ls k ps u before between e h r n b =
      let p = parts stands mapped (under_at t ns under) 0 ls k in
      (λ i. b i ++ (finished stands mapped under t (r i) (n i)).reads)
      ∙ append_assoc before p.reads (finished stands mapped under t p.rest p.used).reads
      ∙ sym (ap (λ w. before ++ w.reads) (all_walked under ns t ls k e h))
