-- The expansions of an archetype's labels have together what is counted of its statements.
use Rattle.std.proofs.Common.{◌≡◌, ◌≤◌, ℕ, ◌+◌, List, [], ◌∷◌, ◌++◌, Some, None, arith}
use Rattle.pgo_base.specs.Lookup.{Name}
use Rattle.pgo_meaning.specs.Labels.{within, within_branches, within_arms, within_order}
use Rattle.pgo_meaning.specs.MacrosPlaced.{Bodies, bodies, placed, placed_each, placed_among, placed_guarded}
use Rattle.pgo_meaning.specs.Parameters.{all_mapped, places_of}
use Rattle.pgo_meaning.specs.Sections.{sections_of}
use Rattle.pgo_meaning.specs.Statements.{Setting, label_of, in_order}
use Rattle.pgo_model.specs.Written.{done}
use Rattle.pgo_sections.specs.Access.{MappedNames}
use Rattle.pgo_sections.specs.Code.{Place, Code, Seq, Goto}
use Rattle.pgo_sections.specs.Expand.{Renames, Current, OnGo, OnJump, OnYield, no_go, to_end, no_yield, expand, expansion}
use Rattle.pgo_sections.specs.Nodes.{nodes}
use Rattle.pgo_syntax.specs.Statement.{Statement, skip, assign, if_then, if_else, while_do, either_of as either, await_that, with_in, print_out, assert_that, go_to, call_macro, yield_as, block, Statements, no_statements, more_statements, LabeledStatements, no_labeled, more_labeled, GuardedStatements, no_guarded, more_guarded, labeled}
use Rattle.pgo_syntax.specs.declared.archetype.Archetype.{Archetype}
use Rattle.pgo_syntax.specs.declared.bound.Binding.{Binding}
use Rattle.pgo_syntax.specs.declared.macros.Macro.{Macro}
use Rattle.pgo_least_nodes.specs.Counts.{none, step, jump, plain, both, then', Table, counts, arms_counts, branches_counts, row_counts, macro_counts, least_nodes}
use Rattle.pgo_least_nodes.specs.declared.count.Count.{Count}
use Rattle.pgo_least_nodes.specs.declared.count.Counts.{Counts}
use Rattle.pgo_least_nodes.proofs.Numbers.{with_behind, then_count, both_count, above}
use Rattle.pgo_least_nodes.proofs.Paths.{Has, some_node}
use Rattle.pgo_least_nodes.proofs.CodeLaws.{process_setting, ReadsYield, WritesYield, MacrosHave, code_has, row_has, macros_have}

-- the nodes of sections' expansions
abbrev pub section_nodes : List Name → List (Name × Place) → List (Name × Code) → ℕ
section_nodes vs ps [] = 0
section_nodes vs ps (c ∷ cs) = nodes (expansion vs ps c.1) + section_nodes vs ps cs

append_nodes : (vs : List Name) (ps : List (Name × Place)) (cs ds : List (Name × Code)) → section_nodes vs ps (cs ++ ds) ≡ section_nodes vs ps cs + section_nodes vs ps ds
append_nodes vs ps [] ds = omega arith
append_nodes vs ps (c ∷ cs) ds = omega (arith, append_nodes vs ps cs ds)

-- this many nodes, whatever follows
abbrev AtLeast : ℕ → Code → Type 0
AtLeast f c = (ps : List (Name × Place)) (ren : Renames) (cur : Current) (n : ℕ) (k : OnGo) (j : OnJump) (y : OnYield) → f ≤ nodes (expand ps c ren cur n k j y)

jump_least : (l : Name) → AtLeast 1 (Goto l)
jump_least l ps ren cur n k j y = some_node (expand ps (Goto l) ren cur n k j y)

behind_least : (w : Count) (c d : Code) (f : ℕ) → Has w c → AtLeast f d → AtLeast (with_behind w f) (Seq c d)
behind_least w c d f h g ps ren cur n k j y = h f ps ren cur n (λ cur' n'. expand ps d ren cur' n' k j y) j y (λ cur' n'. g ps ren cur' n' k j y)

-- a statement behind which comes a jump
ended_count : (a : Count) (f : ℕ) → with_behind (then' a jump) f ≤ with_behind a 1
ended_count a f = let q = then_count a jump f in let r = above a {m = with_behind jump f} {k = 1} (omega arith) in omega (arith, q, r)

-- the labels in a statement of a block, and those behind it
in_row_count : (a b w : Count) (f x y : ℕ) → with_behind a (with_behind w f) ≤ x → with_behind b f ≤ y → with_behind (both (then' a w) b) f ≤ x + y
in_row_count a b w f x y g h = omega (arith, both_count (then' a w) b f, then_count a w f, g, h)

module _ (p : Name) (mapped : MappedNames) (places : List (Name × Place)) (reads : ReadsYield mapped) (writes : WritesYield mapped) (vs : List Name)
    (ts : Table) (ms : Bodies) (ok : MacrosHave p mapped places reads writes ts ms) where
  abbrev s : Setting
  s = process_setting p mapped places

  abbrev total : List (Name × Code) → ℕ
  total cs = section_nodes vs places cs

  -- what is behind a statement of a block has as many
  row_least : (l : Name) (us : LabeledStatements) (c : Code) (f : ℕ) → AtLeast f c → AtLeast (with_behind (row_counts ts us).own f) (Seq (in_order s l (placed_among ms us)) c)
  row_least l us c f h = behind_least (row_counts ts us).own (in_order s l (placed_among ms us)) c f (row_has p mapped places reads writes ts ms ok l [] us) h

  mutual
    within_has : (l : Name) (t : Statement) (c : Code) (f : ℕ) → AtLeast f c → with_behind (counts ts t).labels f ≤ total (within s l (placed ms t) c)
    within_has l (skip q) c f h = omega arith
    within_has l (assign q as') c f h = omega arith
    within_has l (if_then q bs) c f h = omega (arith, branches_have l bs (plain (step 0)) c f h)
    within_has l (if_else q bs t) c f h =
        omega (
          arith,
          branches_have l bs (counts ts t) c f h,
          within_has l t c f h,
          append_nodes vs places (within_branches s l (placed_guarded ms bs) c) (within s l (placed ms t) c),
        )
    within_has l (while_do q e t) c f h =
        omega (
          arith,
          both_count (then' (counts ts t).labels jump) none f,
          ended_count (counts ts t).labels f,
          within_has l t (Goto l) 1 (jump_least l),
        )
    within_has l (either q us) c f h = arms_have l us c f h
    within_has l (await_that q e) c f h = omega arith
    within_has l (with_in q ws t) c f h = within_has l t c f h
    within_has l (print_out q e) c f h = omega arith
    within_has l (assert_that q e) c f h = omega arith
    within_has l (go_to q x) c f h = omega arith
    within_has l (call_macro q x es) c f h = omega arith
    within_has l (yield_as q e) c f h = omega arith
    within_has l (block q us) c f h = order_has l us c f h

    branches_have : (l : Name) (bs : GuardedStatements) (other : Counts) (c : Code) (f : ℕ) → AtLeast f c
        → with_behind (branches_counts ts other bs).labels f ≤ total (within_branches s l (placed_guarded ms bs) c) + with_behind other.labels f
    branches_have l no_guarded other c f h = omega arith
    branches_have l (more_guarded q e t bs) other c f h =
        omega (
          arith,
          both_count (counts ts t).labels (branches_counts ts other bs).labels f,
          within_has l t c f h,
          branches_have l bs other c f h,
          append_nodes vs places (within s l (placed ms t) c) (within_branches s l (placed_guarded ms bs) c),
        )

    arms_have : (l : Name) (us : Statements) (c : Code) (f : ℕ) → AtLeast f c → with_behind (arms_counts ts us).labels f ≤ total (within_arms s l (placed_each ms us) c)
    arms_have l no_statements c f h = omega arith
    arms_have l (more_statements t us) c f h =
        omega (
          arith,
          both_count (counts ts t).labels (arms_counts ts us).labels f,
          within_has l t c f h,
          arms_have l us c f h,
          append_nodes vs places (within s l (placed ms t) c) (within_arms s l (placed_each ms us) c),
        )

    order_has : (l : Name) (us : LabeledStatements) (c : Code) (f : ℕ) → AtLeast f c → with_behind (row_counts ts us).labels f ≤ total (within_order s l (placed_among ms us) c)
    order_has l no_labeled c f h = omega arith
    order_has l (more_labeled None t us) c f h =
        let d = Seq (in_order s l (placed_among ms us)) c in
        omega (
          arith,
          in_row_count (counts ts t).labels (row_counts ts us).labels (row_counts ts us).own f (total (within s l (placed ms t) d)) (total (within_order s l (placed_among ms us) c))
              (within_has l t d (with_behind (row_counts ts us).own f) (row_least l us c f h)) (order_has l us c f h),
          append_nodes vs places (within s l (placed ms t) d) (within_order s l (placed_among ms us) c),
        )
    order_has l (more_labeled (Some x) t us) c f h =
        let d = Seq (in_order s l (placed_among ms us)) c in
        let here = label_of p x.name in
        omega (
          arith,
          both_count (then' (counts ts t).own (row_counts ts us).own) (both (then' (counts ts t).labels (row_counts ts us).own) (row_counts ts us).labels) f,
          then_count (counts ts t).own (row_counts ts us).own f,
          code_has p mapped places reads writes ts ms ok here [] t (with_behind (row_counts ts us).own f) places [] [] 0 (λ cur' n'. expand places d [] cur' n' no_go (to_end vs) no_yield) (to_end vs) no_yield
              (λ cur' n'. row_least l us c f h places [] cur' n' no_go (to_end vs) no_yield),
          in_row_count (counts ts t).labels (row_counts ts us).labels (row_counts ts us).own f (total (within s here (placed ms t) d)) (total (within_order s l (placed_among ms us) c))
              (within_has here t d (with_behind (row_counts ts us).own f) (row_least l us c f h)) (order_has l us c f h),
          append_nodes vs places (within s here (placed ms t) d) (within_order s l (placed_among ms us) c),
        )

-- where each mapped parameter's blocks have a path to a `yield`
pub least_law : (vs : List Name) (ms : List Macro) (p : Name) (a : Archetype) (bs : List Binding) → ReadsYield (all_mapped bs) → WritesYield (all_mapped bs)
    → least_nodes (macro_counts ms) a ≤ section_nodes vs (places_of p a bs) (sections_of ms p a bs)
least_law vs ms p a bs reads writes =
    omega (
      arith,
      order_has p (all_mapped bs) (places_of p a bs) reads writes vs (macro_counts ms) (bodies ms) (macros_have p (all_mapped bs) (places_of p a bs) reads writes ms) [] (labeled a.body) (Goto done) 1 (jump_least done),
      then_count (row_counts (macro_counts ms) (labeled a.body)).labels jump 0,
      above (row_counts (macro_counts ms) (labeled a.body)).labels {m = with_behind jump 0} {k = 1} (omega arith),
    )
