-- An expansion has at least the nodes that `least` counts.
use Rattle.std.proofs.Common.{◌≡◌, ◌≤◌, ℕ, suc, ◌+◌, Bool, true, false, ◌||◌, ◌&&◌, if◌then◌else◌, List, [], ◌∷◌, Option, refl, inl, inr, arith}
use Rattle.std.specs.Prelude.{◌⊎◌}
use Rattle.std.proofs.lemmas.Bool.{and_parts}
use Rattle.pgo_base.specs.Lookup.{Name, find}
use Rattle.pgo_base.specs.Tree.{Tree, name}
use Rattle.pgo_model.specs.Written.{made}
use Rattle.pgo_sections.specs.Code.{Place, Whole, variable_of, Code, Empty, Skip, Let, Pick, Become, Set, Await, Assert, Print, If, Either, Seq, Goto, Yield, Read, Write, Codes, no_codes, more_codes, content_name, content_places, old_base, val_base, new_base}
use Rattle.pgo_sections.specs.Context.{is_assigned}
use Rattle.pgo_sections.specs.Expand.{Renames, Current, OnGo, OnJump, OnYield, no_go, no_jump, expand, expand_arms, current, current_tree, becoming, put_back, left_behind, content_now, value_handed}
use Rattle.pgo_sections.specs.Expansion.{With}
use Rattle.pgo_sections.specs.Nodes.{nodes, arms_total}
use Rattle.pgo_put_sizes.specs.Least.{passes, one_passes, yields, one_yields, least}
use Rattle.pgo_put_sizes.proofs.Replaced.{current_nodes}

pub either_is : (a b : Bool) → a || b ≡ true → (a ≡ true) ⊎ (b ≡ true)
either_is true b h = inl refl
either_is false b h = inr h

never : {A : Type 0} → false ≡ true → A
never e = absurd (cc)

one_of : {P Q : Type 0} {R : Type 0} → P ⊎ Q → (P → R) → (Q → R) → R
one_of (inl p) f g = f p
one_of (inr q) f g = g q

-- what is at most one of two numbers is at most both together
in_one : {P Q : Type 0} {m a b : ℕ} → P ⊎ Q → (P → m ≤ a) → (Q → m ≤ b) → m ≤ a + b
in_one (inl p) f g = let h = f p in omega (arith, h)
in_one (inr q) f g = let h = g q in omega (arith, h)

-- at least m nodes, whatever the current values and the names that are bound
abbrev AtLeast : ℕ → OnGo → Type 0
AtLeast m k = (cur : Current) (n : ℕ) → m ≤ nodes (k cur n)

abbrev AtLeastYielded : ℕ → OnYield → Type 0
AtLeastYielded m y = (e : Tree) (cur : Current) (n : ℕ) → m ≤ nodes (y e cur n)

put_back_law : (m : ℕ) (ren : Renames) (cur : Current) (g : Name) (i : Option Name) (e : Tree) (n : ℕ) (k : OnGo) → AtLeast m k → m ≤ nodes (put_back ren cur g i e n k)
put_back_law m ren cur g i e n k h = omega (arith, h ((g, made g (suc n)) ∷ cur) (suc n))

left_behind_law : (b : Bool) (m : ℕ) (ren : Renames) (cur : Current) (g : Name) (i : Option Name) (e : Tree) (n : ℕ) (k : OnGo) → AtLeast m k → m ≤ nodes (left_behind b ren cur g i e n k)
left_behind_law false m ren cur g i e n k h = h cur n
left_behind_law true m ren cur g i e n k h = put_back_law m ren cur g i e n k h

-- what a read's yield leads to
abbrev after_read : (ps : List (Name × Place)) (w g : Name) (i : Option Name) (c : Code) (ren : Renames) (cur : Current) (k : OnGo) (j : OnJump) (y : OnYield) → OnYield
after_read ps w g i c ren cur k j y e' mem n' =
    With (made val_base (suc n')) e'
    (left_behind (is_assigned mem) ren cur g i (current mem (Whole content_name)) (suc n') (λ cur' n''.
    expand ps c ((w, made val_base (suc n')) ∷ ren) cur' n'' k j y))

after_read_law : (m : ℕ) (ps : List (Name × Place)) (w g : Name) (i : Option Name) (c : Code) (ren : Renames) (cur : Current) (k : OnGo) (j : OnJump) (y : OnYield)
    → ((ren' : Renames) (cur' : Current) (n' : ℕ) → m ≤ nodes (expand ps c ren' cur' n' k j y)) → AtLeastYielded m (after_read ps w g i c ren cur k j y)
after_read_law m ps w g i c ren cur k j y h e mem n' =
    omega (
      arith,
      left_behind_law (is_assigned mem) m ren cur g i (current mem (Whole content_name)) (suc n') (λ cur' n''. expand ps c ((w, made val_base (suc n')) ∷ ren) cur' n'' k j y)
          (λ cur' n''. h ((w, made val_base (suc n')) ∷ ren) cur' n''),
    )

-- what a write's yield leads to
abbrev after_write : (g : Name) (i : Option Name) (ren : Renames) (cur : Current) (k : OnGo) → OnYield
after_write g i ren cur k e' mem n' = With (made new_base (suc n')) e' (put_back ren cur g i (name (made new_base (suc n'))) (suc n') k)

after_write_law : (m : ℕ) (g : Name) (i : Option Name) (ren : Renames) (cur : Current) (k : OnGo) → AtLeast m k → AtLeastYielded m (after_write g i ren cur k)
after_write_law m g i ren cur k h e mem n' = omega (arith, put_back_law m ren cur g i (name (made new_base (suc n'))) (suc n') k h)

mutual
  -- what some path through the code leads to has its nodes
  pub passes_law : (c : Code) (m : ℕ) (ps : List (Name × Place)) (ren : Renames) (cur : Current) (n : ℕ) (k : OnGo) (j : OnJump) (y : OnYield)
      → passes c ≡ true → AtLeast m k → m ≤ nodes (expand ps c ren cur n k j y)
  passes_law Empty m ps ren cur n k j y p h = h cur n
  passes_law Skip m ps ren cur n k j y p h = omega (arith, h cur n)
  passes_law (Let b w e c) m ps ren cur n k j y p h = omega (arith, passes_law c m ps ((w, made b (suc n)) ∷ ren) cur (suc n) k j y p h)
  passes_law (Pick b w e c) m ps ren cur n k j y p h = omega (arith, passes_law c m ps ((w, made b (suc n)) ∷ ren) cur (suc n) k j y p h)
  passes_law (Become q w) m ps ren cur n k j y p h = h (becoming q (find w ren) cur) n
  passes_law (Set b q e) m ps ren cur n k j y p h = omega (arith, h ((variable_of q, made b (suc n)) ∷ cur) (suc n))
  passes_law (Await e) m ps ren cur n k j y p h = omega (arith, h cur n)
  passes_law (Assert e) m ps ren cur n k j y p h = omega (arith, h cur n)
  passes_law (Print e) m ps ren cur n k j y p h = omega (arith, h cur n)
  passes_law (If e c d) m ps ren cur n k j y p h =
      omega (arith, in_one (either_is (passes c) (passes d) p) (λ q. passes_law c m ps ren cur n k j y q h) (λ q. passes_law d m ps ren cur n k j y q h))
  passes_law (Either cs) m ps ren cur n k j y p h = omega (arith, one_passes_law cs m ps ren cur n k j y p h)
  passes_law (Seq c d) m ps ren cur n k j y p h =
      let q = and_parts (passes c) (passes d) p in
      passes_law c m ps ren cur n (λ cur' n'. expand ps d ren cur' n' k j y) j y q.0 (λ cur' n'. passes_law d m ps ren cur' n' k j y q.1 h)
  passes_law (Goto l) m ps ren cur n k j y p h = never p
  passes_law (Yield e) m ps ren cur n k j y p h = never p
  passes_law (Read w g i block c) m ps ren cur n k j y p h =
      let q = and_parts (yields block) (passes c) p in
      omega (
        arith,
        yields_law block m content_places [] (content_now (made old_base (suc n))) (suc n) no_go no_jump (after_read ps w g i c ren cur k j y) q.0
            (λ e mem n'. after_read_law m ps w g i c ren cur k j y (λ ren' cur' n''. passes_law c m ps ren' cur' n'' k j y q.1 h) e mem n'),
      )
  passes_law (Write g i w block) m ps ren cur n k j y p h =
      omega (arith, yields_law block m content_places (value_handed (find w ren)) (content_now (made old_base (suc n))) (suc n) no_go no_jump (after_write g i ren cur k) p (λ e mem n'. after_write_law m g i ren cur k h e mem n'))

  pub one_passes_law : (cs : Codes) (m : ℕ) (ps : List (Name × Place)) (ren : Renames) (cur : Current) (n : ℕ) (k : OnGo) (j : OnJump) (y : OnYield)
      → one_passes cs ≡ true → AtLeast m k → m ≤ arms_total (expand_arms ps cs ren cur n k j y)
  one_passes_law no_codes m ps ren cur n k j y p h = never p
  one_passes_law (more_codes c cs) m ps ren cur n k j y p h =
      omega (arith, in_one (either_is (passes c) (one_passes cs) p) (λ q. passes_law c m ps ren cur n k j y q h) (λ q. one_passes_law cs m ps ren cur n k j y q h))

  -- and so has what some path's yield leads to
  pub yields_law : (c : Code) (m : ℕ) (ps : List (Name × Place)) (ren : Renames) (cur : Current) (n : ℕ) (k : OnGo) (j : OnJump) (y : OnYield)
      → yields c ≡ true → AtLeastYielded m y → m ≤ nodes (expand ps c ren cur n k j y)
  yields_law Empty m ps ren cur n k j y p h = never p
  yields_law Skip m ps ren cur n k j y p h = never p
  yields_law (Let b w e c) m ps ren cur n k j y p h = omega (arith, yields_law c m ps ((w, made b (suc n)) ∷ ren) cur (suc n) k j y p h)
  yields_law (Pick b w e c) m ps ren cur n k j y p h = omega (arith, yields_law c m ps ((w, made b (suc n)) ∷ ren) cur (suc n) k j y p h)
  yields_law (Become q w) m ps ren cur n k j y p h = never p
  yields_law (Set b q e) m ps ren cur n k j y p h = never p
  yields_law (Await e) m ps ren cur n k j y p h = never p
  yields_law (Assert e) m ps ren cur n k j y p h = never p
  yields_law (Print e) m ps ren cur n k j y p h = never p
  yields_law (If e c d) m ps ren cur n k j y p h =
      omega (arith, in_one (either_is (yields c) (yields d) p) (λ q. yields_law c m ps ren cur n k j y q h) (λ q. yields_law d m ps ren cur n k j y q h))
  yields_law (Either cs) m ps ren cur n k j y p h = omega (arith, one_yields_law cs m ps ren cur n k j y p h)
  yields_law (Seq c d) m ps ren cur n k j y p h =
      one_of
      (either_is (yields c) (passes c && yields d) p)
      (λ q. yields_law c m ps ren cur n (λ cur' n'. expand ps d ren cur' n' k j y) j y q h)
      (λ q. passes_law c m ps ren cur n (λ cur' n'. expand ps d ren cur' n' k j y) j y (and_parts (passes c) (yields d) q).0 (λ cur' n'. yields_law d m ps ren cur' n' k j y (and_parts (passes c) (yields d) q).1 h))
  yields_law (Goto l) m ps ren cur n k j y p h = never p
  yields_law (Yield e) m ps ren cur n k j y p h = h (current_tree ps ren cur e) cur n
  yields_law (Read w g i block c) m ps ren cur n k j y p h =
      let q = and_parts (yields block) (yields c) p in
      omega (
        arith,
        yields_law block m content_places [] (content_now (made old_base (suc n))) (suc n) no_go no_jump (after_read ps w g i c ren cur k j y) q.0
            (λ e mem n'. after_read_law m ps w g i c ren cur k j y (λ ren' cur' n''. yields_law c m ps ren' cur' n'' k j y q.1 h) e mem n'),
      )
  yields_law (Write g i w block) m ps ren cur n k j y p h = never p

  pub one_yields_law : (cs : Codes) (m : ℕ) (ps : List (Name × Place)) (ren : Renames) (cur : Current) (n : ℕ) (k : OnGo) (j : OnJump) (y : OnYield)
      → one_yields cs ≡ true → AtLeastYielded m y → m ≤ arms_total (expand_arms ps cs ren cur n k j y)
  one_yields_law no_codes m ps ren cur n k j y p h = never p
  one_yields_law (more_codes c cs) m ps ren cur n k j y p h =
      omega (arith, in_one (either_is (yields c) (one_yields cs) p) (λ q. yields_law c m ps ren cur n k j y q h) (λ q. one_yields_law cs m ps ren cur n k j y q h))

-- what stands behind a read has its nodes, where its block yields
pub read_law : (m : ℕ) (ps : List (Name × Place)) (block : Code) (w g : Name) (i : Option Name) (c : Code) (ren : Renames) (cur : Current) (n : ℕ) (k : OnGo) (j : OnJump) (y : OnYield)
    → yields block ≡ true → ((ren' : Renames) (cur' : Current) (n' : ℕ) → m ≤ nodes (expand ps c ren' cur' n' k j y))
    → m ≤ nodes (expand ps (Read w g i block c) ren cur n k j y)
read_law m ps block w g i c ren cur n k j y p h =
    omega (arith, yields_law block m content_places [] (content_now (made old_base (suc n))) (suc n) no_go no_jump (after_read ps w g i c ren cur k j y) p (λ e mem n'. after_read_law m ps w g i c ren cur k j y h e mem n'))

-- each expansion of the code has at least the nodes of what comes first
pub least_law : (c : Code) (ps : List (Name × Place)) (ren : Renames) (cur : Current) (n : ℕ) (k : OnGo) (j : OnJump) (y : OnYield)
    → least c ≤ nodes (expand ps c ren cur n k j y)
least_law Empty ps ren cur n k j y = omega arith
least_law Skip ps ren cur n k j y = omega arith
least_law (Let b w e c) ps ren cur n k j y = omega (arith, current_nodes ps ren cur e, least_law c ps ((w, made b (suc n)) ∷ ren) cur (suc n) k j y)
least_law (Pick b w e c) ps ren cur n k j y = omega (arith, current_nodes ps ren cur e, least_law c ps ((w, made b (suc n)) ∷ ren) cur (suc n) k j y)
least_law (Become q w) ps ren cur n k j y = omega arith
least_law (Set b q e) ps ren cur n k j y = omega (arith, current_nodes ps ren cur e)
least_law (Await e) ps ren cur n k j y = omega (arith, current_nodes ps ren cur e)
least_law (Assert e) ps ren cur n k j y = omega (arith, current_nodes ps ren cur e)
least_law (Print e) ps ren cur n k j y = omega (arith, current_nodes ps ren cur e)
least_law (If e c d) ps ren cur n k j y = omega (arith, current_nodes ps ren cur e)
least_law (Either cs) ps ren cur n k j y = omega arith
least_law (Seq c d) ps ren cur n k j y = least_law c ps ren cur n (λ cur' n'. expand ps d ren cur' n' k j y) j y
least_law (Goto l) ps ren cur n k j y = omega arith
least_law (Yield e) ps ren cur n k j y = omega arith
least_law (Read w g i block c) ps ren cur n k j y = go (yields block) refl (λ ren' cur' n'. least_law c ps ren' cur' n' k j y)
  where
    go : (b : Bool) → yields block ≡ b → ((ren' : Renames) (cur' : Current) (n' : ℕ) → least c ≤ nodes (expand ps c ren' cur' n' k j y)) → (if b then least c else 0) ≤ nodes (expand ps (Read w g i block c) ren cur n k j y)
    go true p h = read_law (least c) ps block w g i c ren cur n k j y p h
    go false p h = omega arith
least_law (Write g i w block) ps ren cur n k j y = omega arith
