-- What nobody holds has the value of its component in the last state.
use Rattle.std.proofs.Common.{◌≡◌, ◌≤◌, ◌<◌, ℕ, zero, suc, Bool, true, false, List, [], ◌∷◌, length, map, Some, None, refl, sym, ap, ◌∙◌, subst, arith, lt-ltb}
use Rattle.std.proofs.lemmas.Bool.{ltb-true, and_parts}
use Rattle.std.proofs.lemmas.List.{length-map}
use Rattle.std.specs.Prelude.{◌-◌, if◌then◌else◌, nat_eq, nat_le, nat_lt}
use Rattle.pgo_base.specs.Lookup.{Vars}
use Rattle.pgo_model.specs.Core.{Settings, Reaches, rules_of}
use Rattle.pgo_model.specs.Log.{Effect}
use Rattle.pgo_model.specs.Machine.{Entry, Machine, among, last_state, state_at}
use Rattle.pgo_model.specs.System.{System, Member}
use Rattle.pgo_workers.specs.CoreTurns.{IsCore}
use Rattle.pgo_workers.specs.View.{along, resources_of}
use Rattle.pgo_workers.specs.Worker as spec
use Rattle.pgo_workers.specs.Worlds.{layout_of, value_in, world_of}
use Rattle.pgo_resource.specs.PlainRows.{taken_of}
use Rattle.pgo_resource.specs.PlainSets.{among_there}
use Rattle.pgo_section.specs.Programs.{Trees, IsGood, program_of}
use Rattle.pgo_core.specs.AllViews.{AllViews, HasValue, IsBoard}
use Rattle.pgo_core.specs.Claims.{claimed, taken_in, taken_by, are_within}
use Rattle.pgo_core.specs.ClaimLaws.{among_made}
use Rattle.pgo_core.specs.Cores.{CoreFits}
use Rattle.pgo_core.specs.declared.claims.Claim.{Claim}

-- what no instance holds, nobody holds
pub not_claimed : (r : ℕ) (cs : List Claim) → ((i : ℕ) → among r (taken_of (taken_by i cs)) ≡ false) → among r (claimed cs) ≡ false
not_claimed r [] none = refl
not_claimed r (c ∷ cs) none = among_made r c.resource (claimed cs) (here (nat_eq c.holder c.holder) (let e : nat_eq c.holder c.holder ≡ true = grind arith in e) (none c.holder)) (not_claimed r cs (λ i. behind i (nat_eq c.holder i) (none i)))
  where
    here : (b : Bool) → b ≡ true → among r (taken_of (if b then taken_in c ∷ taken_by c.holder cs else taken_by c.holder cs)) ≡ false → nat_eq c.resource r ≡ false
    here true e h = (among_there r c.resource (taken_of (taken_by c.holder cs)) h).0
    here false e h = absurd (grind (arith, e))

    behind : (i : ℕ) (b : Bool) → among r (taken_of (if b then taken_in c ∷ taken_by i cs else taken_by i cs)) ≡ false → among r (taken_of (taken_by i cs)) ≡ false
    behind i true h = (among_there r c.resource (taken_of (taken_by i cs)) h).1
    behind i false h = h

-- who holds something is within
pub holder_within : (m j r : ℕ) (cs : List Claim) → are_within m cs ≡ true → among r (taken_of (taken_by j cs)) ≡ true → j ≤ m
holder_within m j r [] h a = absurd (grind (arith, a))
holder_within m j r (c ∷ cs) h a = let p = and_parts (nat_le c.holder m) (are_within m cs) h in go (nat_eq c.holder j) refl p.0 a (holder_within m j r cs p.1)
  where
    go : (b : Bool) → nat_eq c.holder j ≡ b → nat_le c.holder m ≡ true → among r (taken_of (if b then taken_in c ∷ taken_by j cs else taken_by j cs)) ≡ true → (among r (taken_of (taken_by j cs)) ≡ true → j ≤ m) → j ≤ m
    go true e w a ih = grind (arith, e, w)
    go false e w a ih = ih a

module _ (y : System) (settings : Settings) where
  state_along : (s : Vars) (es : List (Entry Effect)) (n : ℕ) → along (world_of (layout_of y)).patched s es n ≡ state_at (rules_of y settings) s es n
  state_along s es zero = refl
  state_along s [] (suc n) = refl
  state_along s (e ∷ es) (suc n) = state_along ((world_of (layout_of y)).patched s e.change) es n

  below : (a b j k : ℕ) → a ≡ b → k < b → j ≤ a - 1 → j < b
  below a b j k e h w = omega (arith, e, h, w)

  module _ (tree : Trees) (fits : CoreFits y tree settings) (m : Machine Effect) (ws : ℕ → spec.Worker) (s : AllViews Effect) (core : IsCore (world_of (layout_of y)) (program_of y tree settings) (Reaches y) (IsGood y) fits.runs fits.differs m ws s.view)
      (board : IsBoard (world_of (layout_of y)) s) (k : ℕ) (there : nat_lt k (length y.members) ≡ true) where
    not_held : (r : ℕ) → m.holder r ≡ None → (j : ℕ) → among r (resources_of (s.view j).held) ≡ false
    not_held r none j = go (among r (resources_of (s.view j).held)) refl
      where
        go : (b : Bool) → among r (resources_of (s.view j).held) ≡ b → b ≡ false
        go false e = refl
        go true e =
            let less = below (length (map (λ (i : Member). i.id) y.members)) (length y.members) j k (length-map y.members _) (ltb-true k (length y.members) there) (board.holders j r e) in
            let inside = lt-ltb j (length y.members) less in
            let held = (core.stands j inside).mine r (ap (among r) (core.meets j inside).taken ∙ e) in
            absurd (let z : None ≡ Some j = sym none ∙ held in grind (arith, z))

    pub free_values : (r : ℕ) → nat_lt r (length y.resources) ≡ true → m.holder r ≡ None → HasValue (s.content r) (value_in (layout_of y) (last_state (rules_of y settings) m) r)
    free_values r is none =
        subst (λ v. HasValue (s.content r) (value_in (layout_of y) v r))
        (state_along y.start (s.view k).entries (length (s.view k).entries) ∙ ap (λ es. state_at (rules_of y settings) y.start es (length es)) (core.stands k there).entries)
        (board.free r is (not_held r none) k)
