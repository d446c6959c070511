-- Where all contents are put back as they were, worker and board still meet.
use Rattle.std.proofs.Common.{◌≡◌, ℕ, Bool, true, false, List, [], ◌∷◌, ◌++◌, refl, sym, ap, ◌∙◌, subst, arith, ◌⊎◌, inl, inr}
use Rattle.pgo_base.specs.Data.{Data}
use Rattle.pgo_model.specs.Machine.{among}
use Rattle.pgo_workers.specs.Walk.{Walk, Stop, Touch, Again, Along, settled, taken_after, along_settled, within_settled}
use Rattle.pgo_workers.specs.View.{Hold, View, World, EachHold, IsSteady, resources_of, values_of, nows_of, aborted}
use Rattle.pgo_workers.specs.Worker.{Program, Worker, with_held, walks_on, attempt, put_back}
use Rattle.pgo_workers.specs.Sentences.{IsOwn, Under, Sound, Meets, Runs}
use Rattle.pgo_workers.specs.Holds as holds

again_touch : (w : Walk) (r : ℕ) (l : Data → Data) (s : Data → Walk) → Again w ≡ Touch r l s → ⊥
again_touch w r l s q = let x : true ≡ false = ap (λ w. is_again w) q in grind (arith, x)
  where
    is_again : Walk → Bool
    is_again (Stop e) = false
    is_again (Touch r l s) = false
    is_again (Again w) = true

-- what is put back is as it was taken
pub nows_aborted : (hs : List Hold) → EachHold IsSteady hs → nows_of (aborted hs) ≡ values_of hs
nows_aborted [] e = refl
nows_aborted (h ∷ hs) e = (λ i. (h.resource, e.0 i) ∷ nows_aborted hs e.1 i)

module _ {S D : Type 0} (W : World S D) (P : Program S D) (Reaches : ℕ → ℕ → Type 0) (Good : S → Type 0) (runs : Runs W P Reaches Good) where
  pub under_back_at : (w : Worker) (b : View D) (x : Walk) → EachHold IsSteady b.held → (u : Under W P Reaches Good (walks_on x 0 w) b x 0)
      → (v : Under W P Reaches Good (walks_on (settled x) 0 w) (with_held (put_back x b.held) b) (settled x) 0) × (v.accesses ≡ u.accesses)
  under_back_at w b (Stop e) steady u = (u, refl)
  under_back_at w b (Touch r leave rest) steady u = (u, refl)
  under_back_at w b (Again x) steady u = (
    record {
      accesses = u.accesses;
      along = subst (λ vs. Along (P.tree w.number (attempt w) w.own) vs u.accesses (settled x) (nows_of (aborted b.held))) (sym (holds.values_aborted b.held))
          (subst (Along (P.tree w.number (attempt w) w.own) (values_of b.held) u.accesses (settled x)) (sym (nows_aborted b.held steady))
          (along_settled (P.tree w.number (attempt w) w.own) (Again x) (values_of b.held) (nows_of b.held) u.accesses u.along));
      holds = inl (go u.holds ∙ sym (holds.resources_aborted b.held));
      within = within_settled (Reaches w.number) (IsOwn W w.number) x u.within;
      may = u.may;
      not_done = u.not_done;
      readied_below = u.readied_below;
      readied_at = inl refl;
    },
    refl,
  )
    where
      go : (taken_after u.accesses [] ≡ resources_of b.held) ⊎ ((q : ℕ) × (leave : Data → Data) × (rest : Data → Walk) × (Again x ≡ Touch q leave rest) × (taken_after u.accesses [] ++ (q ∷ []) ≡ resources_of b.held) × (among q u.accesses ≡ false)) → taken_after u.accesses [] ≡ resources_of b.held
      go (inl e) = e
      go (inr q) = absurd (again_touch x q.0 q.1 q.2 q.3)

  pub steady_of : (hs : List Hold) → EachHold (Sound W P Reaches Good) hs → EachHold IsSteady hs
  steady_of hs s = holds.each_map (Sound W P Reaches Good) IsSteady hs (λ h s. s.0) s

  pub meets_back : (w : Worker) (b : View D) (x : Walk) → Meets W P Reaches Good (walks_on x 0 w) b → Meets W P Reaches Good (walks_on (settled x) 0 w) (with_held (put_back x b.held) b)
  meets_back w b (Stop e) m = m
  meets_back w b (Touch r leave rest) m = m
  meets_back w b (Again x) m = record {
    number = m.number;
    instance = m.instance;
    steps = m.steps;
    share = m.share;
    taken = m.taken ∙ sym (holds.resources_aborted b.held);
    once = m.once;
    sound = holds.each_aborted (Sound W P Reaches Good) (Sound W P Reaches Good) b.held (λ h s. s) m.sound;
    own = m.own;
    own_then = m.own_then;
    accounts = m.accounts;
    place = (under_back_at w b (Again x) (steady_of b.held m.sound) m.place).0;
    lists = λ t told.
        let l = m.lists t told in
        record {
          refused = l.refused;
          passed = l.passed;
          now = l.now;
          history = l.history;
          taken_now = λ d. record {
            members = (l.taken_now d).members;
            granted_is = (l.taken_now d).granted_is ∙ sym (holds.resources_aborted b.held);
            last_held = (l.taken_now d).last_held ∙ sym (holds.values_aborted b.held);
          };
        };
  }
