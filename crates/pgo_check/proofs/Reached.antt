-- The states that a log reaches, and its first entry that is no step.
use Rattle.std.proofs.Common.{◌≡◌, ℕ, zero, suc, ◌<◌, ◌+◌, List, [], ◌∷◌, length, map, get_or, refl, ap, sym, ◌∙◌, add-one, subst, arith, below_more}
use Rattle.std.specs.Prelude.{Bool, true, false, if◌then◌else◌, Option, Some, None, option_and_then}
use Rattle.pgo_base.specs.Data.{Data, string}
use Rattle.pgo_base.specs.Lookup.{Name, Vars}
use Rattle.pgo_base.specs.declared.log.Entry as base_entry
use Rattle.pgo_model.specs.Acts.{Acts, Begins}
use Rattle.pgo_model.specs.IsRun.{IsRun, IsStep}
use Rattle.pgo_model.specs.Log.{Effect, After, StateAt, after_changes, are_in}
use Rattle.pgo_model.specs.LogView.{entry_view}
use Rattle.pgo_model.specs.Machine.{Entry, nth}
use Rattle.pgo_model.specs.Module.{Module}
use Rattle.pgo_model.specs.Steps.{Leads}
use Rattle.pgo_model.specs.Variables.{place_of}
use Rattle.pgo_base.specs.View.{data_of}
use Rattle.pgo_base.specs.declared.value.Value.{Value}
use Rattle.pgo_model.specs.MachineLists.{nth_below}
use Rattle.pgo_check.specs.Verdict.{IsFirstBad, Finds}

-- the first n entries are steps, and t is the state after them
pub record IsReached (m : Module) (consts : List (Name × Data)) (ids : List Data) (s : Vars) (l : List (Entry Effect)) (n : ℕ) (t : Vars) : Type 0 where
  pub state : StateAt s l n ≡ Some t
  pub steps : (q : ℕ) → q < n → (e : Entry Effect) → nth l q ≡ Some e → IsStep m consts ids s l q e

-- the state after an entry is made from the state before it
pub state_after : (s b : Vars) (l : List (Entry Effect)) (i : ℕ) (e : Entry Effect) → StateAt s l i ≡ Some b → nth l i ≡ Some e → StateAt s l (suc i) ≡ After b e.change
state_after s b [] i e h g = absurd (cc)
state_after s b (d ∷ l) zero e h g =
    let same : s ≡ b = cc in
    let that : d ≡ e = cc in
    behind (After s d.change) ∙ ap (λ x. After x d.change) same ∙ ap (λ (x : Entry Effect). After b x.change) that
  where
    behind : (o : Option Vars) → option_and_then (λ t. StateAt t l 0) o ≡ o
    behind None = refl
    behind (Some t) = refl
state_after s b (d ∷ l) (suc i) e h g = go (After s d.change) h (λ t k. state_after t b l i e k g)
  where
    go : (o : Option Vars) → option_and_then (λ t. StateAt t l i) o ≡ Some b → ((t : Vars) → StateAt t l i ≡ Some b → StateAt t l (suc i) ≡ After b e.change) → option_and_then (λ t. StateAt t l (suc i)) o ≡ After b e.change
    go None k ih = absurd (cc)
    go (Some t) k ih = ih t k

-- a state that there is after an entry is that after its changes
pub went : (s : Vars) (e : Effect) (t : Vars) → After s e ≡ Some t → after_changes e.changes s ≡ Some t
went s e t h = go (are_in e.changes s) h
  where
    go : (b : Bool) → (if b then after_changes e.changes s else None) ≡ Some t → after_changes e.changes s ≡ Some t
    go true k = k
    go false k = absurd (cc)

-- what stands in a place of a list of values
pub id_at : (ids : List Value) (i : ℕ) (v : Value) → i < length ids → v ≡ get_or ids i v → nth (map data_of ids) i ≡ Some (data_of v)
id_at [] i v h g = absurd (omega (arith, h))
id_at (w ∷ ids) zero v h g = ap (λ x. Some (data_of x)) (sym g)
id_at (w ∷ ids) (suc i) v h g = id_at ids i v (omega (arith, h)) g

pub some_is : {A : Type 0} (x y : A) → Some x ≡ Some y → x ≡ y
some_is x y k = cc

-- the entry leads to t, where its action is TRUE and its instance stands at its next label
pub one_step : (m : Module) (consts : List (Name × Data)) (ids : List Data) (s : Vars) (e : Entry Effect) (d : Data) (t : Vars) → nth ids e.instance ≡ Some d → After s e.change ≡ Some t → Acts m consts e.change.label d s t × (place_of d t ≡ Some (string e.change.next)) → Leads m consts ids s e t
one_step m consts ids s e d t h g a = record {
  id = d;
  identifier = h;
  to = g;
  acts = a.0;
  next = a.1;
}

-- it leads nowhere, where it isn't so
pub no_step : (m : Module) (consts : List (Name × Data)) (ids : List Data) (s : Vars) (e : Entry Effect) (d : Data) (t : Vars) → nth ids e.instance ≡ Some d → After s e.change ≡ Some t → (Acts m consts e.change.label d s t × (place_of d t ≡ Some (string e.change.next)) → ⊥) → (u : Vars) → Leads m consts ids s e u → ⊥
no_step m consts ids s e d t h g a u l =
    let i : l.id ≡ d = some_is l.id d (sym l.identifier ∙ h) in
    let v : u ≡ t = some_is u t (sym l.to ∙ g) in
    a (
      subst (λ w. Acts m consts e.change.label d s w) v (subst (λ x. Acts m consts e.change.label x s u) i l.acts),
      subst (λ w. place_of d w ≡ Some (string e.change.next)) v (subst (λ x. place_of x u ≡ Some (string e.change.next)) i l.next),
    )

-- the start is reached by no entry
pub start_reached : (m : Module) (consts : List (Name × Data)) (ids : List Data) (s : Vars) (l : List (Entry Effect)) → IsReached m consts ids s l 0 s
start_reached m consts ids s l = record { state = refl; steps = λ q h e g. absurd (omega (arith, h)) }

-- an entry that leads on from the state before it is a step
leads_step : (m : Module) (consts : List (Name × Data)) (ids : List Data) (s b t : Vars) (l : List (Entry Effect)) (i : ℕ) (e : Entry Effect) → StateAt s l i ≡ Some b → nth l i ≡ Some e → Leads m consts ids b e t → IsStep m consts ids s l i e
leads_step m consts ids s b t l i e h g k =
    record { id = k.id; before = b; after = t; identifier = k.identifier; from = h; to = state_after s b l i e h g ∙ k.to; acts = k.acts; next = k.next }

-- a step leads on from the state before it
step_leads : (m : Module) (consts : List (Name × Data)) (ids : List Data) (s b : Vars) (l : List (Entry Effect)) (i : ℕ) (e : Entry Effect) → StateAt s l i ≡ Some b → nth l i ≡ Some e → IsStep m consts ids s l i e → (t : Vars) × Leads m consts ids b e t
step_leads m consts ids s b l i e h g k =
    let same : k.before ≡ b = cc (k.from, h) in
    (k.after, record { id = k.id; identifier = k.identifier; to = sym (state_after s b l i e h g) ∙ k.to; acts = subst (λ x. Acts m consts e.change.label k.id x k.after) same k.acts; next = k.next })

-- one entry more is a step
pub reached_more : (m : Module) (consts : List (Name × Data)) (ids : List Data) (s b t : Vars) (l : List (Entry Effect)) (i : ℕ) (e : Entry Effect) → IsReached m consts ids s l i b → nth l i ≡ Some e → Leads m consts ids b e t → IsReached m consts ids s l (i + 1) t
reached_more m consts ids s b t l i e r g k = record {
  state = subst (λ n. StateAt s l n ≡ Some t) (sym (add-one i)) (state_after s b l i e r.state g ∙ k.to);
  steps = below_more (λ q. (d : Entry Effect) → nth l q ≡ Some d → IsStep m consts ids s l q d) i r.steps (λ d f. let same : e ≡ d = cc (g, f) in subst (λ x. IsStep m consts ids s l i x) same (leads_step m consts ids s b t l i e r.state g k));
}

-- an entry that leads nowhere is the first that is no step
pub first_bad_is : (m : Module) (consts : List (Name × Data)) (ids : List Data) (s b : Vars) (l : List (Entry Effect)) (i : ℕ) (e : Entry Effect) → IsReached m consts ids s l i b → nth l i ≡ Some e → ((t : Vars) → Leads m consts ids b e t → ⊥) → IsFirstBad m consts ids s l i
first_bad_is m consts ids s b l i e r g k =
    record { entry = e; found = g; bad = λ h. (let w = step_leads m consts ids s b l i e r.state g h in k w.0 w.1); earlier = r.steps }

-- what stands at an index of a log in memory
pub entry_at : (es : List base_entry.Entry) (i : ℕ) (e : base_entry.Entry) → i < length es → e ≡ get_or es i e → nth (map entry_view es) i ≡ Some (entry_view e)
entry_at [] i e h g = absurd (omega (arith, h))
entry_at (d ∷ es) zero e h g = ap (λ x. Some (entry_view x)) (sym g)
entry_at (d ∷ es) (suc i) e h g = entry_at es i e (omega (arith, h)) g

-- where all entries are behind, each is a step
pub all_steps : (m : Module) (consts : List (Name × Data)) (ids : List Data) (s t : Vars) (l : List (Entry Effect)) (n : ℕ) → IsReached m consts ids s l n t → n ≡ length l → Finds m consts ids s l None
all_steps m consts ids s t l n r h p e g = let k = nth_below l p e g in r.steps p (omega (arith, k, h)) e g

-- where the start is one and no entry is found that is no step, the log is a run: at the same module, constants, identifiers and entries
pub is_run : (m n : Module) (consts others : List (Name × Data)) (ids js : List Data) (s : Vars) (l k : List (Entry Effect)) → n ≡ m → others ≡ consts → js ≡ ids → k ≡ l → Begins n others s → Finds n others js s k None → IsRun m consts ids s l
is_run m n consts others ids js s l k e f g h b w =
    subst (λ x. IsRun x consts ids s l) e (subst (λ x. IsRun n x ids s l) f (subst (λ x. IsRun n others x s l) g (subst (λ x. IsRun n others js s x) h (record { begins = b; steps = w }))))
