-- The states that workers go through: each instance that isn't at Done is at a label of its process just where it has a section.
use Rattle.std.proofs.Common.{◌≡◌, ℕ, zero, suc, Bool, true, false, List, [], ◌∷◌, map, Option, Some, None, inl, inr, refl, sym, ap, ◌∙◌, arith, option_and_then}
use Rattle.pgo_base.specs.Data.{Data, boolean, integer, string, model, set, function}
use Rattle.pgo_base.specs.Lookup.{Name, Vars, find}
use Rattle.pgo_model.specs.Core.{is_place, is_at_done}
use Rattle.pgo_model.specs.Machine.{nth}
use Rattle.pgo_model.specs.Names.{same_name-is}
use Rattle.pgo_model.specs.Operators.{apply}
use Rattle.pgo_model.specs.Options.{on}
use Rattle.pgo_model.specs.Outcome.{Next, Stuck, Nowhere}
use Rattle.pgo_model.specs.System.{Member, Words}
use Rattle.pgo_model.specs.Variables.{place_of}
use Rattle.pgo_model.specs.Written.{pc, done}
use Rattle.pgo_syntax.specs.declared.bound.Bound.{Bound}
use Rattle.pgo_syntax.specs.declared.bound.Instance.{Instance}
use Rattle.pgo_bound.specs.Among.{nth_map}
use Rattle.pgo_bound.specs.Declares.{value_in}
use Rattle.pgo_bound.specs.Sound.{IsLabel, IsAtLabel}
use Rattle.pgo_bound.specs.State.{id_of}
use Rattle.pgo_sections.specs.Code.{Code}
use Rattle.pgo_sections.specs.Section.{section}
use Rattle.pgo_meaning.specs.Attempt.{SectTry, try_nowhere}
use Rattle.pgo_meaning.specs.Sect.{code_at, context_of, nothing}
use Rattle.pgo_meaning.specs.System.{member_of, system_of}
use Rattle.pgo_meaning.specs.TreesAgree.{sections_at}
use Rattle.pgo_meaning.proofs.LabelSections.{section_label}
use Rattle.pgo_workers.specs.Sentences.{Runs}
use Rattle.pgo_workers.specs.View.{World}
use Rattle.pgo_workers.specs.Walk as walks
use Rattle.pgo_workers.specs.Walk.{Goes, Sticks, ending}
use Rattle.pgo_workers.specs.Worker.{Program}
use Rattle.pgo_workers.specs.Worlds as worlds
use Rattle.pgo_workers.specs.Worlds.{layout_of, own_in}
use Rattle.pgo_accesses.specs.Programs.{tree_with}
use Rattle.pgo_accesses.specs.Runnable.{Runnable, IsRunState}
use Rattle.pgo_accesses.proofs.Leads.{code_there}
use Rattle.pgo_accesses.proofs.Programs.{stuck_is, next_is}
use Rattle.pgo_section.specs.Programs.{IsGood}

-- what is asked of a program over good states is so over fewer
pub runs_over : {S D : Type 0} (W : World S D) (P : Program S D) (Reaches : ℕ → ℕ → Type 0) (Good Fewer : S → Type 0) → ((s : S) → Fewer s → Good s) → Runs W P Reaches Good → Runs W P Reaches Fewer
runs_over W P Reaches Good Fewer is r = record {
  instances = r.instances;
  trace = λ k a s good. r.trace k a s (is s good);
  stuck = λ k a s kind good. r.stuck k a s kind (is s good);
  within = r.within;
  settles = r.settles;
  reaches = r.reaches;
  done = λ k s good. r.done k s (is s good);
  next = λ k a s o ps good. r.next k a s o ps (is s good);
  printed = r.printed;
  own_is = r.own_is;
  owned_is = r.owned_is;
  owned = r.owned;
  own_patched = λ k s o o' hs ps good. r.own_patched k s o o' hs ps (is s good);
  renews = r.renews;
  may_commit = r.may_commit;
  is_of = r.is_of;
}

pub at_done : (o : Option Data) → is_place done o ≡ true → o ≡ Some (string done)
at_done None h = absurd (grind (arith, h))
at_done (Some (string l)) h = ap (λ x. Some (string x)) (sym (same_name-is done l h))
at_done (Some (boolean z)) h = absurd (grind (arith, h))
at_done (Some (integer z)) h = absurd (grind (arith, h))
at_done (Some (model z)) h = absurd (grind (arith, h))
at_done (Some (set z)) h = absurd (grind (arith, h))
at_done (Some (function z)) h = absurd (grind (arith, h))

member_from : (is : List Instance) (k : ℕ) (m : Member) → nth (map member_of is) k ≡ Some m → (i : Instance) × (nth is k ≡ Some i)
member_from [] k m e = absurd (grind (arith, e))
member_from (i ∷ is) zero m e = (i, refl)
member_from (i ∷ is) (suc k) m e = member_from is k m e

module _ (b : Bound) (R : Runnable b) (s : Vars) where
  module _ (k : ℕ) (i : Instance) (at_k : nth b.instances k ≡ Some i) where
    same_place : (f : Option Data) → (elim f as (λ o. Option Data) [ None ↦ None | Some f ↦ apply f (id_of i) ]) ≡ option_and_then (λ f. apply f (id_of i)) f
    same_place None = refl
    same_place (Some f) = refl

    done_here : is_at_done (system_of b) k s ≡ is_place done (value_in s pc (id_of i))
    done_here =
        ap (λ o. on false o (λ i. is_place done (place_of i.id s))) (nth_map member_of k b.instances i at_k)
        ∙ ap (is_place done) (same_place (find pc s))

    -- without code there is no section
    none_here : (d : Words) → code_at b i (value_in s pc (id_of i)) ≡ None → (SectTry b k s d).end ≡ Nowhere
    none_here d e =
        try_nowhere b k s d
        (ap (λ o. (on nothing o (λ i. on nothing (code_at b i (value_in s pc (id_of i))) (λ c. section (context_of b i s) c d))).end) at_k
        ∙ ap (λ o. (on nothing o (λ c. section (context_of b i s) c d)).end) e)

    -- what has code is a label
    label_at : (o : Option Data) → (code_at b i o ≡ None → ⊥) → (l : Name) × (o ≡ Some (string l)) × IsLabel i l
    label_at None h = absurd (h refl)
    label_at (Some (string l)) h = go (find l (sections_at b i)) refl
      where
        go : (q : Option Code) → find l (sections_at b i) ≡ q → (m : Name) × (Some (string l) ≡ Some (string m)) × IsLabel i m
        go None e = absurd (h e)
        go (Some c) e = (l, refl, section_label b i R.unlabelled (R.none_done k i at_k) l c e)
    label_at (Some (boolean z)) h = absurd (h refl)
    label_at (Some (integer z)) h = absurd (h refl)
    label_at (Some (model z)) h = absurd (h refl)
    label_at (Some (set z)) h = absurd (h refl)
    label_at (Some (function z)) h = absurd (h refl)

    label : IsGood (system_of b) s → IsAtLabel i s
    label good = go (is_at_done (system_of b) k s) refl
      where
        go : (t : Bool) → is_at_done (system_of b) k s ≡ t → IsAtLabel i s
        go true e = (done, at_done (value_in s pc (id_of i)) (sym done_here ∙ e), inl refl)
        go false e =
            let l = label_at (value_in s pc (id_of i)) (λ n. good.sections k (member_of i) (λ w. 0) (nth_map member_of k b.instances i at_k) e (none_here (λ w. 0) n)) in
            (l.0, l.1, inr l.2)

    -- with code there is an end, as the tree has one
    some_end : (good : IsRunState b s) (d : Words) (c : Code) → code_at b i (value_in s pc (id_of i)) ≡ Some c → (SectTry b k s d).end ≡ Nowhere → ⊥
    some_end good d c e none = go (ending (tree_with b d k (own_in (layout_of (system_of b)) s k)) (worlds.value_in (layout_of (system_of b)) s)) refl
      where
        go : (z : walks.End) → ending (tree_with b d k (own_in (layout_of (system_of b)) s k)) (worlds.value_in (layout_of (system_of b)) s) ≡ z → ⊥
        go (Sticks kind) h = let z : Nowhere ≡ Stuck kind = sym none ∙ stuck_is b R s good.state d k i c kind at_k e h in grind (arith, z)
        go (Goes o ps) h =
            let n = next_is b R s good.state d k i c o ps at_k e h in
            let z : Nowhere ≡ Next n.0 ps = sym none ∙ n.1 in grind (arith, z)

  pub run_state : IsGood (system_of b) s → IsRunState b s
  run_state good = record { state = good.state; labels = λ k i at_k. label k i at_k good }

  pub good_state : IsRunState b s → IsGood (system_of b) s
  good_state good = record {
    state = good.state;
    sections = λ k m d at_m not_done none.
        let i = member_from b.instances k m at_m in
        let c = code_there b R s good k i.0 i.1 not_done in
        some_end k i.0 i.1 good d c.0 c.1 none;
  }
