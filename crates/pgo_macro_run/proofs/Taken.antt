-- The branches of an `if` by which one is taken.
use Rattle.std.proofs.Common.{◌≡◌, ℕ, suc, ◌<◌, Bool, true, false, Option, Some, None, Err, refl, ap, ◌∙◌, subst, arith}
use Rattle.std.specs.Prelude.{if◌then◌else◌, option_and_then, max}
use Rattle.pgo_base.specs.Data.{Data}
use Rattle.pgo_base.specs.Lookup.{Names}
use Rattle.pgo_base.specs.Tree.{Tree}
use Rattle.pgo_model.specs.Operators.{truth_of}
use Rattle.pgo_model.specs.Options.{on}
use Rattle.pgo_syntax.specs.Statement.{Statement, GuardedStatements, no_guarded, more_guarded}
use Rattle.pgo_syntax.specs.StatementSize.{height, guarded_height}
use Rattle.pgo_model.specs.Outcome.{NoValue}
use Rattle.pgo_resource.specs.Picked.{choices_of}
use Rattle.pgo_resource.specs.declared.picks.Picks.{Picks}
use Rattle.pgo_resource.specs.declared.resource.OpStop.{OpStop}
use Rattle.pgo_resource.specs.declared.resource.OpStop.TheVariants as stops
use Rattle.pgo_macro_run.specs.Answers.{GivesSo}
use Rattle.pgo_macro_run.specs.AroundView.{FailsSo}
use Rattle.pgo_macro_run.specs.Chosen.{chosen}
use Rattle.pgo_macro_run.specs.Given.{Given, Now, Answer, Fails, needs, decide, value_of}
use Rattle.pgo_macro_run.specs.Runs.{run, branches}

module _ (g : Given) (env : Names) (n : Now) where
  abbrev value : Tree → Option Data
  value e = value_of g e env n.content

  pub taken_by : (bs : GuardedStatements) (x : Answer) → branches g bs x env n ≡ needs (chosen value bs) n.choices (λ o. on x o (λ t. run g t env n))
  taken_by no_guarded x = refl
  taken_by (more_guarded p e t bs) x = go (truth_of (value e)) (taken_by bs x)
    where
      go : (o : Option Bool) → branches g bs x env n ≡ needs (chosen value bs) n.choices (λ o'. on x o' (λ t'. run g t' env n))
          → decide o n.choices (run g t env n) (branches g bs x env n) ≡ needs (option_and_then (λ b. if b then Some (Some t) else chosen value bs) o) n.choices (λ o'. on x o' (λ t'. run g t' env n))
      go None h = refl
      go (Some true) h = refl
      go (Some false) h = h

  -- a condition without a truth value
  pub fails_taken : {R : Type 0} (view : R → Option Statement) (bs : GuardedStatements) (x : Answer) (e : OpStop) (p : Picks) → n.choices ≡ choices_of p
      → GivesSo view (chosen value bs) (Err e) → FailsSo (branches g bs x env n) e p
  fails_taken view bs x stops.Blocked p same h = absurd h
  fails_taken view bs x stops.AssertFails p same h = absurd h
  fails_taken view bs x stops.NoMemory p same h = tt
  fails_taken view bs x stops.NoValue p same h =
      taken_by bs x ∙ ap (λ o. needs o n.choices (λ o'. on x o' (λ t. run g t env n))) h ∙ ap (Fails NoValue) same

  pub taken_is : (bs : GuardedStatements) (x : Answer) (o : Option Statement) → chosen value bs ≡ Some o → branches g bs x env n ≡ on x o (λ t. run g t env n)
  taken_is bs x o h = taken_by bs x ∙ ap (λ o'. needs o' n.choices (λ z. on x z (λ t. run g t env n))) h

-- the taken branch nests less deep
pub low_branch : (value : Tree → Option Data) (bs : GuardedStatements) (t : Statement) → chosen value bs ≡ Some (Some t) → height t < suc (guarded_height bs)
low_branch value no_guarded t h = absurd (cc)
low_branch value (more_guarded p e s bs) t h = go (truth_of (value e)) h (low_branch value bs t)
  where
    same : Some (Some s) ≡ Some (Some t) → s ≡ t
    same e' = cc

    go : (o : Option Bool) → option_and_then (λ b. if b then Some (Some s) else chosen value bs) o ≡ Some (Some t)
        → (chosen value bs ≡ Some (Some t) → height t < suc (guarded_height bs)) → height t < suc (guarded_height (more_guarded p e s bs))
    go None e' r = absurd (cc)
    go (Some true) e' r = subst (λ u. height u < suc (guarded_height (more_guarded p e s bs))) (same e') (omega arith)
    go (Some false) e' r = omega (arith, r e')

pub low_else : (a b c : ℕ) → a < suc b → a < suc (max b c)
low_else a b c h = omega arith

pub low_other : (b c : ℕ) → c < suc (max b c)
low_other b c = omega arith
