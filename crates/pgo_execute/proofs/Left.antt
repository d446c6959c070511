-- What the core leaves is what is written.
use Rattle.std.proofs.Common.{◌≡◌, ℕ, suc, true, false, List, [], ◌∷◌, map, Option, Some, None, refl, sym, ap, subst, ◌∙◌, option_map}
use Rattle.pgo_core.specs.Cores.{CoreFits, attempts_from}
use Rattle.pgo_core.specs.Instances.{AreAccountsIn, ComesToEnd, FitsCore, IsJournalOf, IsSame, StandsAt, settings_of, system_of}
use Rattle.pgo_core.specs.declared.instances.Core.{Core}
use Rattle.pgo_execute.specs.Follows.{Comes}
use Rattle.pgo_execute.specs.Gives.{Leaves}
use Rattle.pgo_execute.specs.Schedules.{Schedule, Turns, Rounds}
use Rattle.pgo_journal.specs.declared.finished.Finished.{Finished}
use Rattle.pgo_model.specs.System.{System}
use Rattle.pgo_resource.specs.declared.resource.Resource.{Ghosts}
use Rattle.pgo_resource.specs.declared.sections.Sections as sections
use Rattle.pgo_log_write.specs.IsFinished.{record_of, ended}
use Rattle.pgo_model.specs.Core as core
use Rattle.pgo_model.specs.Machine.{Record as Told}
use Rattle.pgo_section.specs.Sight as sight
use Rattle.pgo_syntax.specs.RecordView.{record_view, settings_view}
use Rattle.pgo_syntax.specs.declared.records.Record.{Record}

-- what two lists that are one begin with
heads : {A : Type 0} (a b : A) (l m : List A) → a ∷ l ≡ b ∷ m → a ≡ b
heads a b l m e = cc

tails : {A : Type 0} (a b : A) (l m : List A) → a ∷ l ≡ b ∷ m → l ≡ m
tails a b l m e = cc

no_list : {A : Type 0} (a : A) (l : List A) → [] ≡ a ∷ l → ⊥
no_list a l e = absurd (cc)

-- the records without the numbers of their attempts
pub records_are : (rs : List Record) (n : ℕ) (xs : List Told) → map record_view rs ≡ attempts_from n xs → map record_of rs ≡ xs
records_are [] n [] e = refl
records_are [] n (x ∷ xs) e = absurd (no_list (n, x) (attempts_from (suc n) xs) e)
records_are (r ∷ rs) n [] e = absurd (no_list (record_view r) (map record_view rs) (sym e))
records_are (r ∷ rs) n (x ∷ xs) e =
    let first = ap (λ p. p.1) (heads (record_view r) (n, x) (map record_view rs) (attempts_from (suc n) xs) e) in
    let rest = records_are rs (suc n) xs (tails (record_view r) (n, x) (map record_view rs) (attempts_from (suc n) xs) e) in
    λ i. first i ∷ rest i

-- an end is the same in memory
end_same : (e : core.End) → sight.ended e ≡ ended e
end_same core.Done = refl
end_same core.Stopped = refl
end_same core.JournalFull = refl
end_same core.Spent = refl

pub ends_same : (o : Option core.End) → option_map sight.ended o ≡ option_map ended o
ends_same None = refl
ends_same (Some e) = ap Some (end_same e)

no_turns : false ≡ true → ⊥
no_turns e = absurd (cc)

module _ {S R P : Type 0} {s : sections.Ghosts S P} {g : Ghosts R} where
  left_here : (d : Core S R P s g) (schedule : Schedule) (f : Finished) → FitsCore d → (comes : Comes schedule d) → IsJournalOf d comes.turns f.journal → AreAccountsIn d comes.turns f.accounts
      → Leaves (system_of d) (settings_of d) schedule f
  left_here d schedule f fits comes journal accounts =
      let all = accounts fits in
      record {
        turns = comes.turns;
        turns_of = comes.turns_of;
        is = record {
          start = journal.start;
          entries = journal.entries fits;
          notes = journal.notes fits;
          count = all.as_many;
          records = λ k a e. records_are a.records 1 _ (all.each k a e).told_are;
          ends = λ k a e. (all.each k a e).end_is ∙ ends_same _;
        };
        rounds = λ e. comes.rounds e fits;
        ended = λ e. comes.ended e fits;
        contended = λ e. comes.contended e fits;
      }

  -- what is left is what the machine leaves, of this system and under these settings
  pub left_of : (d : Core S R P s g) (y : System) (settings : core.Settings) (schedule : Schedule) (f : Finished) → system_of d ≡ y → settings_of d ≡ settings → FitsCore d
      → (comes : Comes schedule d) → IsJournalOf d comes.turns f.journal → AreAccountsIn d comes.turns f.accounts → Leaves y settings schedule f
  left_of d y settings schedule f own same fits comes journal accounts =
      subst (λ (z : System). Leaves z settings schedule f) own
      (subst (λ (t : core.Settings). Leaves (system_of d) t schedule f) same (left_here d schedule f fits comes journal accounts))

  -- what fits a core fits it after its turns
  pub fits_after : (c d : Core S R P s g) → IsSame c d → FitsCore c → FitsCore d
  fits_after c d same fits = subst (λ x. CoreFits (s.system x) (s.tree x) (settings_of d)) (sym same.sections) (subst (λ x. CoreFits (s.system c.sections) (s.tree c.sections) (settings_view x)) (sym same.settings) fits)

  -- after a list of turns
  pub turns_come : (d : Core S R P s g) (schedule : Schedule) (turns : List ℕ) → schedule ≡ Turns turns → StandsAt turns d → Comes schedule d
  turns_come d schedule turns e stands =
      subst (λ (x : Schedule). Comes x d) (sym e)
      (record { turns = turns; turns_of = refl; stands = stands; rounds = λ e fits. absurd (no_turns e); ended = λ e fits. absurd (no_turns e); contended = λ e fits. absurd (no_turns e) })

  -- after rounds
  pub rounds_come : (d : Core S R P s g) (schedule : Schedule) → schedule ≡ Rounds → ComesToEnd [] d → Comes schedule d
  rounds_come d schedule e r =
      subst (λ (x : Schedule). Comes x d) (sym e)
      (record { turns = r.turns; turns_of = tt; stands = r.stands; rounds = λ e fits. r.rounds fits; ended = λ e fits. r.ended fits; contended = λ e fits. r.contended fits })

  -- the system and the settings are those before its turns
  pub system_after : (c d : Core S R P s g) (y : System) → IsSame c d → system_of c ≡ y → system_of d ≡ y
  system_after c d y same e = ap s.system same.sections ∙ e

  pub settings_after : (c d : Core S R P s g) (settings : core.Settings) → IsSame c d → settings_of c ≡ settings → settings_of d ≡ settings
  settings_after c d settings same e = ap settings_view same.settings ∙ e
