-- An attempt that found Many is recorded, and answered, as the refusal Many.
use Rattle.std.proofs.Common.{◌≡◌, ◌∙◌, ℕ, true, List, [], ◌∷◌, ◌++◌, refl, ap}
use Rattle.std.proofs.lemmas.Bool.{eq-eqb, and_from}
use Rattle.std.proofs.lemmas.List.Folds.{list_all-append}
use Rattle.std.specs.List.{list_all}
use Rattle.std.specs.Prelude.{nat_eq}
use Rattle.pgo_base.specs.Lookup.{Vars}
use Rattle.pgo_model.specs.Log.{Effect}
use Rattle.pgo_model.specs.Machine.{Noted}
use Rattle.pgo_model.specs.Outcome.{most_leaves}
use Rattle.pgo_model.specs.System.{System}
use Rattle.pgo_resource.specs.Answers.{RefusedTake, JournalRefuses, HolderRefuses}
use Rattle.pgo_syntax.specs.ManyLeaves.{counts_leaves, tells_many, noted_result}
use Rattle.pgo_syntax.specs.RecordView.{kind_view, result_view}
use Rattle.pgo_syntax.specs.declared.records.AttemptResult.{AttemptResult}
use Rattle.pgo_syntax.specs.declared.records.NoteKind.{NoteKind}
use Rattle.pgo_syntax.specs.declared.records.NoteKind.TheVariants as kinds
use Rattle.pgo_syntax.specs.declared.records.Refusal.{Refusal}
use Rattle.pgo_syntax.specs.declared.records.Refusal.TheVariants as refusals
use Rattle.pgo_workers.specs.View.{View, World}
use Rattle.pgo_workers.specs.Walk.{Walk}
use Rattle.pgo_workers.specs.Worker as spec
use Rattle.pgo_section.specs.Programs.{Trees}
use Rattle.pgo_section.specs.Sight.{turn_of}
use Rattle.pgo_section.specs.Turns.{Ran, TurnedSo}
use Rattle.pgo_section.specs.declared.worker.Worker.{Worker}

all_leaves : nat_eq most_leaves most_leaves ≡ true
all_leaves = eq-eqb most_leaves most_leaves refl

-- a note's record is the note to the core machine
pub noted_seen : (kind : NoteKind) (n : ℕ) → result_view (noted_result kind n) ≡ Noted (kind_view kind) n
noted_seen kinds.Blocked n = refl
noted_seen kinds.NoValue n = refl
noted_seen kinds.AssertFails n = refl
noted_seen kinds.Many n = refl

pub noted_tells : (kind : NoteKind) (n : ℕ) → tells_many (noted_result kind n) ≡ true
noted_tells kinds.Blocked n = refl
noted_tells kinds.NoValue n = refl
noted_tells kinds.AssertFails n = refl
noted_tells kinds.Many n = all_leaves

-- the turn that answers it
pub noted_ran : {C : Type 0} (y : System) (tree : Trees) (walk : C → Walk) (w : Worker C) (b : View Effect) (v : Worker C) (c : View Effect) (kind : NoteKind) (n : ℕ)
    → TurnedSo y tree walk w b v c (spec.HasNoted (kind_view kind) n) → Ran y tree walk w b v c (turn_of (noted_result kind n))
noted_ran y tree walk w b v c kinds.Blocked n h = record { turned = h; many = refl }
noted_ran y tree walk w b v c kinds.NoValue n h = record { turned = h; many = refl }
noted_ran y tree walk w b v c kinds.AssertFails n h = record { turned = h; many = refl }
noted_ran y tree walk w b v c kinds.Many n h = record { turned = h; many = all_leaves }

-- no board refuses anything as Many
pub take_counts : (W : World Vars Effect) (r : ℕ) (x : Refusal) (b d : View Effect) → RefusedTake W r x b d → counts_leaves x ≡ true
take_counts W r (refusals.Held q h) b d t = refl
take_counts W r (refusals.Down q o) b d t = refl
take_counts W r (refusals.Full n) b d t = refl
take_counts W r (refusals.Many leaves n) b d t = absurd t

pub journal_counts : (W : World Vars Effect) (x : Refusal) (b d : View Effect) → JournalRefuses W x b d → counts_leaves x ≡ true
journal_counts W (refusals.Held q h) b d t = refl
journal_counts W (refusals.Down q o) b d t = refl
journal_counts W (refusals.Full n) b d t = refl
journal_counts W (refusals.Many leaves n) b d t = absurd t

pub holder_counts : (W : World Vars Effect) (x : Refusal) (b d : View Effect) → HolderRefuses W x b d → counts_leaves x ≡ true
holder_counts W (refusals.Held q h) b d t = refl
holder_counts W (refusals.Down q o) b d t = refl
holder_counts W (refusals.Full n) b d t = refl
holder_counts W (refusals.Many leaves n) b d t = absurd t

-- one record more
pub one_more : (old new : List AttemptResult) (x : AttemptResult) → new ≡ old ++ (x ∷ []) → list_all tells_many old ≡ true → tells_many x ≡ true → list_all tells_many new ≡ true
one_more old new x e all is = ap (list_all tells_many) e ∙ list_all-append tells_many old (x ∷ []) ∙ and_from (list_all tells_many old) (list_all tells_many (x ∷ [])) all (and_from (tells_many x) true is refl)
