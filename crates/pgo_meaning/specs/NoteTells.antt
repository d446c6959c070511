-- What a note of an attempt says of the leaves of its section. Source: this project's choice.
use Rattle.std.proofs.Common.{◌≡◌, ℕ, refl, sym, ◌∙◌}
use Rattle.pgo_base.specs.Lookup.{Vars}
use Rattle.pgo_model.specs.Outcome.{Kind, Blocked, NoValue, AssertFails, Many, Outcome, Stuck}
use Rattle.pgo_model.specs.System.{Words}
use Rattle.pgo_syntax.specs.declared.bound.Bound.{Bound}
use Rattle.pgo_tries.specs.Chosen.{In}
use Rattle.pgo_meaning.specs.Attempt.{SectTry}
use Rattle.pgo_meaning.specs.Enabled.{Leaves, IsQuiet, FirstEnds, TooMany, blocked_note, blocked_try, found_try, many_try}
use Rattle.pgo_meaning.specs.LeafWords.{leaf_words}

-- every leaf of the section is Blocked
abbrev pub LeavesBlocked : Bound → ℕ → Vars → Type 0
LeavesBlocked b k s = (o : Outcome Vars) → In o (Leaves b k s) → o ≡ Stuck Blocked

-- Blocked: every leaf is, and there are at most 65,536; NoValue and AssertFails: so ends the first leaf that isn't Blocked, in the
-- order of the words; Many: the first 65,536 leaves are Blocked, and there are more
abbrev pub LeavesTell : Bound → ℕ → Vars → Words → Kind → Type 0
LeavesTell b k s w Blocked = LeavesBlocked b k s × IsQuiet b k s
LeavesTell b k s w NoValue = FirstEnds b k s w (Stuck NoValue)
LeavesTell b k s w AssertFails = FirstEnds b k s w (Stuck AssertFails)
LeavesTell b k s w Many = TooMany b k s w

pub note_tells : (b : Bound) (k : ℕ) (s : Vars) (w : Words) (kind : Kind) → (SectTry b k s w).end ≡ Stuck kind → LeavesTell b k s w kind
note_tells b k s w Blocked e = (λ o i. let q = (leaf_words b k s o).0 i in sym q.1 ∙ blocked_note b k s w q.0 e, (blocked_try b k s w).0 e)
note_tells b k s w NoValue e = found_try b k s w (Stuck NoValue) e refl refl
note_tells b k s w AssertFails e = found_try b k s w (Stuck AssertFails) e refl refl
note_tells b k s w Many e = many_try b k s w e
