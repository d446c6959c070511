-- A list of pre-commits that fail is read item by item.
use Rattle.std.proofs.Common.{ℕ, List, [], ◌∷◌, ◌++◌, refl, sym, ap, ◌∙◌, subst, append_assoc, Some, None}
use Rattle.std.specs.Borrow.{Bor}
use Rattle.pgo_words.specs.Cuts.{Cuts}
use Rattle.pgo_words.specs.FailureItems.{FailuresOnly, ReadsFailure, ReadsPairs}
use Rattle.pgo_words.specs.Failures.{FailureList, last, more}
use Rattle.pgo_words.proofs.FailureLists.{failures_parts, failures_item}

pub reads_start : (bs : List ℕ) → ReadsPairs bs [] bs
reads_start bs = record { sound = λ qs l. l; only = λ ps l. (ps, l, refl) }

module _ (bs : List ℕ) (old : List (ℕ × ℕ)) (rest : List ℕ) (r : ReadsPairs bs old rest) where
  pub reads_step : (x : Bor (List ℕ) × Bor (List ℕ)) (p : ℕ × ℕ) → Cuts 44 rest (Some x) → ReadsFailure x.0.now (Some p) → ReadsPairs bs (old ++ p ∷ []) x.1.now
  reads_step x p c f = record {
    sound = λ qs l.
        subst (FailureList bs) (sym (append_assoc old (p ∷ []) qs)) (r.sound (p ∷ qs) (subst (λ z. FailureList z (p ∷ qs)) (sym c.0) (more f.0 l)));
    only = λ ps l.
        let o = r.only ps l in
        let k = failures_parts rest o.0 o.1 x.0.now x.1.now c.0 c.1 in
        let same = f.1 k.0 k.2 in
        (k.1, k.3, o.2 ∙ ap (λ z. old ++ z) (k.4 ∙ ap (λ z. z ∷ k.1) same) ∙ sym (append_assoc old (p ∷ []) k.1));
  }

  pub reads_none : (x : Bor (List ℕ) × Bor (List ℕ)) → Cuts 44 rest (Some x) → ReadsFailure x.0.now None → FailuresOnly (Some bs) None
  reads_none x c f ps l =
      let o = r.only ps l in
      let k = failures_parts rest o.0 o.1 x.0.now x.1.now c.0 c.1 in
      f k.0 k.2

  pub last_some : (p : ℕ × ℕ) → Cuts 44 rest None → ReadsFailure rest (Some p) → FailuresOnly (Some bs) (Some (old ++ p ∷ []))
  last_some p c f = (
    r.sound (p ∷ []) (last f.0),
    λ ps l.
        let o = r.only ps l in
        let k = failures_item rest o.0 o.1 c in
        o.2 ∙ ap (λ z. old ++ z) (k.2 ∙ ap (λ z. z ∷ []) (f.1 k.0 k.1)),
  )

  pub last_none : Cuts 44 rest None → ReadsFailure rest None → FailuresOnly (Some bs) None
  last_none c f ps l =
      let o = r.only ps l in
      let k = failures_item rest o.0 o.1 c in
      f k.0 k.1
