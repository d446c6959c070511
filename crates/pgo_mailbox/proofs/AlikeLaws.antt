-- The clauses of a content decide what each call answers and leaves.
use Rattle.std.proofs.Common.{◌≡◌, Option, List, [], ◌∷◌, Err, refl, sym, ap, ◌∙◌, subst}
use Rattle.pgo_base.specs.Data.{Data}
use Rattle.pgo_base.specs.declared.module.Defined.{Defined}
use Rattle.pgo_model.specs.Outcome.{Kind, Blocked, NoValue, AssertFails, Many}
use Rattle.pgo_syntax.specs.declared.bound.Mapping.{Mapping}
use Rattle.pgo_sections.specs.Exec.{MacroEnd, Gives, Stops}
use Rattle.pgo_sections.specs.SectionRun.{ChoiceMade}
use Rattle.pgo_workers.specs.Operations.{read_of, write_of, Ends}
use Rattle.pgo_workers.specs.View.{Shown}
use Rattle.pgo_resource.specs.Answers.{Read, Written, SameWords as Kept}
use Rattle.pgo_resource.specs.Picked.{attempt_words, words_of, choices_of}
use Rattle.pgo_resource.specs.declared.picks.Picks.{Picks}
use Rattle.pgo_cells.specs.CellView.{cell_view}
use Rattle.pgo_mailbox.specs.Alike.{Call, Reads, Writes, PreCommits, Commits, Aborts, Answer, Gave, Done, Stopped, IsDown, StopsBy, Made, AllMade, SamePicks, Alike}
use Rattle.pgo_mailbox.specs.BoxView.{box_view}

-- ---- two ends of one run
gave_both : {A : Type 0} (a b : A) (u w : List ChoiceMade) → Gives a u ≡ Gives b w → (a ≡ b) × (u ≡ w)
gave_both a b u w e = (cc, cc)

stopped_both : {A : Type 0} (x : MacroEnd A) (j k : Kind) (u w : List ChoiceMade) → x ≡ Stops j u → x ≡ Stops k w → (j ≡ k) × (u ≡ w)
stopped_both x j k u w h g = (cc, cc)

not_both : {A : Type 0} (a : A) (k : Kind) (u w : List ChoiceMade) → Gives a u ≡ Stops k w → ⊥
not_both a k u w e = absurd (cc)

-- ---- what a stop says
read_stop : (k : Kind) (s t : Shown) (p q : Picks) → (m : Mapping) (ds : List Defined) (id : Data) (at : Option Data) → StopsBy k (λ e. Read m ds id at s t p q (Err e))
    → (t ≡ s) × Kept p q × Ends (read_of m ds id at (words_of p) s.current) (choices_of p) (choices_of q) (λ cs. Stops k cs)
read_stop Blocked s t p q m ds id at h = h
read_stop NoValue s t p q m ds id at h = h
read_stop AssertFails s t p q m ds id at h = h
read_stop Many s t p q m ds id at h = absurd h

write_stop : (k : Kind) (s t : Shown) (p q : Picks) → (m : Mapping) (ds : List Defined) (id : Data) (at : Option Data) (x : Data) → StopsBy k (λ e. Written m ds id at x s t p q (Err e))
    → (t ≡ s) × Kept p q × Ends (write_of m ds id at x (words_of p) s.current) (choices_of p) (choices_of q) (λ cs. Stops k cs)
write_stop Blocked s t p q m ds id at x h = h
write_stop NoValue s t p q m ds id at x h = h
write_stop AssertFails s t p q m ds id at x h = h
write_stop Many s t p q m ds id at x h = absurd h

-- ---- one call
module _ (m : Mapping) (ds : List Defined) (id : Data) (at : Option Data) (s t t' : Shown) (p p' q q' : Picks) (w : SamePicks p q) where
  -- both begin alike
  same_read : read_of m ds id at (words_of p) s.current (choices_of p) ≡ read_of m ds id at (words_of q) s.current (choices_of q)
  same_read = λ i. read_of m ds id at (w.0 i) s.current (w.2 i)

  kept : (choices_of p' ≡ choices_of q') → Kept p p' → Kept q q' → SamePicks p' q'
  kept e h k = (h.0 ∙ w.0 ∙ sym k.0, h.1 ∙ w.1 ∙ sym k.1, e)

  read_alike : (a b : Answer) → Made (Reads m ds id at) s t p p' a → Made (Reads m ds id at) s t' q q' b → (a ≡ b) × (t ≡ t') × SamePicks p' q'
  read_alike (Gave x) (Gave y) h k =
      let g = gave_both _ _ _ _ (sym h.2.2 ∙ same_read ∙ k.2.2) in (
        ap Gave (sym h.1 ∙ ap (λ z. z.0) g.0 ∙ k.1),
        h.2.0 ∙ ap (λ z. record s { current = z.1 }) g.0 ∙ sym k.2.0,
        kept g.1 h.2.1 k.2.1,
      )
  read_alike (Gave x) (Stopped j) h k = let r = read_stop j s t' q q' m ds id at k in absurd (not_both _ _ _ _ (sym h.2.2 ∙ same_read ∙ r.2))
  read_alike (Stopped i) (Gave y) h k = let r = read_stop i s t p p' m ds id at h in absurd (not_both _ _ _ _ (sym k.2.2 ∙ sym same_read ∙ r.2))
  read_alike (Stopped i) (Stopped j) h k =
      let r = read_stop i s t p p' m ds id at h in let z = read_stop j s t' q q' m ds id at k in
      let g = stopped_both _ _ _ _ _ r.2 (same_read ∙ z.2) in
      (ap Stopped g.0, r.0 ∙ sym z.0, kept g.1 r.1 z.1)
  read_alike Done b h k = absurd h
  read_alike (IsDown n) b h k = absurd h
  read_alike (Gave x) Done h k = absurd k
  read_alike (Gave x) (IsDown n) h k = absurd k
  read_alike (Stopped i) Done h k = absurd k
  read_alike (Stopped i) (IsDown n) h k = absurd k

  module _ (x : Data) where
    same_write : write_of m ds id at x (words_of p) s.current (choices_of p) ≡ write_of m ds id at x (words_of q) s.current (choices_of q)
    same_write = λ i. write_of m ds id at x (w.0 i) s.current (w.2 i)

    write_alike : (a b : Answer) → Made (Writes m ds id at x) s t p p' a → Made (Writes m ds id at x) s t' q q' b → (a ≡ b) × (t ≡ t') × SamePicks p' q'
    write_alike Done Done h k =
        let g = gave_both _ _ _ _ (sym h.2 ∙ same_write ∙ k.2) in
        (refl, h.0 ∙ ap (λ z. record s { current = z }) g.0 ∙ sym k.0, kept g.1 h.1 k.1)
    write_alike Done (Stopped j) h k = let r = write_stop j s t' q q' m ds id at x k in absurd (not_both _ _ _ _ (sym h.2 ∙ same_write ∙ r.2))
    write_alike (Stopped i) Done h k = let r = write_stop i s t p p' m ds id at x h in absurd (not_both _ _ _ _ (sym k.2 ∙ sym same_write ∙ r.2))
    write_alike (Stopped i) (Stopped j) h k =
        let r = write_stop i s t p p' m ds id at x h in let z = write_stop j s t' q q' m ds id at x k in
        let g = stopped_both _ _ _ _ _ r.2 (same_write ∙ z.2) in
        (ap Stopped g.0, r.0 ∙ sym z.0, kept g.1 r.1 z.1)
    write_alike (Gave y) b h k = absurd h
    write_alike (IsDown n) b h k = absurd h
    write_alike Done (Gave y) h k = absurd k
    write_alike Done (IsDown n) h k = absurd k
    write_alike (Stopped i) (Gave y) h k = absurd k
    write_alike (Stopped i) (IsDown n) h k = absurd k

same_words : (p p' q q' : Picks) → SamePicks p q → p' ≡ p → q' ≡ q → SamePicks p' q'
same_words p p' q q' w e f = (ap words_of e ∙ w.0 ∙ sym (ap words_of f), ap attempt_words e ∙ w.1 ∙ sym (ap attempt_words f), ap choices_of e ∙ w.2 ∙ sym (ap choices_of f))

plain_alike : (c : Call) (s t t' : Shown) (p p' q q' : Picks) → SamePicks p q → (a b : Answer) → Made c s t p p' a → Made c s t' q q' b → (a ≡ b) × (t ≡ t') × SamePicks p' q'
plain_alike (Reads m ds id at) s t t' p p' q q' w a b h k = read_alike m ds id at s t t' p p' q q' w a b h k
plain_alike (Writes m ds id at x) s t t' p p' q q' w a b h k = write_alike m ds id at s t t' p p' q q' w x a b h k
plain_alike (PreCommits l) s t t' p p' q q' w Done Done h k = (refl, h.0 ∙ sym k.0, same_words p p' q q' w h.2 k.2)
plain_alike (PreCommits l) s t t' p p' q q' w (IsDown i) (IsDown j) h k = (ap IsDown (h.1 ∙ sym k.1), h.0 ∙ sym k.0, same_words p p' q q' w h.3 k.3)
plain_alike (PreCommits l) s t t' p p' q q' w Done (IsDown j) h k = let e = sym h.1 ∙ k.2 in absurd (cc)
plain_alike (PreCommits l) s t t' p p' q q' w (IsDown i) Done h k = let e = sym h.2 ∙ k.1 in absurd (cc)
plain_alike (PreCommits l) s t t' p p' q q' w (Gave x) b h k = absurd h
plain_alike (PreCommits l) s t t' p p' q q' w (Stopped i) b h k = absurd h
plain_alike (PreCommits l) s t t' p p' q q' w Done (Gave y) h k = absurd k
plain_alike (PreCommits l) s t t' p p' q q' w Done (Stopped j) h k = absurd k
plain_alike (PreCommits l) s t t' p p' q q' w (IsDown i) (Gave y) h k = absurd k
plain_alike (PreCommits l) s t t' p p' q q' w (IsDown i) (Stopped j) h k = absurd k
plain_alike Commits s t t' p p' q q' w Done Done h k = (refl, h.0 ∙ sym k.0, same_words p p' q q' w h.1 k.1)
plain_alike Commits s t t' p p' q q' w (Gave x) b h k = absurd h
plain_alike Commits s t t' p p' q q' w (Stopped i) b h k = absurd h
plain_alike Commits s t t' p p' q q' w (IsDown i) b h k = absurd h
plain_alike Commits s t t' p p' q q' w Done (Gave y) h k = absurd k
plain_alike Commits s t t' p p' q q' w Done (Stopped j) h k = absurd k
plain_alike Commits s t t' p p' q q' w Done (IsDown j) h k = absurd k
plain_alike Aborts s t t' p p' q q' w Done Done h k = (refl, h.0 ∙ sym k.0, same_words p p' q q' w h.1 k.1)
plain_alike Aborts s t t' p p' q q' w (Gave x) b h k = absurd h
plain_alike Aborts s t t' p p' q q' w (Stopped i) b h k = absurd h
plain_alike Aborts s t t' p p' q q' w (IsDown i) b h k = absurd h
plain_alike Aborts s t t' p p' q q' w Done (Gave y) h k = absurd k
plain_alike Aborts s t t' p p' q q' w Done (Stopped j) h k = absurd k
plain_alike Aborts s t t' p p' q q' w Done (IsDown j) h k = absurd k

-- ---- all calls
pub all_alike : (cs : List Call) (s t t' : Shown) (p p' q q' : Picks) → SamePicks p q → (as' bs : List Answer) → AllMade cs s t p p' as' → AllMade cs s t' q q' bs → (as' ≡ bs) × (t ≡ t') × SamePicks p' q'
all_alike [] s t t' p p' q q' w [] [] h k = (refl, h.0 ∙ sym k.0, same_words p p' q q' w h.1 k.1)
all_alike [] s t t' p p' q q' w (a ∷ as') bs h k = absurd h
all_alike [] s t t' p p' q q' w [] (b ∷ bs) h k = absurd k
all_alike (c ∷ cs) s t t' p p' q q' w [] bs h k = absurd h
all_alike (c ∷ cs) s t t' p p' q q' w (a ∷ as') [] h k = absurd k
all_alike (c ∷ cs) s t t' p p' q q' w (a ∷ as') (b ∷ bs) h k =
    let one = plain_alike c s h.0 k.0 p h.1 q k.1 w a b h.2 k.2 in
    let rest = all_alike cs h.0 t t' h.1 p' k.1 q' one.2 as' bs h.3 (subst (λ u. AllMade cs u t' k.1 q' bs) (sym one.1) k.3) in
    (λ i. one.0 i ∷ rest.0 i, rest.1, rest.2)

pub alike : Alike
alike cs b b' c c' p p' q q' as' bs e w h k =
    let r = all_alike cs (box_view b) (box_view b') (cell_view c') p p' q q' w as' bs h (subst (λ s. AllMade cs s (cell_view c') q q' bs) (sym e) k) in
    (r.0, r.1, r.2)
