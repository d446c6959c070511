-- A journal that grows by others alone, where it grew by the current instance alone, doesn't grow.
use Rattle.std.proofs.Common.{◌≡◌, ℕ, List, [], ◌∷◌, ◌++◌, refl, sym, ap, ◌∙◌, subst}
use Rattle.pgo_model.specs.Machine.{Entry, Note}
use Rattle.pgo_model.specs.MachineAccounts.{append_none}
use Rattle.pgo_workers.specs.View.{Others, OtherNotes}
use Rattle.pgo_core.specs.AllViews.{AllOf, AllNotesOf}

abbrev tail_of : {A : Type 0} → List A → List A
tail_of [] = []
tail_of (x ∷ l) = l

cancel : {A : Type 0} (l a b : List A) → l ++ a ≡ l ++ b → a ≡ b
cancel [] a b h = h
cancel (x ∷ l) a b h = cancel l a b (ap tail_of h)

joined : {A : Type 0} (a b c : List A) → (a ++ b) ++ c ≡ a ++ (b ++ c)
joined [] b c = refl
joined (x ∷ a) b c = ap (λ l. x ∷ l) (joined a b c)

no_entries : {D : Type 0} (k : ℕ) (more : List (Entry D)) → Others k more → AllOf k more → more ≡ []
no_entries k [] o a = refl
no_entries k (e ∷ es) o a = absurd (o.0 a.0)

no_notes : (k : ℕ) (more : List Note) → OtherNotes k more → AllNotesOf k more → more ≡ []
no_notes k [] o a = refl
no_notes k (e ∷ es) o a = absurd (o.0 a.0)

front_of : {D : Type 0} (k : ℕ) (a b : List (Entry D)) → AllOf k (a ++ b) → AllOf k a
front_of k [] b h = tt
front_of k (e ∷ a) b h = (h.0, front_of k a b h.1)

front_notes : (k : ℕ) (a b : List Note) → AllNotesOf k (a ++ b) → AllNotesOf k a
front_notes k [] b h = tt
front_notes k (e ∷ a) b h = (h.0, front_notes k a b h.1)

-- nothing was added
pub same_entries : {D : Type 0} (k i : ℕ) (b c more grown : List (Entry D)) → c ≡ b ++ more → AllOf k more → c ≡ b ++ grown → Others i grown → i ≡ k → c ≡ b
same_entries {D} k i b c more grown e all f others same =
    let q : grown ≡ more = cancel b grown more (sym f ∙ e) in
    f ∙ ap (λ l. b ++ l) (no_entries k grown (subst (λ i. Others i grown) same others) (subst (AllOf k) (sym q) all)) ∙ sym (append_none b)

pub same_notes : (k i : ℕ) (b c more grown : List Note) → c ≡ b ++ more → AllNotesOf k more → c ≡ b ++ grown → OtherNotes i grown → i ≡ k → c ≡ b
same_notes k i b c more grown e all f others same =
    let q : grown ≡ more = cancel b grown more (sym f ∙ e) in
    f ∙ ap (λ l. b ++ l) (no_notes k grown (subst (λ i. OtherNotes i grown) same others) (subst (AllNotesOf k) (sym q) all)) ∙ sym (append_none b)

-- these alone were added
pub more_entries : {D : Type 0} (k i : ℕ) (b c more grown last : List (Entry D)) → c ≡ b ++ more → AllOf k more → c ≡ (b ++ grown) ++ last → Others i grown → i ≡ k → c ≡ b ++ last
more_entries k i b c more grown last e all f others same =
    let q : grown ++ last ≡ more = cancel b (grown ++ last) more (sym (joined b grown last) ∙ sym f ∙ e) in
    let none : grown ≡ [] = no_entries k grown (subst (λ i. Others i grown) same others) (front_of k grown last (subst (AllOf k) (sym q) all)) in
    f ∙ ap (λ l. (b ++ l) ++ last) none ∙ ap (λ l. l ++ last) (sym (append_none b))

pub more_notes : (k i : ℕ) (b c more grown last : List Note) → c ≡ b ++ more → AllNotesOf k more → c ≡ (b ++ grown) ++ last → OtherNotes i grown → i ≡ k → c ≡ b ++ last
more_notes k i b c more grown last e all f others same =
    let q : grown ++ last ≡ more = cancel b (grown ++ last) more (sym (joined b grown last) ∙ sym f ∙ e) in
    let none : grown ≡ [] = no_notes k grown (subst (λ i. OtherNotes i grown) same others) (front_notes k grown last (subst (AllNotesOf k) (sym q) all)) in
    f ∙ ap (λ l. (b ++ l) ++ last) none ∙ ap (λ l. l ++ last) (sym (append_none b))

-- each of a list that grew by k is of another, where none of k's came
pub others_of : {D : Type 0} (k j : ℕ) (more : List (Entry D)) → AllOf k more → (j ≡ k → ⊥) → Others j more
others_of k j [] a n = tt
others_of k j (e ∷ es) a n = ((λ h. n (sym h ∙ a.0)), others_of k j es a.1 n)

pub other_notes_of : (k j : ℕ) (more : List Note) → AllNotesOf k more → (j ≡ k → ⊥) → OtherNotes j more
other_notes_of k j [] a n = tt
other_notes_of k j (e ∷ es) a n = ((λ h. n (sym h ∙ a.0)), other_notes_of k j es a.1 n)
