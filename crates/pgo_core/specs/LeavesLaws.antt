-- What the calls of one instance leave, said of several calls.
use Rattle.std.proofs.Common.{◌≡◌, ℕ, List, [], ◌∷◌, ◌++◌, refl, sym, ap, ◌∙◌, subst, append_assoc}
use Rattle.std.proofs.lemmas.List.{append-nil}
use Rattle.pgo_model.specs.Machine.{Entry, Note, among}
use Rattle.pgo_workers.specs.View.{resources_of}
use Rattle.pgo_core.specs.AllViews.{AllViews, AllOf, AllNotesOf, Leaves}

all_append : {D : Type 0} (k : ℕ) (a b : List (Entry D)) → AllOf k a → AllOf k b → AllOf k (a ++ b)
all_append k [] b p q = q
all_append k (e ∷ a) b p q = (p.0, all_append k a b p.1 q)

notes_append : (k : ℕ) (a b : List Note) → AllNotesOf k a → AllNotesOf k b → AllNotesOf k (a ++ b)
notes_append k [] b p q = q
notes_append k (n ∷ a) b p q = (p.0, notes_append k a b p.1 q)

module _ {D : Type 0} where
  pub leaves_same : (s : AllViews D) → Leaves s s
  leaves_same s = record {
    current = refl;
    same = λ j. record { instance = refl; resources = refl; steps = refl; share = refl };
    told = λ j. refl;
    held = λ j n. refl;
    entries_more = [];
    notes_more = [];
    entries = λ j. sym (append-nil (s.view j).entries);
    notes = λ j. sym (append-nil (s.view j).notes);
    entries_of = tt;
    notes_of = tt;
    lent = λ e. (e, λ r. refl);
    moved = λ e. (e, refl);
    content = λ e r n. refl;
  }

  pub leaves_on : (s t u : AllViews D) → Leaves s t → Leaves t u → Leaves s u
  leaves_on s t u a b = record {
    current = b.current ∙ a.current;
    same = λ j. record {
      instance = (b.same j).instance ∙ (a.same j).instance;
      resources = (b.same j).resources ∙ (a.same j).resources;
      steps = (b.same j).steps ∙ (a.same j).steps;
      share = (b.same j).share ∙ (a.same j).share;
    };
    told = λ j. b.told j ∙ a.told j;
    held = λ j n. b.held j (λ e. n (e ∙ a.current)) ∙ a.held j n;
    entries_more = a.entries_more ++ b.entries_more;
    notes_more = a.notes_more ++ b.notes_more;
    entries = λ j. b.entries j ∙ ap (λ l. l ++ b.entries_more) (a.entries j) ∙ append_assoc (s.view j).entries a.entries_more b.entries_more;
    notes = λ j. b.notes j ∙ ap (λ l. l ++ b.notes_more) (a.notes j) ∙ append_assoc (s.view j).notes a.notes_more b.notes_more;
    entries_of = all_append s.current a.entries_more b.entries_more a.entries_of (subst (λ k. AllOf k b.entries_more) a.current b.entries_of);
    notes_of = notes_append s.current a.notes_more b.notes_more a.notes_of (subst (λ k. AllNotesOf k b.notes_more) a.current b.notes_of);
    lent = λ e. let x = b.lent e in let y = a.lent x.0 in (y.0, λ r. x.1 r ∙ y.1 r);
    moved = λ e. let x = b.moved e in let y = a.moved x.0 in (y.0, subst (λ k. resources_of (u.view k).held ≡ resources_of (t.view k).held) a.current x.1 ∙ y.1);
    content = λ e r n.
        let still = (b.moved e).0 in
        b.content e r (ap (λ k. among r (resources_of (t.view k).held)) a.current ∙ ap (among r) (a.moved still).1 ∙ n) ∙ a.content still r n;
  }
