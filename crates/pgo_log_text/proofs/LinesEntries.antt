-- The fronts of entries, and the entries of version 1.
use Rattle.std.proofs.Common.{◌≡◌, ◌<◌, ◌^◌, ℕ, IsTrue, List, [], ◌∷◌, ◌++◌, length, map, decimal, Some, None, refl, sym, ap, subst, ◌∙◌, append_assoc}
use Rattle.std.specs.Prelude.{codes}
use Rattle.pgo_base.specs.Data.{Data}
use Rattle.pgo_base.specs.Lookup.{Name}
use Rattle.pgo_model.specs.ModuleText.{Line, line, flatten}
use Rattle.pgo_model.specs.Machine.{Entry}
use Rattle.pgo_model.specs.Log.{Change, Effect}
use Rattle.pgo_model.specs.Bundle.{fields, change_line, entry_lines}
use Rattle.pgo_model.specs.BundleParts.{is_read_name}
use Rattle.pgo_value_text.proofs.Steps.{bind_then, then_at, some_pair}
use Rattle.pgo_value_text.proofs.Runs.{expected}
use Rattle.pgo_log_text.specs.IsBundle.{LoggedEntry, AreChanges, IsEntry}
use Rattle.pgo_log_text.specs.Lines.{entry_front, entry_made, entry}
use Rattle.pgo_log_text.proofs.LinesFields.{this_field_some, this_field_finds, number_field_some, number_field_finds, name_field_some, name_field_finds, last_number_some, last_number_finds}
use Rattle.pgo_log_text.proofs.LinesChanges.{changes_some, changes_finds}
use Rattle.pgo_log_text.proofs.LinesParts.{PartText}

-- lines that stand one after another
pub flatten_append : (ls ms : List Line) → flatten (ls ++ ms) ≡ flatten ls ++ flatten ms
flatten_append [] ms = refl
flatten_append (l ∷ ls) ms = ap (λ z. l ++ z) (flatten_append ls ms) ∙ sym (append_assoc l (flatten ls) (flatten ms))

-- ---- the front of an entry's first line

abbrev pub Front : Type 0
Front = ℕ × ℕ × Name × Name

abbrev pub front_text : ℕ → Front → List ℕ → List ℕ
front_text i f r = codes "step " ++ (decimal i ++ 32 ∷ (decimal f.0 ++ 32 ∷ (decimal f.1 ++ 32 ∷ (f.2 ++ 32 ∷ (f.3 ++ 32 ∷ r)))))

pub record IsFront (f : Front) : Type 0 where
  pub instance : f.0 < 2 ^ 32
  pub attempt : f.1 < 2 ^ 32
  pub label : IsTrue (is_read_name f.2)
  pub next : IsTrue (is_read_name f.3)

front_joined : (b0 b1 b2 b3 b4 b5 r i k a l m : List ℕ) → b0 ≡ codes "step " ++ b1 → b1 ≡ i ++ 32 ∷ b2 → b2 ≡ k ++ 32 ∷ b3 → b3 ≡ a ++ 32 ∷ b4 → b4 ≡ l ++ 32 ∷ b5 → b5 ≡ m ++ 32 ∷ r
    → b0 ≡ codes "step " ++ (i ++ 32 ∷ (k ++ 32 ∷ (a ++ 32 ∷ (l ++ 32 ∷ (m ++ 32 ∷ r)))))
front_joined b0 b1 b2 b3 b4 b5 r i k a l m e0 e1 e2 e3 e4 e5 =
    e0 ∙ ap (λ z. codes "step " ++ z) (e1 ∙ ap (λ z. i ++ 32 ∷ z) (e2 ∙ ap (λ z. k ++ 32 ∷ z) (e3 ∙ ap (λ z. a ++ 32 ∷ z) (e4 ∙ ap (λ z. l ++ 32 ∷ z) e5))))

pub front_some : (i : ℕ) (bs : List ℕ) (f : Front) (r : List ℕ) → entry_front i bs ≡ Some (f, r) → (bs ≡ front_text i f r) × IsFront f
unfolding entry_front
front_some i bs f r h =
    let G : Front → Type 0 = λ f. (bs ≡ front_text i f r) × IsFront f in
    bind_then _ _ _ (G f) h (λ t b1 h0 h. bind_then _ _ _ (G f) h (λ u b2 h1 h. bind_then _ _ _ (G f) h (λ k b3 h2 h. bind_then _ _ _ (G f) h (λ a b4 h3 h.
    bind_then _ _ _ (G f) h (λ l b5 h4 h. bind_then _ _ _ (G f) h (λ m b6 h5 h.
    let e1 = this_field_some i b1 u b2 h1 in
    let e2 = number_field_some b2 k b3 h2 in
    let e3 = number_field_some b3 a b4 h3 in
    let e4 = name_field_some b4 l b5 h4 in
    let e5 = name_field_some b5 m b6 h5 in
    let same = some_pair {A = Front} (k, a, l, m) f b6 r h in
    subst G same.0 (
      front_joined bs b1 b2 b3 b4 b5 r (decimal i) (decimal k) (decimal a) l m (expected (codes "step ") bs t b1 h0) e1.0 e2.0 e3.0 e4.0 (e5.0 ∙ ap (λ z. m ++ 32 ∷ z) same.1),
      record { instance = e2.1; attempt = e3.1; label = e4.1; next = e5.1 },
    )))))))

pub front_finds : (i : ℕ) (f : Front) (r : List ℕ) → i < 2 ^ 32 → IsFront f → entry_front i (front_text i f r) ≡ Some (f, r)
unfolding entry_front
front_finds i f r below h =
    let b5 : List ℕ = f.3 ++ 32 ∷ r in
    let b4 : List ℕ = f.2 ++ 32 ∷ b5 in
    let b3 : List ℕ = decimal f.1 ++ 32 ∷ b4 in
    let b2 : List ℕ = decimal f.0 ++ 32 ∷ b3 in
    then_at _ _ _ tt b2 (this_field_finds i b2 below)
    (then_at _ _ _ f.0 b3 (number_field_finds f.0 b3 h.instance)
    (then_at _ _ _ f.1 b4 (number_field_finds f.1 b4 h.attempt)
    (then_at _ _ _ f.2 b5 (name_field_finds f.2 b5 h.label)
    (then_at _ _ _ f.3 r (name_field_finds f.3 r h.next) refl))))

-- the front of an entry
abbrev pub front_of : Entry Effect → Front
front_of e = (e.instance, e.attempt, e.change.label, e.change.next)

pub front_is : (e : Entry Effect) → IsEntry e → IsFront (front_of e)
front_is e h = record { instance = h.instance; attempt = h.attempt; label = h.label; next = h.next }

-- an entry is the one that is made of its front and its changes
pub made_is : (e : Entry Effect) → e.change.prints ≡ [] → entry_made (front_of e) e.change.changes ≡ e
made_is e h =
    let made : (ps : List Data) → Entry Effect = λ ps. record { instance = e.instance; attempt = e.attempt; change = record { label = e.change.label; next = e.change.next; changes = e.change.changes; prints = ps } } in
    ap made (sym h)

-- ---- an entry of version 1

entry_nest : (n k a l m c f r : List ℕ) → (line (fields (codes "step" ∷ n ∷ k ∷ a ∷ l ∷ m ∷ c ∷ [])) ++ f) ++ r
    ≡ codes "step " ++ (n ++ 32 ∷ (k ++ 32 ∷ (a ++ 32 ∷ (l ++ 32 ∷ (m ++ 32 ∷ (c ++ 10 ∷ (f ++ r)))))))
entry_nest n k a l m c f r = simp append_assoc

abbrev pub plain_text : ℕ → LoggedEntry → List ℕ
plain_text i e = flatten (entry_lines i e.entry)

-- nothing is told but the entry
pub record IsPlain (e : LoggedEntry) : Type 0 where
  pub entry : IsEntry e.entry
  pub prints : e.prints ≡ None
  pub notes : e.notes ≡ []

abbrev pub itself : LoggedEntry → LoggedEntry
itself e = e

pub plain_some : (i : ℕ) (bs : List ℕ) (e : LoggedEntry) (r : List ℕ) → entry i bs ≡ Some (e, r) → PartText itself plain_text IsPlain i bs e r
unfolding entry
plain_some i bs e r h =
    let G : LoggedEntry → Type 0 = λ e. PartText itself plain_text IsPlain i bs e r in
    bind_then _ _ _ (G e) h (λ f b1 h0 h. bind_then _ _ _ (G e) h (λ n b2 h1 h. bind_then _ _ _ (G e) h (λ cs b3 h2 h.
    let e0 = front_some i bs f b1 h0 in
    let e1 = last_number_some b1 n b2 h1 in
    let e2 = changes_some n [] b2 cs b3 h2 in
    let made : LoggedEntry = record { entry = entry_made f cs; prints = None; notes = [] } in
    let same = some_pair {A = LoggedEntry} made e b3 r h in
    let many : length cs ≡ n = ap length e2.is_all ∙ e2.count in
    subst G same.0 (record {
      part = made;
      seen = refl;
      text_is = e0.0 ∙ ap (front_text i f) (e1.0 ∙ (λ j. decimal (sym many j) ++ 10 ∷ (e2.text_is ∙ (λ k. flatten (map change_line (sym e2.is_all k)) ++ same.1 k)) j))
          ∙ sym (entry_nest (decimal i) (decimal f.0) (decimal f.1) f.2 f.3 (decimal (length cs)) (flatten (map change_line cs)) r);
      valid = record {
        entry = record { instance = e0.1.instance; attempt = e0.1.attempt; label = e0.1.label; next = e0.1.next; count = subst (λ x. x < 2 ^ 32) (sym many) e1.1; changes = subst AreChanges (sym e2.is_all) e2.read; prints = refl };
        prints = refl;
        notes = refl;
      };
    }))))

pub plain_finds : (i : ℕ) (e : LoggedEntry) (r : List ℕ) → i < 2 ^ 32 → IsPlain e → entry i (plain_text i e ++ r) ≡ Some (e, r)
unfolding entry
plain_finds i e r below h =
    let x : Entry Effect = e.entry in
    let cs : List Change = x.change.changes in
    let b2 : List ℕ = flatten (map change_line cs) ++ r in
    let b1 : List ℕ = decimal (length cs) ++ 10 ∷ b2 in
    let same : ◌≡◌ {A = LoggedEntry} (record { entry = entry_made (front_of x) cs; prints = None; notes = [] }) e =
    λ j. record { entry = made_is x h.entry.prints j; prints = sym h.prints j; notes = sym h.notes j } in
    ap (entry i) (entry_nest (decimal i) (decimal x.instance) (decimal x.attempt) x.change.label x.change.next (decimal (length cs)) (flatten (map change_line cs)) r)
    ∙ then_at _ _ _ (front_of x) b1 (front_finds i (front_of x) b1 below (front_is x h.entry))
    (then_at _ _ _ (length cs) b2 (last_number_finds (length cs) b2 h.entry.count)
    (then_at _ _ _ cs r (changes_finds cs (length cs) [] r refl h.entry.changes)
    (ap (λ z. Some (z, r)) same)))
