-- What a journal shows as pairs, lists and numbers, by which a proof tells journals apart.
use Rattle.std.specs.Prelude.{◌≡◌, ℕ, zero, suc, List, Option, refl}
use Rattle.std.specs.Coded.{Coded, code_by, coded×, coded_ℕ, coded_list, coded_option}
use Rattle.pgo_base.specs.Code.{coded_data, coded_state}
use Rattle.pgo_base.specs.Data.{Data}
use Rattle.pgo_base.specs.Lookup.{Name, Vars}
use Rattle.pgo_model.specs.Log.{Owner, OfResource, OfInstance, Unowned, Component, Change, Effect}
use Rattle.pgo_model.specs.Machine.{Entry, Note}
use Rattle.pgo_model.specs.Outcome.{Kind, Blocked, NoValue, AssertFails, Many}
use Rattle.pgo_journal.specs.Journal.{JournalView}

abbrev owner_number : Owner → ℕ × ℕ
owner_number Unowned = (0, 0)
owner_number (OfResource n) = (1, n)
owner_number (OfInstance n) = (2, n)

abbrev owner_from : ℕ → ℕ → Owner
owner_from zero n = Unowned
owner_from (suc zero) n = OfResource n
owner_from (suc (suc k)) n = OfInstance n

pub owner_back : (o : Owner) → owner_from (owner_number o).0 (owner_number o).1 ≡ o
owner_back Unowned = refl
owner_back (OfResource n) = refl
owner_back (OfInstance n) = refl

abbrev pub coded_owner : Coded Owner
coded_owner = code_by (ℕ × ℕ) (coded× coded_ℕ coded_ℕ) owner_number (λ p. owner_from p.0 p.1) owner_back

abbrev pub coded_component : Coded Component
coded_component =
    code_by (Name × (Option Data × Owner)) (coded× (coded_list coded_ℕ) (coded× (coded_option coded_data) coded_owner)) (λ c. (c.variable, (c.index, c.owner))) (λ p. record { variable = p.0; index = p.1.0; owner = p.1.1 }) (λ c. refl)

abbrev pub coded_change : Coded Change
coded_change =
    code_by (Component × Data) (coded× coded_component coded_data) (λ c. (c.component, c.value)) (λ p. record { component = p.0; value = p.1 }) (λ c. refl)

abbrev pub coded_effect : Coded Effect
coded_effect =
    code_by ((Name × Name) × (List Change × List Data)) (coded× (coded× (coded_list coded_ℕ) (coded_list coded_ℕ)) (coded× (coded_list coded_change) (coded_list coded_data))) (λ e. ((e.label, e.next), (e.changes, e.prints))) (λ p. record { label = p.0.0; next = p.0.1; changes = p.1.0; prints = p.1.1 }) (λ e. refl)

abbrev pub coded_entry : Coded (Entry Effect)
coded_entry =
    code_by (ℕ × (ℕ × Effect)) (coded× coded_ℕ (coded× coded_ℕ coded_effect)) (λ e. (e.instance, (e.attempt, e.change))) (λ p. record { instance = p.0; attempt = p.1.0; change = p.1.1 }) (λ e. refl)

abbrev kind_number : Kind → ℕ
kind_number Blocked = 0
kind_number NoValue = 1
kind_number AssertFails = 2
kind_number Many = 3

abbrev kind_from : ℕ → Kind
kind_from zero = Blocked
kind_from (suc zero) = NoValue
kind_from (suc (suc zero)) = AssertFails
kind_from (suc (suc (suc n))) = Many

pub kind_back : (k : Kind) → kind_from (kind_number k) ≡ k
kind_back Blocked = refl
kind_back NoValue = refl
kind_back AssertFails = refl
kind_back Many = refl

abbrev pub coded_kind : Coded Kind
coded_kind = code_by ℕ coded_ℕ kind_number kind_from kind_back

abbrev pub coded_note : Coded Note
coded_note =
    code_by ((ℕ × ℕ) × (Kind × ℕ)) (coded× (coded× coded_ℕ coded_ℕ) (coded× coded_kind coded_ℕ)) (λ n. ((n.instance, n.attempt), (n.kind, n.position))) (λ p. record { instance = p.0.0; attempt = p.0.1; kind = p.1.0; position = p.1.1 }) (λ n. refl)

abbrev pub coded_journal : Coded JournalView
coded_journal =
    code_by ((Vars × List (Entry Effect)) × (List Note × (ℕ × ℕ))) (coded× (coded× coded_state (coded_list coded_entry)) (coded× (coded_list coded_note) (coded× coded_ℕ coded_ℕ))) (λ j. ((j.start, j.entries), (j.notes, (j.steps, j.room)))) (λ p. record { start = p.0.0; entries = p.0.1; notes = p.1.0; steps = p.1.1.0; room = p.1.1.1 }) (λ j. refl)
