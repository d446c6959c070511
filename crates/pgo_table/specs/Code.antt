-- What a seat's view shows as pairs, lists and numbers, by which a proof tells views apart.
use Rattle.std.specs.Prelude.{◌≡◌, ℕ, zero, suc, Bool, List, Option, refl}
use Rattle.std.specs.Coded.{Coded, code_by, coded×, coded_ℕ, coded_bool, coded_list, coded_option}
use Rattle.pgo_base.specs.Code.{coded_data, coded_state}
use Rattle.pgo_base.specs.Data.{Data}
use Rattle.pgo_base.specs.Lookup.{Name, Vars}
use Rattle.pgo_journal.specs.Code.{coded_entry, coded_note}
use Rattle.pgo_model.specs.Log.{Effect}
use Rattle.pgo_model.specs.Machine.{Entry, Note}
use Rattle.pgo_model.specs.System.{Resource, Owned}
use Rattle.pgo_workers.specs.Walk.{At, Own}
use Rattle.pgo_workers.specs.View.{Refusal, IsHeld, IsFull, Taking, Told}
use Rattle.pgo_workers.specs.Worlds.{Layout}
use Rattle.pgo_table.specs.SeatViews.{Holding, History, TableTerms, WordStep, SeatView}

abbrev refusal_numbers : Refusal → ℕ × (ℕ × ℕ)
refusal_numbers (IsHeld r h) = (0, (r, h))
refusal_numbers (IsFull n) = (1, (n, 0))

abbrev refusal_from : ℕ → ℕ × ℕ → Refusal
refusal_from zero p = IsHeld p.0 p.1
refusal_from (suc n) p = IsFull p.0

pub refusal_back : (x : Refusal) → refusal_from (refusal_numbers x).0 (refusal_numbers x).1 ≡ x
refusal_back (IsHeld r h) = refl
refusal_back (IsFull n) = refl

abbrev pub coded_refusal : Coded Refusal
coded_refusal = code_by (ℕ × (ℕ × ℕ)) (coded× coded_ℕ (coded× coded_ℕ coded_ℕ)) refusal_numbers (λ p. refusal_from p.0 p.1) refusal_back

abbrev pub coded_at : Coded At
coded_at = coded× coded_ℕ coded_data

abbrev pub coded_taking : Coded Taking
coded_taking =
    code_by ((ℕ × Option ℕ) × (List At × Own)) (coded× (coded× coded_ℕ (coded_option coded_ℕ)) (coded× (coded_list coded_at) coded_state)) (λ m. ((m.resource, m.refusal), (m.held, m.own))) (λ p. record { resource = p.0.0; refusal = p.0.1; held = p.1.0; own = p.1.1 }) (λ m. refl)

abbrev pub coded_told : Coded Told
coded_told =
    code_by (List Refusal × (List Taking × List (ℕ × ℕ))) (coded× (coded_list coded_refusal) (coded× (coded_list coded_taking) (coded_list (coded× coded_ℕ coded_ℕ)))) (λ t. (t.refused, (t.takes, t.passed))) (λ p. record { refused = p.0; takes = p.1.0; passed = p.1.1 }) (λ t. refl)

abbrev pub coded_resource : Coded Resource
coded_resource =
    code_by (ℕ × (Name × Option Data)) (coded× coded_ℕ (coded× (coded_list coded_ℕ) (coded_option coded_data))) (λ r. (r.number, (r.global, r.index))) (λ p. record { number = p.0; global = p.1.0; index = p.1.1 }) (λ r. refl)

abbrev pub coded_owned : Coded Owned
coded_owned = code_by (Name × List Data) (coded× (coded_list coded_ℕ) (coded_list coded_data)) (λ o. (o.variable, o.ids)) (λ p. record { variable = p.0; ids = p.1 }) (λ o. refl)

abbrev pub coded_layout : Coded Layout
coded_layout =
    code_by ((Vars × List Resource) × (List Data × List Owned)) (coded× (coded× coded_state (coded_list coded_resource)) (coded× (coded_list coded_data) (coded_list coded_owned))) (λ y. ((y.start, y.resources), (y.ids, y.own))) (λ p. record { start = p.0.0; resources = p.0.1; ids = p.1.0; own = p.1.1 }) (λ y. refl)

abbrev pub coded_holding : Coded Holding
coded_holding = code_by (ℕ × (Data × ℕ)) (coded× coded_ℕ (coded× coded_data coded_ℕ)) (λ h. (h.resource, (h.value, h.count))) (λ p. record { resource = p.0; value = p.1.0; count = p.1.1 }) (λ h. refl)

abbrev pub coded_history : Coded History
coded_history =
    code_by ((ℕ × List (Entry Effect)) × (List Note × Told)) (coded× (coded× coded_ℕ (coded_list coded_entry)) (coded× (coded_list coded_note) coded_told)) (λ a. ((a.number, a.entries), (a.notes, a.told))) (λ p. record { number = p.0.0; entries = p.0.1; notes = p.1.0; told = p.1.1 }) (λ a. refl)

abbrev pub coded_terms : Coded TableTerms
coded_terms = code_by (Layout × (ℕ × ℕ)) (coded× coded_layout (coded× coded_ℕ coded_ℕ)) (λ y. (y.layout, (y.steps, y.share))) (λ p. record { layout = p.0; steps = p.1.0; share = p.1.1 }) (λ y. refl)

abbrev pub coded_word_step : Coded WordStep
coded_word_step = code_by ((ℕ × ℕ) × (ℕ × ℕ)) (coded× (coded× coded_ℕ coded_ℕ) (coded× coded_ℕ coded_ℕ)) (λ x. ((x.word, x.number), (x.found, x.left))) (λ p. record { word = p.0.0; number = p.0.1; found = p.1.0; left = p.1.1 }) (λ x. refl)

abbrev pub coded_seat_view : Coded SeatView
coded_seat_view =
    code_by ((TableTerms × (Bool × History)) × ((List History × List ℕ) × ((Bool × List Holding) × List WordStep))) (coded× (coded× coded_terms (coded× coded_bool coded_history)) (coded× (coded× (coded_list coded_history) (coded_list coded_ℕ)) (coded× (coded× coded_bool (coded_list coded_holding)) (coded_list coded_word_step))))
    (λ v. ((v.terms, (v.gone, v.me)), ((v.joined, v.spare), ((v.has, v.holds), v.word_steps))))
    (λ p. record { terms = p.0.0; gone = p.0.1.0; me = p.0.1.1; joined = p.1.0.0; spare = p.1.0.1; has = p.1.1.0.0; holds = p.1.1.0.1; word_steps = p.1.1.1 })
    (λ v. refl)
