-- What a block's run says of reads and writes by a mapping.
use Rattle.std.proofs.Common.{◌≡◌, List, [], ◌∷◌, map, Option, Some, None, option_map, Result, Ok, Err, Bor, refl, ap, ◌∙◌, subst}
use Rattle.pgo_base.specs.Data.{Data}
use Rattle.pgo_base.specs.Lookup.{Names}
use Rattle.pgo_base.specs.View.{data_of}
use Rattle.pgo_base.specs.declared.module.Defined.{Defined}
use Rattle.pgo_base.specs.declared.value.Value.{Value}
use Rattle.pgo_model.specs.ModuleView.{defined_view}
use Rattle.pgo_model.specs.Options.{on}
use Rattle.pgo_model.specs.Outcome.{NoValue}
use Rattle.pgo_model.specs.Val.{meanings}
use Rattle.pgo_syntax.specs.Statement.{Statement, labeled}
use Rattle.pgo_syntax.specs.declared.bound.Mapping.TheVariants as mappings
use Rattle.pgo_syntax.specs.declared.name.PlacedName.{PlacedName}
use Rattle.pgo_sections.specs.BoundValues.{bindable}
use Rattle.pgo_sections.specs.Code.{value_name}
use Rattle.pgo_sections.specs.Context.{content_state}
use Rattle.pgo_sections.specs.Exec.{Gives, Stops, read_end, write_end}
use Rattle.pgo_sections.specs.Macros.{block_read, block_write}
use Rattle.pgo_sections.specs.SectionRun.{ChoiceMade, begun, Yielded, with_value}
use Rattle.pgo_meaning.specs.Parameters.{block_code}
use Rattle.pgo_resource.specs.Answers.{SameWords}
use Rattle.pgo_resource.specs.Picked.{words_of, choices_of}
use Rattle.pgo_resource.specs.declared.picks.Picks.{Picks}
use Rattle.pgo_resource.specs.declared.resource.MacroEnv.{MacroEnv}
use Rattle.pgo_resource.specs.declared.resource.OpStop.{OpStop}
use Rattle.pgo_resource.specs.declared.resource.OpStop.TheVariants as stops
use Rattle.pgo_macro_run.specs.Answers.{EndsSo, GivesSo, ReadsSo, WritesSo, read_view}
use Rattle.pgo_macro_run.specs.AroundView.{given_of, BlockSo}
use Rattle.pgo_macro_run.specs.Runs.{rows}
use Rattle.pgo_macro_run.specs.declared.around.Around.{Around}
use Rattle.pgo_macro_run.proofs.Ended.{read_so, write_so}

-- ---- the identity
abbrev unassigned : Data → Data × Option Data
unassigned v = (v, None)

itself : (o : Option Data) (old : Data) (cs : List ChoiceMade) → read_end (with_value o (begun (content_state old) cs) (λ v. Yielded v (begun (content_state old) cs))) ≡ on (Stops NoValue cs) o (λ v. Gives (unassigned v) cs)
itself None old cs = refl
itself (Some v) old cs = refl

written : (o : Option Data) (old : Data) (cs : List ChoiceMade) → write_end (with_value o (begun (content_state old) cs) (λ v. Yielded v (begun (content_state old) cs))) ≡ on (Stops NoValue cs) o (λ v. Gives v cs)
written None old cs = refl
written (Some v) old cs = refl

gave : (o : Option Data) (w : Data × Option Data) (cs : List ChoiceMade) → option_map unassigned o ≡ Some w → on (Stops NoValue cs) o (λ v. Gives (unassigned v) cs) ≡ Gives w cs
gave None w cs h = absurd (cc)
gave (Some v) w cs h = let e : unassigned v ≡ w = cc in ap (λ z. Gives z cs) e

gave_none : (o : Option Data) (cs : List ChoiceMade) → option_map unassigned o ≡ None → on (Stops NoValue cs) o (λ v. Gives (unassigned v) cs) ≡ Stops NoValue cs
gave_none None cs h = refl
gave_none (Some v) cs h = absurd (cc)

pub reads_itself : (ds : List Defined) (id old : Data) (p : Picks) (r : Result (Value × Option Value) OpStop) → GivesSo read_view (option_map unassigned (bindable (Some old))) r → ReadsSo mappings.Identity ds id old p p r
reads_itself ds id old p (Ok r) h = ((refl, refl), itself (bindable (Some old)) old (choices_of p) ∙ gave (bindable (Some old)) (read_view r) (choices_of p) h)
reads_itself ds id old p (Err stops.NoValue) h = ((refl, refl), itself (bindable (Some old)) old (choices_of p) ∙ gave_none (bindable (Some old)) (choices_of p) h)
reads_itself ds id old p (Err stops.Blocked) h = absurd h
reads_itself ds id old p (Err stops.AssertFails) h = absurd h
reads_itself ds id old p (Err stops.NoMemory) h = ((refl, refl), tt)

pub writes_itself : (ds : List Defined) (id old v : Data) (p : Picks) (r : Result Value OpStop) → GivesSo data_of (bindable (Some v)) r → WritesSo mappings.Identity ds id old v p p r
writes_itself ds id old v p (Ok r) h = ((refl, refl), written (bindable (Some v)) old (choices_of p) ∙ ap (λ o. on (Stops NoValue (choices_of p)) o (λ w. Gives w (choices_of p))) h)
writes_itself ds id old v p (Err stops.NoValue) h = ((refl, refl), written (bindable (Some v)) old (choices_of p) ∙ ap (λ o. on (Stops NoValue (choices_of p)) o (λ w. Gives w (choices_of p))) h)
writes_itself ds id old v p (Err stops.Blocked) h = absurd h
writes_itself ds id old v p (Err stops.AssertFails) h = absurd h
writes_itself ds id old v p (Err stops.NoMemory) h = ((refl, refl), tt)

-- ---- blocks
module _ (a : Around) (env : MacroEnv) (old : Bor Value) (same : a.env ≡ env) (content : a.old ≡ old) (b : List (Option PlacedName × Statement)) (names : Names) (p q : Picks) (words : SameWords p q) (r : Result (Value × Option Value) OpStop) where
  pub block_reads : names ≡ [] → BlockSo (rows (given_of a (words_of p)) (labeled b) names (record { content = None; choices = choices_of p })) q r
      → EndsSo read_view (λ cs. block_read (block_code b) (meanings (map defined_view env.defs.now) [] None) (data_of env.id.now) (data_of old.now) (words_of p) cs) p q r
  block_reads none h =
      subst (λ (o : Bor Value). EndsSo read_view (λ cs. block_read (block_code b) (meanings (map defined_view env.defs.now) [] None) (data_of env.id.now) (data_of o.now) (words_of p) cs) p q r) content
      (subst (λ (e : MacroEnv). EndsSo read_view (λ cs. block_read (block_code b) (meanings (map defined_view e.defs.now) [] None) (data_of e.id.now) (data_of a.old.now) (words_of p) cs) p q r) same
      (read_so (map defined_view a.env.defs.now) (data_of a.env.id.now) (data_of a.old.now) (words_of p) (labeled b) [] p q words r
      (subst (λ ns. BlockSo (rows (given_of a (words_of p)) (labeled b) ns (record { content = None; choices = choices_of p })) q r) none h)))

  pub block_writes : (v : Data) → names ≡ (value_name, Some v) ∷ [] → BlockSo (rows (given_of a (words_of p)) (labeled b) names (record { content = None; choices = choices_of p })) q r
      → EndsSo (λ (z : Value × Option Value). data_of z.0) (λ cs. block_write (block_code b) (meanings (map defined_view env.defs.now) [] None) (data_of env.id.now) (data_of old.now) v (words_of p) cs) p q r
  block_writes v one h =
      subst (λ (o : Bor Value). EndsSo (λ (z : Value × Option Value). data_of z.0) (λ cs. block_write (block_code b) (meanings (map defined_view env.defs.now) [] None) (data_of env.id.now) (data_of o.now) v (words_of p) cs) p q r) content
      (subst (λ (e : MacroEnv). EndsSo (λ (z : Value × Option Value). data_of z.0) (λ cs. block_write (block_code b) (meanings (map defined_view e.defs.now) [] None) (data_of e.id.now) (data_of a.old.now) v (words_of p) cs) p q r) same
      (write_so (map defined_view a.env.defs.now) (data_of a.env.id.now) (data_of a.old.now) (words_of p) (labeled b) ((value_name, Some v) ∷ []) p q words r
      (subst (λ ns. BlockSo (rows (given_of a (words_of p)) (labeled b) ns (record { content = None; choices = choices_of p })) q r) one h)))
