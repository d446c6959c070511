-- A section that leads somewhere is one of a label of its instance's process, at which the instance is.
use Rattle.std.proofs.Common.{◌≡◌, ℕ, List, Option, Some, None, refl, ap, ◌∙◌, arith}
use Rattle.pgo_base.specs.Data.{Data, boolean, integer, string, model, set, function}
use Rattle.pgo_base.specs.Lookup.{Name, Vars, find}
use Rattle.pgo_model.specs.Choice.{word_at}
use Rattle.pgo_model.specs.Machine.{nth}
use Rattle.pgo_model.specs.Options.{on}
use Rattle.pgo_model.specs.Outcome.{Next}
use Rattle.pgo_model.specs.System.{Words}
use Rattle.pgo_model.specs.Written.{pc}
use Rattle.pgo_syntax.specs.declared.bound.Bound.{Bound}
use Rattle.pgo_syntax.specs.declared.bound.Instance.{Instance}
use Rattle.pgo_bound.specs.Declares.{value_in}
use Rattle.pgo_bound.specs.Sound.{IsLabel}
use Rattle.pgo_bound.specs.State.{id_of}
use Rattle.pgo_sections.specs.Code.{Code}
use Rattle.pgo_sections.specs.Section.{section}
use Rattle.pgo_meaning.specs.LabelSections.{AreUnlabelled, NoneIsDone}
use Rattle.pgo_meaning.specs.Sect.{Allows, code_at, context_of, nothing, Sect}
use Rattle.pgo_meaning.specs.TreesAgree.{sections_at}
use Rattle.pgo_meaning.proofs.LabelSections.{section_label}
use Rattle.pgo_meaning.proofs.SectionCode.{section_has_blocks}
use Rattle.pgo_accounts.proofs.Words.{by_list}

-- instance number k is at this label, and the label's section leads from s to t
pub record Leads (b : Bound) (k : ℕ) (s t : Vars) (d : Words) (prints : List Data) : Type 0 where
  pub instance : Instance
  pub there : nth b.instances k ≡ Some instance
  pub label : Name
  pub at_label : value_in s pc (id_of instance) ≡ Some (string label)
  pub code : Code
  pub section_is : find label (sections_at b instance) ≡ Some code
  pub leads : (section (context_of b instance s) code d).end ≡ Next t prints

module _ (b : Bound) (k : ℕ) (s t : Vars) (d : Words) (prints : List Data) where
  by_code : (i : Instance) → nth b.instances k ≡ Some i → (l : Name) → value_in s pc (id_of i) ≡ Some (string l) → (o : Option Code) → find l (sections_at b i) ≡ o
      → (on nothing o (λ c. section (context_of b i s) c d)).end ≡ Next t prints → Leads b k s t d prints
  by_code i at_k l at_l None e h = absurd (grind (arith, h))
  by_code i at_k l at_l (Some c) e h = record { instance = i; there = at_k; label = l; at_label = at_l; code = c; section_is = e; leads = h }

  by_place : (i : Instance) → nth b.instances k ≡ Some i → (o : Option Data) → value_in s pc (id_of i) ≡ o
      → (on nothing (code_at b i o) (λ c. section (context_of b i s) c d)).end ≡ Next t prints → Leads b k s t d prints
  by_place i at_k None e h = absurd (grind (arith, h))
  by_place i at_k (Some (string l)) e h = by_code i at_k l e (find l (sections_at b i)) refl h
  by_place i at_k (Some (boolean z)) e h = absurd (grind (arith, h))
  by_place i at_k (Some (integer z)) e h = absurd (grind (arith, h))
  by_place i at_k (Some (model z)) e h = absurd (grind (arith, h))
  by_place i at_k (Some (set z)) e h = absurd (grind (arith, h))
  by_place i at_k (Some (function z)) e h = absurd (grind (arith, h))

  by_instance : (o : Option Instance) → nth b.instances k ≡ o
      → (on nothing o (λ i. on nothing (code_at b i (value_in s pc (id_of i))) (λ c. section (context_of b i s) c d))).end ≡ Next t prints → Leads b k s t d prints
  by_instance None e h = absurd (grind (arith, h))
  by_instance (Some i) e h = by_place i e (value_in s pc (id_of i)) refl h

  pub leads_from : (Sect b k s d).end ≡ Next t prints → Leads b k s t d prints
  leads_from h = by_instance (nth b.instances k) refl h

-- the section at an instance's label
sect_is : (b : Bound) (k : ℕ) (s : Vars) (i : Instance) (l : Name) (c : Code) → nth b.instances k ≡ Some i → value_in s pc (id_of i) ≡ Some (string l) → find l (sections_at b i) ≡ Some c
    → (d : Words) → Sect b k s d ≡ section (context_of b i s) c d
sect_is b k s i l c at_k at_l found d =
    ap (λ q. on nothing q (λ i. on nothing (code_at b i (value_in s pc (id_of i))) (λ c. section (context_of b i s) c d))) at_k
    ∙ ap (λ q. on nothing (code_at b i q) (λ c. section (context_of b i s) c d)) at_l
    ∙ ap (λ q. on nothing q (λ c. section (context_of b i s) c d)) found

module _ (b : Bound) (k : ℕ) (s t : Vars) (d : Words) (prints : List Data) (x : Leads b k s t d prints) where
  -- it is a label of the process
  pub is_label : AreUnlabelled b.spec.macros → NoneIsDone x.instance → IsLabel x.instance x.label
  is_label unlabelled none = section_label b x.instance unlabelled none x.label x.code x.section_is

  -- some list of words leads there too
  pub allows : Allows b k s t
  allows =
      let i = x.instance in
      let blocks = section_has_blocks b.spec.macros i.process i.archetype i.bindings x.label x.code x.section_is in
      let r = by_list (context_of b i s) t x.code d prints blocks x.leads in
      record { words = r.words; prints = r.prints; leads = ap (λ y. y.end) (sect_is b k s i x.label x.code x.there x.at_label x.section_is (word_at r.words)) ∙ r.leads }
