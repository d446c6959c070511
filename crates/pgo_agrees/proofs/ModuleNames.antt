-- The names that the module of an accepted specification writes are as its laws ask.
use Rattle.std.proofs.Common.{◌≡◌, Bool, true, false, not, ◌&&◌, List, [], ◌∷◌, Some, None, refl, ap, sym, ◌∙◌, inr, arith}
use Rattle.std.specs.Prelude.{if◌then◌else◌}
use Rattle.std.specs.List.{AllByRecursion}
use Rattle.pgo_base.specs.Lookup.{Name, same_name, find}
use Rattle.pgo_model.specs.Names.{same_name-is, is_among}
use Rattle.pgo_model.specs.Sequences.{operators, assert_name}
use Rattle.pgo_model.specs.Written.{self_name}
use Rattle.pgo_syntax.specs.declared.spec.Spec.{Spec}
use Rattle.pgo_scope.specs.Twice.{is_reserved}
use Rattle.pgo_bound.specs.Among.{IsAmong, all_at}
use Rattle.pgo_bound.specs.State.{variables_of}
use Rattle.pgo_accept.proofs.Counted.{different}
use Rattle.pgo_accept.proofs.Fitting.{ArgumentsFit}
use Rattle.pgo_sections.specs.Code.{content_name}
use Rattle.pgo_meaning.proofs.Traces.{among_is}
use Rattle.pgo_translate.specs.Premises.{ModuleNames, further_names, is_further}
use Rattle.pgo_agrees.specs.Accepted.{IsOfText, ProcessOfText}
use Rattle.pgo_agrees.proofs.Blocks.{dollar_first, bytes_no_dollar}
use Rattle.pgo_agrees.proofs.Further.{IsTaken, taken_not_self}
use Rattle.pgo_agrees.proofs.FurtherNames.{IsNameOf, of_proc_set, of_terminating, of_process, of_label, name_of, named_further, further_not_made}
use Rattle.pgo_agrees.proofs.Kept.{NoFindings, NoLabelFindings}
use Rattle.pgo_agrees.proofs.Meanings.{reserved_apart}
use Rattle.pgo_agrees.proofs.NameCounts.{times_some, names_once}
use Rattle.pgo_agrees.proofs.Names.{has_mark, written_marked, identifier_bytes}
use Rattle.pgo_agrees.proofs.Variables.{not_among, not_self, variable_is, variable_written}

-- where all names of a table pass a test, one that doesn't is not found there
found_none : {A : Type 0} (f : Name → Bool) (x : Name) (rows : List (Name × A)) → AllByRecursion (λ r. f r.0 ≡ true) rows → f x ≡ false → find x rows ≡ None
found_none f x [] h e = refl
found_none {A} f x (r ∷ rows) h e = go (same_name x r.0) refl (found_none f x rows h.1 e)
  where
    go : (b : Bool) → same_name x r.0 ≡ b → find x rows ≡ None → (if b then Some r.1 else find x rows) ≡ None
    go true q more = absurd (let z : true ≡ false = sym h.0 ∙ ap f (sym (same_name-is x r.0 q)) ∙ e in cc)
    go false q more = more

abbrev is_operator : Name → Bool
is_operator x = is_reserved x && not (has_mark x)

operators_so : AllByRecursion (λ r. is_operator r.0 ≡ true) operators
operators_so = (refl, (refl, (refl, (refl, (refl, (refl, (refl, tt)))))))

module _ (s : Spec) (k : NoFindings s) (labels : NoLabelFindings s) (fit : AllByRecursion (ArgumentsFit s.archetypes) s.processes) (of_text : IsOfText s) where
  further_not : (x : Name) → (IsNameOf s x → ⊥) → is_further s x ≡ false
  further_not x f = not_among x (further_names s) (λ a. f (name_of s k labels x a))

  named : (x : Name) → is_further s x ≡ true → IsNameOf s x
  named x h = name_of s k labels x (among_is x (further_names s) h)

  taken : (x : Name) → IsNameOf s x → IsTaken s x
  taken x n = inr (named_further s k labels x n)

  no_operator : (x : Name) → IsNameOf s x → is_operator x ≡ false
  no_operator x n = go (is_reserved x) (has_mark x) refl refl
    where
      go : (a b : Bool) → is_reserved x ≡ a → has_mark x ≡ b → a && not b ≡ false
      go true false e f = absurd (reserved_apart s k fit of_text x e f (taken x n))
      go true true e f = refl
      go false b e f = refl

  no_content : IsNameOf s content_name → ⊥
  no_content (of_proc_set e) = let q : true ≡ false = ap dollar_first e in cc
  no_content (of_terminating e) = let q : true ≡ false = ap dollar_first e in cc
  no_content (of_process p a e) =
      let t = all_at ProcessOfText p s.processes of_text.processes a in
      let n = bytes_no_dollar p.name.name (identifier_bytes p.name.name t.0) in
      let q : true ≡ false = ap dollar_first e ∙ n in cc
  no_content (of_label p a y b n c e) = let z : false ≡ true = ap has_mark e ∙ written_marked p.name.name y in cc

  variable_apart : (x : Name) → is_among x (variables_of s) ≡ true → is_further s x ≡ false
  variable_apart x h = not_among x (further_names s) both
    where
      both : IsAmong x (further_names s) → ⊥
      both a =
          let v = times_some x (variables_of s) (among_is x (variables_of s) h) in
          let f = times_some x (further_names s) a in
          let o = names_once s k labels fit x in
          omega (arith, v, f, o)

  pub module_names : ModuleNames s
  module_names = record {
    self_variable = not_among self_name (variables_of s) (λ a. not_self s k.clashes fit self_name (variable_is s self_name a) refl);
    self_further = further_not self_name (λ n. taken_not_self s k.clashes fit self_name (taken self_name n) refl);
    written = λ x h. (variable_written s k fit of_text x h).0;
    further = λ x h. further_not_made s k labels fit of_text x (named x h);
    apart = variable_apart;
    differ = different (further_names s) (λ x. omega (arith, names_once s k labels fit x));
    operators = λ x h. found_none is_operator x operators operators_so (no_operator x (named x h));
    assert = further_not assert_name (λ n. reserved_apart s k fit of_text assert_name refl refl (taken assert_name n));
    content = further_not content_name no_content;
  }
