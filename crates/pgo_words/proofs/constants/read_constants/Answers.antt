-- Each turn reads one word more.
use Rattle.std.proofs.Common.{◌≡◌, ◌+◌, ◌||◌, true, false, [], ◌∷◌, ◌++◌, map, option_map, drop, get_or, Some, sym, ◌∙◌, ap, subst}
use Rattle.std.proofs.lemmas.List.{drop_all, map-append}
use Rattle.pgo_base.specs.View.{named_data}
use Rattle.pgo_model.specs.ValueText.{same_bytes}
use Rattle.pgo_words.specs.Constants.{has_name, ReadsConstant, ConstantsOnly, ReadsRest}
use Rattle.pgo_words.specs.Parts.{texts}
use Rattle.pgo_words.proofs.ConstantWords.{nothing, has_one_more, next_word, rest_step, rest_none, rest_twice, rest_end}
use Rattle.pgo_words.proofs.constants.read_constants.Goals as goal

pub returns-in-None : goal.returns-in-None
returns-in-None c =
    let words = texts c.args.words.now in
    let i = c.loop-word.word-index in
    let item = (get_or c.args.words.now i nothing).now in
    let at = next_word c.args.words.now i c.loop-word-test.true in
    let read = map named_data c.loop-word.list.items in
    let none = subst (λ o. ReadsConstant item (option_map named_data o)) c.in-None.is c.in_ok-constant.ensures in
    rest_none words read item (texts (drop (i + 1) c.args.words.now)) (subst (ReadsRest words read) at c.loop-word.invariant.0) none

pub returns-then-contains : goal.returns-then-contains
returns-then-contains c =
    let words = texts c.args.words.now in
    let i = c.loop-word.word-index in
    let item = (get_or c.args.words.now i nothing).now in
    let at = next_word c.args.words.now i c.loop-word-test.true in
    let read = map named_data c.loop-word.list.items in
    let constant = named_data c.in-Some.constant in
    let one = subst (λ o. ReadsConstant item (option_map named_data o)) c.in-Some.is c.in_ok-constant.ensures in
    let again : has_name constant.0 read ≡ true
    = sym (c.loop-word.invariant.1 constant.0) ∙ sym c.contains.ensures ∙ c.if-contains.true
    in
    rest_twice words read item (texts (drop (i + 1) c.args.words.now)) constant (subst (ReadsRest words read) at c.loop-word.invariant.0) one again

pub loop-word-preserved : goal.loop-word-preserved
loop-word-preserved c =
    let words = texts c.args.words.now in
    let i = c.loop-word.word-index in
    let item = (get_or c.args.words.now i nothing).now in
    let at = next_word c.args.words.now i c.loop-word-test.true in
    let list = c.loop-word.list.items in
    let read = map named_data list in
    let constant = named_data c.in-Some.constant in
    let one = subst (λ o. ReadsConstant item (option_map named_data o)) c.in-Some.is c.in_ok-constant.ensures in
    let fresh : has_name constant.0 read ≡ false
    = sym (c.loop-word.invariant.1 constant.0) ∙ sym c.contains.ensures ∙ c.if-contains.false
    in
    let more : map named_data c.push.new.self.items ≡ read ++ constant ∷ []
    = ap (map named_data) c.in_ok-push-in-Some.ensures.items ∙ map-append named_data list (c.in-Some.constant ∷ [])
    in (
      subst (λ r. ReadsRest words r (texts (drop (i + 1) c.args.words.now))) (sym more)
          (rest_step words read item (texts (drop (i + 1) c.args.words.now)) constant (subst (ReadsRest words read) at c.loop-word.invariant.0) one fresh),
      λ x. c.in_ok-note-in-Some.ensures x ∙ ap (λ b. same_bytes x constant.0 || b) (c.loop-word.invariant.1 x) ∙ has_one_more x read constant ∙ ap (has_name x) (sym more),
    )

pub returns : goal.returns
returns c =
    let words = texts c.args.words.now in
    let read = map named_data c.loop-word.list.items in
    subst (λ cs. ConstantsOnly words (Some cs)) (sym c.from_vec.ensures)
    (rest_end words read (subst (ReadsRest words read) (ap texts (drop_all c.loop-word.word-index c.args.words.now c.loop-word-test.false)) c.loop-word.invariant.0))
