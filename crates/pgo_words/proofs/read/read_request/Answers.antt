-- The first word says which command is asked for.
use Rattle.std.proofs.Common.{◌≡◌, None, option_map, sym, ◌∙◌, ap, get_or, subst}
use Rattle.pgo_words.specs.Parts.{texts}
use Rattle.pgo_words.specs.Reads.{BehindOnly, IsWordOf, word_of}
use Rattle.pgo_words.specs.View.{request_view}
use Rattle.pgo_words.proofs.ConstantWords.{nothing}
use Rattle.pgo_words.proofs.ParkReads.{if_found, known_park}
use Rattle.pgo_words.proofs.ReadLaws.{first_word, if_ok_more, known_word, unknown_word}
use Rattle.pgo_words.proofs.read.read_request.Goals as goal

pub returns-in-Some-clause-reads : goal.returns-in-Some-clause-reads
returns-in-Some-clause-reads c =
    let all = c.as_slice.result.now in
    let word = (get_or all 0 nothing).now in
    let same = sym c.in_ok-texts.ensures ∙ ap texts (sym c.as_slice.ensures.value) ∙ first_word all c.in-len1-up.len_at_least in
    let found : word ≡ word_of c.in-Some.name = sym c.as_bytes.ensures.value ∙ subst (IsWordOf c.as_bytes.result.now) c.in-Some.is c.find_command.ensures in
    if_ok_more c.read_command.result _ _ (λ o h. known_word c.args.words.now _ word c.in-Some.name (option_map request_view o) same found h) c.read_command.ensures.reads

pub returns-in-len1-up-clause-reads : goal.returns-in-len1-up-clause-reads
returns-in-len1-up-clause-reads c =
    let all = c.as_slice.result.now in
    let word = (get_or all 0 nothing).now in
    let same = sym c.in_ok-texts.ensures ∙ ap texts (sym c.as_slice.ensures.value) ∙ first_word all c.in-len1-up.len_at_least in
    let none : IsWordOf word None = subst (λ w. IsWordOf w None) (c.as_bytes.ensures.value) (subst (IsWordOf c.as_bytes.result.now) c.in-None.is c.find_command.ensures) in
    unknown_word c.args.words.now _ word same none

pub returns-in-Some-clause-parks : goal.returns-in-Some-clause-parks
returns-in-Some-clause-parks c =
    let all = c.as_slice.result.now in
    let word = (get_or all 0 nothing).now in
    let same = sym c.in_ok-texts.ensures ∙ ap texts (sym c.as_slice.ensures.value) ∙ first_word all c.in-len1-up.len_at_least in
    let found : word ≡ word_of c.in-Some.name = sym c.as_bytes.ensures.value ∙ subst (IsWordOf c.as_bytes.result.now) c.in-Some.is c.find_command.ensures in
    if_found c.read_command.result request_view (BehindOnly c.in-Some.name _) _ _
    (λ r h e. e ∙ known_park c.args.words.now _ word c.in-Some.name (request_view r) same found h) c.read_command.ensures.reads c.read_command.ensures.parks
