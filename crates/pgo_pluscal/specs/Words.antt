-- What a word of a line is in the text.
use Rattle.std.specs.Prelude.{true, false, List, ℕ}
use Rattle.pgo_base.specs.ExprView.{tree}
use Rattle.pgo_model.specs.ExprText.{expr_text}
use Rattle.pgo_pluscal.specs.declared.words.Word.{Word}
use Rattle.pgo_pluscal.specs.declared.words.Word.TheVariants.{Bytes, Name, Whole, Body, Own}
use Rattle.pgo_pluscal.specs.Text.{value_text}

abbrev pub word_text : Word → List ℕ
word_text (Bytes b) = b.now
word_text (Name x) = x.now
word_text (Whole e) = expr_text false e.now
word_text (Body e) = expr_text true e.now
word_text (Own own e) = value_text own.now (tree e.now)
