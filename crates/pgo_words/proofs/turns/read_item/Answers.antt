use Rattle.pgo_words.proofs.ItemReads.{single_item, repeated_item}
use Rattle.pgo_words.proofs.turns.read_item.Goals as goal

pub returns-in-None : goal.returns-in-None
returns-in-None c = single_item c.args.text.now c.read_single.result c.in-None.ensures c.read_single.ensures

pub returns-in-Some : goal.returns-in-Some
returns-in-Some c = repeated_item c.args.text.now (c.in-Some.instance, c.in-Some.count) c.read_repeated.result c.in-Some.ensures c.read_repeated.ensures
