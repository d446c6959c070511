use Rattle.std.proofs.Common.{ap}
use Rattle.pgo_macro_run.specs.AroundView.{env_of}
use Rattle.pgo_macro_run.proofs.BlockReads.{block_reads}
use Rattle.pgo_macro_run.proofs.run.read_block.Goals as goal

pub returns : goal.returns
returns c =
    block_reads c.in_ok-around.around c.args.env c.args.old c.in_ok-around.ensures.0 c.in_ok-around.ensures.1 c.args.b.now (env_of c.new-names.result.items)
    c.args.picks.now c.run_block.new.picks (c.run_block.ensures.words, c.run_block.ensures.first) c.run_block.result (ap env_of c.new-names.ensures.items) c.run_block.ensures.ended
