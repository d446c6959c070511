use Rattle.std.proofs.Common.{[], map, None}
use Rattle.pgo_base.specs.View.{data_of}
use Rattle.pgo_model.specs.ModuleView.{defined_view}
use Rattle.pgo_model.specs.Val.{meanings}
use Rattle.pgo_sections.specs.Macros.{block_write}
use Rattle.pgo_meaning.specs.Parameters.{block_code}
use Rattle.pgo_resource.specs.Picked.{words_of}
use Rattle.pgo_macro_run.specs.AroundView.{env_of}
use Rattle.pgo_macro_run.proofs.BlockReads.{block_writes}
use Rattle.pgo_macro_run.proofs.run.write_block.Goals as goal

pub returns : goal.returns
returns c =
    c.new_content.ensures
    (λ cs. block_write (block_code c.args.b.now) (meanings (map defined_view c.args.env.defs.now) [] None) (data_of c.args.env.id.now) (data_of c.args.old.now) (data_of c.args.v) (words_of c.args.picks.now) cs)
    c.args.picks.now c.run_block.new.picks
    (block_writes c.in_ok-around.around c.args.env c.args.old c.in_ok-around.ensures.0 c.in_ok-around.ensures.1 c.args.b.now (env_of c.in_ok-names.names.items)
    c.args.picks.now c.run_block.new.picks (c.run_block.ensures.words, c.run_block.ensures.first) c.run_block.result (data_of c.args.v) c.in_ok-names.ensures c.run_block.ensures.ended)
