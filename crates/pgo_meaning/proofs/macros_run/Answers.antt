use Rattle.pgo_meaning.proofs.MacroUse as macros
use Rattle.pgo_meaning.specs.Parameters.{reads_by, writes_by}
use Rattle.pgo_meaning.specs.Sect.{context_of}
use Rattle.pgo_meaning.proofs.macros_run.Goals as goal

pub returns-clause-reads : goal.returns-clause-reads
returns-clause-reads c b i s m w g x code env d run j old h =
    c.sections_agree.ensures.reads (context_of b i s) w g x (reads_by m) code env d run j old h

pub returns-clause-writes : goal.returns-clause-writes
returns-clause-writes c b i s m w g x env d run j old v h hv =
    c.sections_agree.ensures.writes (context_of b i s) w g x (writes_by m) env d run j old v h hv

pub returns-clause-identity_reads : goal.returns-clause-identity_reads
returns-clause-identity_reads c ds id old d used h = macros.identity_reads ds id old d used h

pub returns-clause-identity_writes : goal.returns-clause-identity_writes
returns-clause-identity_writes c ds id old v d used h = macros.identity_writes ds id old v d used h
