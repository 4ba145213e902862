use Rattle.model.proofs.Reading.{every_run_reads_as_its_calls}
use Rattle.model.proofs.every_run_reads_as_its_calls.Goals as goal

pub returns : goal.returns
returns c = every_run_reads_as_its_calls
