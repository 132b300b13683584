use Rattle.reaching_defs.proofs.RowLaws.{row_flow_is_flow}
use Rattle.reaching_defs.proofs.laws.row_flow_is_flow.Goals as goal

pub returns : goal.returns
returns c = row_flow_is_flow
