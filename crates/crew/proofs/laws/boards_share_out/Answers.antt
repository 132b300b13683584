use Rattle.crew.proofs.BoardLaws.{boards_share_out}
use Rattle.crew.proofs.laws.boards_share_out.Goals as goal

pub returns : goal.returns
returns g c = boards_share_out g.T.Truth.is_true g.T.Truth.may_put
