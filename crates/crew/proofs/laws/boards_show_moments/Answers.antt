use Rattle.crew.proofs.BoardLaws.{boards_show_moments}
use Rattle.crew.proofs.laws.boards_show_moments.Goals as goal

pub returns : goal.returns
returns g c = boards_show_moments g.T.Truth.is_true g.T.Truth.may_put
