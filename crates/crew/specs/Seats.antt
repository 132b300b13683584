-- Boards and seats, as clauses name them.
use Rattle.atomic_table.specs.Seated.{TableId}
use Rattle.crew.specs.declared.view.View.{View}
use Rattle.crew.specs.declared.board.Board.{Board}
use Rattle.crew.specs.declared.board.BoardSeat.{BoardSeat}

-- what a seat knows
abbrev pub view : {T : Type 0} → BoardSeat T → View T
view s = s.seat.me.0

-- which board it is of
abbrev pub board_of : {T : Type 0} → BoardSeat T → TableId
board_of s = s.seat.table_id

abbrev pub id_of : {T : Type 0} → Board T → TableId
id_of b = b.table.shared.table_id
