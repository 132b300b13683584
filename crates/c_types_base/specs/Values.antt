-- Constants whose value is one of their type.
use Rattle.std.specs.Prelude.{IfSome}
use Rattle.c_arith.specs.IntType.{LiesIn}
use Rattle.c_language.specs.declared.constant.Constant.{Constant}

-- the value, where there is one, is of the type
abbrev pub IsInType : Constant → Type 0
IsInType c = IfSome c.value (LiesIn c.integer)
