use Rattle.std.proofs.Common.{inl, inr}
use Rattle.c_print.proofs.FirstByte.{first-Binary, first-AndAlso, first-OrElse, first-Choose, first-Index, first-Member, first-Arrow}
use Rattle.c_print.proofs.expressions.+first_byte.Goals as goal

pub returns-in-Index : goal.returns-in-Index
returns-in-Index t c = rw (c.in-Index.is, first-Index) cc

pub returns-in-Member : goal.returns-in-Member
returns-in-Member t c = rw (c.in-Member.is, first-Member) cc

pub returns-in-Arrow : goal.returns-in-Arrow
returns-in-Arrow t c = rw (c.in-Arrow.is, first-Arrow) cc

pub returns-in-Binary : goal.returns-in-Binary
returns-in-Binary t c =
    let is = c.in-Binary.is in
    elim is [
      | inl (op, b, e) ↦ rw (e, first-Binary) cc
      | inr (inl (b, e)) ↦ rw (e, first-AndAlso) cc
      | inr (inr (inl (b, e))) ↦ rw (e, first-OrElse) cc
      | inr (inr (inr (a, b, e))) ↦ rw (e, first-Choose) cc
    ]
