use Rattle.std.proofs.Common.{sym, ap, subst, ◌∙◌, inl, arith}
use Rattle.c_language.specs.Nesting.{nesting}
use Rattle.c_language.proofs.NestingLemmas.{nesting-Unary, nesting-Deref, nesting-AddressOf, nesting-Cast, nesting-Paren, nesting-Binary, nesting-AndAlso, nesting-OrElse, nesting-Index, nesting-Choose, nesting-Member, nesting-Arrow}
use Rattle.c_types_base.specs.Tables.{scope_of}
use Rattle.c_types_trees.specs.KeptPhrases.{IsMeant}
use Rattle.c_types_trees.proofs.KeptLemmas.{low_first, low_left, low_only, low_right, low_second, low_third, of_unary, of_deref, of_address_of, of_binary, of_and_also, of_or_else, of_choose, of_cast, of_index, of_member, of_arrow, of_paren}
use Rattle.c_types_trees.proofs.expressions.+tree.Goals as goal

pub tree-requires : goal.tree-requires
tree-requires t c =
    (omega (arith, low_only c.args.expr.now c.get.result.now c.in-Unary.a (ap nesting c.in-Unary.is ∙ nesting-Unary c.in-Unary.op c.in-Unary.a) c.get.ensures), (c.requires.right, subst (IsMeant c.args.tables.now.raw.now (scope_of c.args.tables.now)) (sym c.get.ensures) (of_unary c.args.tables.now.raw.now (scope_of c.args.tables.now) c.in-Unary.op c.in-Unary.a (subst (IsMeant c.args.tables.now.raw.now (scope_of c.args.tables.now)) c.in-Unary.is c.requires.meant))))

pub tree-requires-in-Deref : goal.tree-requires-in-Deref
tree-requires-in-Deref t c =
    (omega (arith, low_only c.args.expr.now c.get-in-Deref.result.now c.in-Deref.a (ap nesting c.in-Deref.is ∙ nesting-Deref c.in-Deref.a) c.get-in-Deref.ensures), (c.requires.right, subst (IsMeant c.args.tables.now.raw.now (scope_of c.args.tables.now)) (sym c.get-in-Deref.ensures) (of_deref c.args.tables.now.raw.now (scope_of c.args.tables.now) c.in-Deref.a (subst (IsMeant c.args.tables.now.raw.now (scope_of c.args.tables.now)) c.in-Deref.is c.requires.meant))))

pub tree-requires-in-AddressOf : goal.tree-requires-in-AddressOf
tree-requires-in-AddressOf t c =
    (omega (arith, low_only c.args.expr.now c.get-in-AddressOf.result.now c.in-AddressOf.a (ap nesting c.in-AddressOf.is ∙ nesting-AddressOf c.in-AddressOf.a) c.get-in-AddressOf.ensures), (c.requires.right, subst (IsMeant c.args.tables.now.raw.now (scope_of c.args.tables.now)) (sym c.get-in-AddressOf.ensures) (of_address_of c.args.tables.now.raw.now (scope_of c.args.tables.now) c.in-AddressOf.a (subst (IsMeant c.args.tables.now.raw.now (scope_of c.args.tables.now)) c.in-AddressOf.is c.requires.meant))))

pub tree-requires-in-Cast : goal.tree-requires-in-Cast
tree-requires-in-Cast t c =
    (omega (arith, low_only c.args.expr.now c.get-in-Cast.result.now c.in-Cast.a (ap nesting c.in-Cast.is ∙ nesting-Cast c.in-Cast.t c.in-Cast.a) c.get-in-Cast.ensures), (c.requires.right, subst (IsMeant c.args.tables.now.raw.now (scope_of c.args.tables.now)) (sym c.get-in-Cast.ensures) (of_cast c.args.tables.now.raw.now (scope_of c.args.tables.now) c.in-Cast.t c.in-Cast.a (subst (IsMeant c.args.tables.now.raw.now (scope_of c.args.tables.now)) c.in-Cast.is c.requires.meant))))

pub tree-requires-in-Paren : goal.tree-requires-in-Paren
tree-requires-in-Paren t c =
    (omega (arith, low_only c.args.expr.now c.get-in-Paren.result.now c.in-Paren.a (ap nesting c.in-Paren.is ∙ nesting-Paren c.in-Paren.a) c.get-in-Paren.ensures), (c.requires.right, subst (IsMeant c.args.tables.now.raw.now (scope_of c.args.tables.now)) (sym c.get-in-Paren.ensures) (of_paren c.args.tables.now.raw.now (scope_of c.args.tables.now) c.in-Paren.a (subst (IsMeant c.args.tables.now.raw.now (scope_of c.args.tables.now)) c.in-Paren.is c.requires.meant))))

pub tree-requires-in-Binary : goal.tree-requires-in-Binary
tree-requires-in-Binary t c =
    (omega (arith, low_left c.args.expr.now c.get-in-Binary.result.now c.in-Binary.a c.in-Binary.b (ap nesting c.in-Binary.is ∙ nesting-Binary c.in-Binary.op c.in-Binary.a c.in-Binary.b) c.get-in-Binary.ensures), (c.requires.right, subst (IsMeant c.args.tables.now.raw.now (scope_of c.args.tables.now)) (sym c.get-in-Binary.ensures) (of_binary c.args.tables.now.raw.now (scope_of c.args.tables.now) c.in-Binary.op c.in-Binary.a c.in-Binary.b (subst (IsMeant c.args.tables.now.raw.now (scope_of c.args.tables.now)) c.in-Binary.is c.requires.meant)).0))

pub tree-requires-in-Binary-2 : goal.tree-requires-in-Binary-2
tree-requires-in-Binary-2 t c =
    (omega (arith, low_right c.args.expr.now c.get-in-Binary-2.result.now c.in-Binary.a c.in-Binary.b (ap nesting c.in-Binary.is ∙ nesting-Binary c.in-Binary.op c.in-Binary.a c.in-Binary.b) c.get-in-Binary-2.ensures), (c.requires.right, subst (IsMeant c.args.tables.now.raw.now (scope_of c.args.tables.now)) (sym c.get-in-Binary-2.ensures) (of_binary c.args.tables.now.raw.now (scope_of c.args.tables.now) c.in-Binary.op c.in-Binary.a c.in-Binary.b (subst (IsMeant c.args.tables.now.raw.now (scope_of c.args.tables.now)) c.in-Binary.is c.requires.meant)).1))

pub tree-requires-in-AndAlso : goal.tree-requires-in-AndAlso
tree-requires-in-AndAlso t c =
    (omega (arith, low_left c.args.expr.now c.get-in-AndAlso.result.now c.in-AndAlso.a c.in-AndAlso.b (ap nesting c.in-AndAlso.is ∙ nesting-AndAlso c.in-AndAlso.a c.in-AndAlso.b) c.get-in-AndAlso.ensures), (c.requires.right, subst (IsMeant c.args.tables.now.raw.now (scope_of c.args.tables.now)) (sym c.get-in-AndAlso.ensures) (of_and_also c.args.tables.now.raw.now (scope_of c.args.tables.now) c.in-AndAlso.a c.in-AndAlso.b (subst (IsMeant c.args.tables.now.raw.now (scope_of c.args.tables.now)) c.in-AndAlso.is c.requires.meant)).0))

pub tree-requires-in-AndAlso-2 : goal.tree-requires-in-AndAlso-2
tree-requires-in-AndAlso-2 t c =
    (omega (arith, low_right c.args.expr.now c.get-in-AndAlso-2.result.now c.in-AndAlso.a c.in-AndAlso.b (ap nesting c.in-AndAlso.is ∙ nesting-AndAlso c.in-AndAlso.a c.in-AndAlso.b) c.get-in-AndAlso-2.ensures), (c.requires.right, subst (IsMeant c.args.tables.now.raw.now (scope_of c.args.tables.now)) (sym c.get-in-AndAlso-2.ensures) (of_and_also c.args.tables.now.raw.now (scope_of c.args.tables.now) c.in-AndAlso.a c.in-AndAlso.b (subst (IsMeant c.args.tables.now.raw.now (scope_of c.args.tables.now)) c.in-AndAlso.is c.requires.meant)).1))

pub tree-requires-in-OrElse : goal.tree-requires-in-OrElse
tree-requires-in-OrElse t c =
    (omega (arith, low_left c.args.expr.now c.get-in-OrElse.result.now c.in-OrElse.a c.in-OrElse.b (ap nesting c.in-OrElse.is ∙ nesting-OrElse c.in-OrElse.a c.in-OrElse.b) c.get-in-OrElse.ensures), (c.requires.right, subst (IsMeant c.args.tables.now.raw.now (scope_of c.args.tables.now)) (sym c.get-in-OrElse.ensures) (of_or_else c.args.tables.now.raw.now (scope_of c.args.tables.now) c.in-OrElse.a c.in-OrElse.b (subst (IsMeant c.args.tables.now.raw.now (scope_of c.args.tables.now)) c.in-OrElse.is c.requires.meant)).0))

pub tree-requires-in-OrElse-2 : goal.tree-requires-in-OrElse-2
tree-requires-in-OrElse-2 t c =
    (omega (arith, low_right c.args.expr.now c.get-in-OrElse-2.result.now c.in-OrElse.a c.in-OrElse.b (ap nesting c.in-OrElse.is ∙ nesting-OrElse c.in-OrElse.a c.in-OrElse.b) c.get-in-OrElse-2.ensures), (c.requires.right, subst (IsMeant c.args.tables.now.raw.now (scope_of c.args.tables.now)) (sym c.get-in-OrElse-2.ensures) (of_or_else c.args.tables.now.raw.now (scope_of c.args.tables.now) c.in-OrElse.a c.in-OrElse.b (subst (IsMeant c.args.tables.now.raw.now (scope_of c.args.tables.now)) c.in-OrElse.is c.requires.meant)).1))

pub tree-requires-in-Index : goal.tree-requires-in-Index
tree-requires-in-Index t c =
    (omega (arith, low_left c.args.expr.now c.get-in-Index.result.now c.in-Index.a c.in-Index.i (ap nesting c.in-Index.is ∙ nesting-Index c.in-Index.a c.in-Index.i) c.get-in-Index.ensures), (c.requires.right, subst (IsMeant c.args.tables.now.raw.now (scope_of c.args.tables.now)) (sym c.get-in-Index.ensures) (of_index c.args.tables.now.raw.now (scope_of c.args.tables.now) c.in-Index.a c.in-Index.i (subst (IsMeant c.args.tables.now.raw.now (scope_of c.args.tables.now)) c.in-Index.is c.requires.meant)).0))

pub tree-requires-in-Index-2 : goal.tree-requires-in-Index-2
tree-requires-in-Index-2 t c =
    (omega (arith, low_right c.args.expr.now c.get-in-Index-2.result.now c.in-Index.a c.in-Index.i (ap nesting c.in-Index.is ∙ nesting-Index c.in-Index.a c.in-Index.i) c.get-in-Index-2.ensures), (c.requires.right, subst (IsMeant c.args.tables.now.raw.now (scope_of c.args.tables.now)) (sym c.get-in-Index-2.ensures) (of_index c.args.tables.now.raw.now (scope_of c.args.tables.now) c.in-Index.a c.in-Index.i (subst (IsMeant c.args.tables.now.raw.now (scope_of c.args.tables.now)) c.in-Index.is c.requires.meant)).1))

pub tree-requires-in-Choose : goal.tree-requires-in-Choose
tree-requires-in-Choose t c =
    (omega (arith, low_first c.args.expr.now c.get-in-Choose.result.now c.in-Choose.c c.in-Choose.a c.in-Choose.b (ap nesting c.in-Choose.is ∙ nesting-Choose c.in-Choose.c c.in-Choose.a c.in-Choose.b) c.get-in-Choose.ensures), (c.requires.right, subst (IsMeant c.args.tables.now.raw.now (scope_of c.args.tables.now)) (sym c.get-in-Choose.ensures) (of_choose c.args.tables.now.raw.now (scope_of c.args.tables.now) c.in-Choose.c c.in-Choose.a c.in-Choose.b (subst (IsMeant c.args.tables.now.raw.now (scope_of c.args.tables.now)) c.in-Choose.is c.requires.meant)).0))

pub tree-requires-in-Choose-2 : goal.tree-requires-in-Choose-2
tree-requires-in-Choose-2 t c =
    (omega (arith, low_second c.args.expr.now c.get-in-Choose-2.result.now c.in-Choose.c c.in-Choose.a c.in-Choose.b (ap nesting c.in-Choose.is ∙ nesting-Choose c.in-Choose.c c.in-Choose.a c.in-Choose.b) c.get-in-Choose-2.ensures), (c.requires.right, subst (IsMeant c.args.tables.now.raw.now (scope_of c.args.tables.now)) (sym c.get-in-Choose-2.ensures) (of_choose c.args.tables.now.raw.now (scope_of c.args.tables.now) c.in-Choose.c c.in-Choose.a c.in-Choose.b (subst (IsMeant c.args.tables.now.raw.now (scope_of c.args.tables.now)) c.in-Choose.is c.requires.meant)).1))

pub tree-requires-in-Choose-3 : goal.tree-requires-in-Choose-3
tree-requires-in-Choose-3 t c =
    (omega (arith, low_third c.args.expr.now c.get-in-Choose-3.result.now c.in-Choose.c c.in-Choose.a c.in-Choose.b (ap nesting c.in-Choose.is ∙ nesting-Choose c.in-Choose.c c.in-Choose.a c.in-Choose.b) c.get-in-Choose-3.ensures), (c.requires.right, subst (IsMeant c.args.tables.now.raw.now (scope_of c.args.tables.now)) (sym c.get-in-Choose-3.ensures) (of_choose c.args.tables.now.raw.now (scope_of c.args.tables.now) c.in-Choose.c c.in-Choose.a c.in-Choose.b (subst (IsMeant c.args.tables.now.raw.now (scope_of c.args.tables.now)) c.in-Choose.is c.requires.meant)).2))

pub tree-requires-in-Member : goal.tree-requires-in-Member
tree-requires-in-Member t c =
    (omega (arith, low_only c.args.expr.now c.get-in-Member.result.now c.in-Member.a (ap nesting c.in-Member.is ∙ nesting-Member c.in-Member.a c.in-Member.name) c.get-in-Member.ensures), (c.requires.right, subst (IsMeant c.args.tables.now.raw.now (scope_of c.args.tables.now)) (sym c.get-in-Member.ensures) (inl (of_member c.args.tables.now.raw.now (scope_of c.args.tables.now) c.in-Member.a c.in-Member.name (subst (IsMeant c.args.tables.now.raw.now (scope_of c.args.tables.now)) c.in-Member.is c.requires.meant)))))

pub tree-requires-in-Arrow : goal.tree-requires-in-Arrow
tree-requires-in-Arrow t c =
    (omega (arith, low_only c.args.expr.now c.get-in-Arrow.result.now c.in-Arrow.a (ap nesting c.in-Arrow.is ∙ nesting-Arrow c.in-Arrow.a c.in-Arrow.name) c.get-in-Arrow.ensures), (c.requires.right, subst (IsMeant c.args.tables.now.raw.now (scope_of c.args.tables.now)) (sym c.get-in-Arrow.ensures) (inl (of_arrow c.args.tables.now.raw.now (scope_of c.args.tables.now) c.in-Arrow.a c.in-Arrow.name (subst (IsMeant c.args.tables.now.raw.now (scope_of c.args.tables.now)) c.in-Arrow.is c.requires.meant)))))
