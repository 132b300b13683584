use Rattle.std.proofs.Common.{List, [], ◌∷◌, ◌++◌, ap, ◌∙◌, arith}
use Rattle.c_language.specs.declared.expr_type.Layer.{Layer}
use Rattle.c_language.specs.declared.expr_type.Layer.TheVariants.{Pointer}
use Rattle.c_types_checks.proofs.PointerLemmas.{one_star, pointers_made}
use Rattle.c_types_checks.proofs.text.pointers_to.Goals as goal

pub loop-star-preserved : goal.loop-star-preserved
loop-star-preserved c =
    (c.in_ok-push.ensures.ok ∙ ap (λ (ls : List Layer). ls ++ Pointer ∷ []) c.loop-star.invariant.0 ∙ one_star c.loop-star._star, omega (arith, c.loop-star-test.true))

pub returns : goal.returns
returns c =
    pointers_made c.args.stars c.loop-star._star c.args.t c.loop-star.layers _ c.loop-star.invariant.1 (omega (arith, c.loop-star-test.false)) c.loop-star.invariant.0 c.in_ok-append.ensures
