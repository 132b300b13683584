-- The type of a type name, star by star.
use Rattle.std.proofs.Common.{◌≡◌, ℕ, zero, suc, ◌+◌, ◌≤◌, List, [], ◌∷◌, ◌++◌, Option, Some, None, refl, sym, ap, ◌∙◌, arith}
use Rattle.std.specs.Prelude.{option_map}
use Rattle.c_tree.specs.declared.raw.expr.RawType.{RawType}
use Rattle.c_tree.specs.declared.raw.expr.RawType.TheVariants as type
use Rattle.c_tree.specs.declared.raw.program.RawProgram.{RawProgram}
use Rattle.c_language.specs.DeclaredTypes.{pointer_to, written_type}
use Rattle.c_language.specs.TypeGrammar.{pointed_n}
use Rattle.c_language.specs.declared.expr_type.ExprType.{ExprType}
use Rattle.c_language.specs.declared.expr_type.Layer.{Layer}
use Rattle.c_language.specs.declared.expr_type.Layer.TheVariants.{Pointer}
use Rattle.c_types_base.proofs.TypeLemmas.{type_with-PointerTo}
use Rattle.c_types_checks.specs.Pointers.{pointers_to}
use Rattle.c_types_checks.proofs.DecidedLemmas.{one_more}

-- so many stars
abbrev pub stars : ℕ → List Layer
stars zero = []
stars (suc n) = Pointer ∷ stars n

starred_more : (n : ℕ) → stars n ++ Pointer ∷ [] ≡ stars (suc n)
starred_more zero = refl
starred_more (suc n) = ap (λ (ls : List Layer). Pointer ∷ ls) (starred_more n)

pub one_star : (n : ℕ) → stars n ++ Pointer ∷ [] ≡ stars (n + 1)
one_star n = starred_more n ∙ ap stars (one_more n)

-- the stars stand before the layers of the type
pub starred : (n : ℕ) (t : ExprType) → pointers_to n t ≡ record { layers = stars n ++ t.layers; base = t.base }
starred zero t = refl
starred (suc n) t = ap pointer_to (starred n t)

pub pointers_made : (n k : ℕ) (t : ExprType) (before after : List Layer) → k ≤ n → n ≤ k → before ≡ stars k → after ≡ before ++ t.layers
    → ◌≡◌ {A = ExprType} (record { layers = after; base = t.base }) (pointers_to n t)
pointers_made n k t before after low high made is =
    let same : k ≡ n = omega (arith, low, high) in
    let whole : after ≡ stars n ++ t.layers = is ∙ ap (λ (ls : List Layer). ls ++ t.layers) (made ∙ ap stars same) in
    ap (λ (ls : List Layer). record { layers = ls; base = t.base }) whole ∙ sym (starred n t)

outermost : (n : ℕ) (t : ExprType) → pointers_to n (pointer_to t) ≡ pointers_to (suc n) t
outermost zero t = refl
outermost (suc n) t = ap pointer_to (outermost n t)

upon : (n : ℕ) (o : Option ExprType) → option_map (pointers_to n) (option_map pointer_to o) ≡ option_map (pointers_to (suc n)) o
upon n None = refl
upon n (Some t) = ap (λ (u : ExprType). Some u) (outermost n t)

none_upon : (o : Option ExprType) → option_map (pointers_to 0) o ≡ o
none_upon None = refl
none_upon (Some t) = refl

-- the type of a base with stars
pub named_is : (raw : RawProgram) (n : ℕ) (a : RawType) → written_type raw (pointed_n n a) ≡ option_map (pointers_to n) (written_type raw a)
named_is raw zero a = sym (none_upon (written_type raw a))
named_is raw (suc n) a =
    named_is raw n (type.PointerTo a) ∙ ap (option_map (pointers_to n)) (type_with-PointerTo raw 0 a) ∙ upon n (written_type raw a)
