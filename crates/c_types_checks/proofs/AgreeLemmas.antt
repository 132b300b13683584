-- The parameters of two heads.
use Rattle.std.proofs.Common.{◌≡◌, suc, List, [], ◌∷◌, map, length, Bool, true, false, Option, refl, ap, ◌∙◌}
use Rattle.std.specs.Prelude.{◌&&◌}
use Rattle.c_language.specs.NameRules.{agree, all_agree}
use Rattle.c_language.specs.declared.expr_type.ExprType.{ExprType}

and_false : (b : Bool) → false ≡ (b && false)
and_false true = refl
and_false false = refl

module _ {A : Type 0} (f : A → Option ExprType) where
  -- so many parameters and so many others
  pub unequal : (left right : List A) → (length left ≡ length right → ⊥) → false ≡ all_agree (map f left) (map f right)
  unequal [] [] h = absurd (h refl)
  unequal [] (r ∷ right) h = refl
  unequal (l ∷ left) [] h = refl
  unequal (l ∷ left) (r ∷ right) h =
      and_false (agree (f l) (f r)) ∙ ap (λ (b : Bool). agree (f l) (f r) && b) (unequal left right (λ is. h (ap suc is)))
