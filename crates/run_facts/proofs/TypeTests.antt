-- Types that pass the test are one type.
use Rattle.std.proofs.Common.{◌≡◌, ℕ, ◌==◌, List, [], ◌∷◌, Bool, true, false, ◌&&◌, ◌||◌, not, refl, sym, ap, ap₂, ◌∙◌, eqb-true, eq-eqb}
use Rattle.std.specs.Prelude.{if◌then◌else◌}
use Rattle.std.proofs.lemmas.Bool.{false≢true, and_parts, and_from}
use Rattle.c_arith.specs.declared.int_type.IntType.{IntType}
use Rattle.c_arith.specs.declared.int_type.IntType.TheVariants.{Char, UChar, Short, UShort, Int, UInt, Long, ULong}
use Rattle.c_arith.specs.IntType.{width, is_signed}
use Rattle.c_language.specs.Lists.{same_all}
use Rattle.c_language.specs.declared.expr_type.Base.{Base}
use Rattle.c_language.specs.declared.expr_type.Base.TheVariants as base
use Rattle.c_language.specs.declared.expr_type.Layer.{Layer}
use Rattle.c_language.specs.declared.expr_type.Layer.TheVariants.{Pointer, Array}
use Rattle.c_language.specs.declared.expr_type.ExprType.{ExprType}
use Rattle.c_language.specs.ExprTypes.{same_int, same_base, same_layer, same_type}

-- ---- integer types

-- a width and a sign have one integer type
abbrev of_width : ℕ → IntType → IntType → IntType → IntType → IntType
of_width n a b c d = if n == 8 then a else (if n == 16 then b else (if n == 32 then c else d))

abbrev of_sign : Bool → ℕ → IntType
of_sign true n = of_width n Char Short Int Long
of_sign false n = of_width n UChar UShort UInt ULong

int_back : (t : IntType) → of_sign (is_signed t) (width t) ≡ t
int_back Char = refl
int_back UChar = refl
int_back Short = refl
int_back UShort = refl
int_back Int = refl
int_back UInt = refl
int_back Long = refl
int_back ULong = refl

signs_are : (a b : Bool) → ((a && b) || (not a && not b)) ≡ true → a ≡ b
signs_are true true h = refl
signs_are true false h = absurd (false≢true h)
signs_are false true h = absurd (false≢true h)
signs_are false false h = refl

same_int_is : (s t : IntType) → same_int s t ≡ true → s ≡ t
same_int_is s t h =
    let k = and_parts (width s == width t) ((is_signed s && is_signed t) || (not (is_signed s) && not (is_signed t))) h in
    sym (int_back s) ∙ (ap₂ of_sign (signs_are (is_signed s) (is_signed t) k.1) (eqb-true (width s) (width t) k.0) ∙ int_back t)

int_itself : (t : IntType) → same_int t t ≡ true
int_itself Char = refl
int_itself UChar = refl
int_itself Short = refl
int_itself UShort = refl
int_itself Int = refl
int_itself UInt = refl
int_itself Long = refl
int_itself ULong = refl

-- ---- types

base_is : (a b : Base) → same_base a b ≡ true → a ≡ b
base_is (base.Integer s) (base.Integer t) h = ap base.Integer (same_int_is s t h)
base_is (base.Integer s) (base.Struct n) h = absurd (false≢true h)
base_is (base.Integer s) base.Void h = absurd (false≢true h)
base_is (base.Struct m) (base.Integer t) h = absurd (false≢true h)
base_is (base.Struct m) (base.Struct n) h = ap base.Struct (eqb-true m n h)
base_is (base.Struct m) base.Void h = absurd (false≢true h)
base_is base.Void (base.Integer t) h = absurd (false≢true h)
base_is base.Void (base.Struct n) h = absurd (false≢true h)
base_is base.Void base.Void h = refl

base_itself : (a : Base) → same_base a a ≡ true
base_itself (base.Integer t) = int_itself t
base_itself (base.Struct n) = eq-eqb n n refl
base_itself base.Void = refl

layer_is : (a b : Layer) → same_layer a b ≡ true → a ≡ b
layer_is Pointer Pointer h = refl
layer_is Pointer (Array n) h = absurd (false≢true h)
layer_is (Array m) Pointer h = absurd (false≢true h)
layer_is (Array m) (Array n) h = ap Array (eqb-true m n h)

layer_itself : (a : Layer) → same_layer a a ≡ true
layer_itself Pointer = refl
layer_itself (Array n) = eq-eqb n n refl

layers_are : (ls ms : List Layer) → same_all same_layer ls ms ≡ true → ls ≡ ms
layers_are [] [] h = refl
layers_are [] (m ∷ ms) h = absurd (false≢true h)
layers_are (l ∷ ls) [] h = absurd (false≢true h)
layers_are (l ∷ ls) (m ∷ ms) h =
    let k = and_parts (same_layer l m) (same_all same_layer ls ms) h in ap₂ (λ (x : Layer) (xs : List Layer). x ∷ xs) (layer_is l m k.0) (layers_are ls ms k.1)

layers_itself : (ls : List Layer) → same_all same_layer ls ls ≡ true
layers_itself [] = refl
layers_itself (l ∷ ls) = and_from (same_layer l l) (same_all same_layer ls ls) (layer_itself l) (layers_itself ls)

abbrev of_parts : List Layer → Base → ExprType
of_parts ls b = record { layers = ls; base = b }

pub type_is : (s t : ExprType) → same_type s t ≡ true → s ≡ t
type_is s t h =
    let k = and_parts (same_all same_layer s.layers t.layers) (same_base s.base t.base) h in
    ap₂ of_parts (layers_are s.layers t.layers k.0) (base_is s.base t.base k.1)

pub type_itself : (t : ExprType) → same_type t t ≡ true
type_itself t = and_from (same_all same_layer t.layers t.layers) (same_base t.base t.base) (layers_itself t.layers) (base_itself t.base)
