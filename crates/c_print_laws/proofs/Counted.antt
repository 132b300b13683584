-- A type of the text that has a type of the program has one of the language, and the program's type is at least as long.
use Rattle.std.proofs.Common.{◌≡◌, ◌≢◌, ℕ, zero, suc, ◌≤◌, ◌<◌, max, List, [], ◌∷◌, Option, Some, None, refl, sym, ap, subst, ◌∙◌, arith, slice_get, length}
use Rattle.std.specs.Prelude.{option_map, option_and_then}
use Rattle.c_tree.specs.declared.types.CType.{CType, fold-roll-CType}
use Rattle.c_tree.specs.declared.types.CType.TheOpen.{CType-F}
use Rattle.c_tree.specs.declared.types.CType.TheVariants as t
use Rattle.c_tree.specs.declared.program.Program.{Program}
use Rattle.c_tree.specs.declared.program.Var.{Var}
use Rattle.c_tree.specs.declared.raw.expr.RawExpr.{RawExpr}
use Rattle.c_tree.specs.declared.raw.expr.RawType.{RawType, map-RawType, fold-roll-RawType}
use Rattle.c_tree.specs.declared.raw.expr.RawType.TheOpen.{RawType-F}
use Rattle.c_tree.specs.declared.raw.expr.RawVar.{RawVar}
use Rattle.c_tree.specs.declared.raw.program.RawInit.TheVariants as init
use Rattle.c_tree.specs.declared.raw.program.RawProgram.{RawProgram}
use Rattle.c_tree.proofs.RawTrees.{TypeParts, type_layer, of_every_type}
use Rattle.c_language.specs.ArrayRules.{element_in, count_in, count_of, MisusesInitialiser}
use Rattle.c_language.specs.DeclaredTypes.{struct_id, length_in, with_layer, of_base, type_step, type_with, integer, pointer_to}
use Rattle.c_language.specs.Limits.{length_step, longest, longest_in_variables, array_length}
use Rattle.c_language.specs.Phrases.{Stand, Begins}
use Rattle.c_language.specs.ProgramOf.{length_words, ctype_step, ctype_with}
use Rattle.c_language.specs.Rules.{Breaks, initialiser}
use Rattle.c_language.specs.Scopes.{Scope}
use Rattle.c_language.specs.declared.expr_type.Layer.{Layer}
use Rattle.c_language.specs.declared.expr_type.Base.{Base}
use Rattle.c_language.specs.declared.expr_type.Layer.TheVariants.{Pointer, Array}
use Rattle.c_language.specs.declared.expr_type.Base.TheVariants as base
use Rattle.c_language.specs.declared.expr_type.ExprType.{ExprType}
use Rattle.c_language.proofs.Options.{none_there, some_same, map_there, both_there}

longest-Array : (a : CType) (n : ℕ) (words : _) → longest (t.Array a n words) ≡ max n (longest a)
longest-Array a n words = ap longest (sym (t.rolls-Array a n words)) ∙ fold-roll-CType ℕ length_step (CType-F.Array a n words)

-- the type of the language, whose elements are no more than the program's type is long
pub record IsCountedBy (o : Option ExprType) (c : CType) : Type 0 where
  pub type : ExprType
  pub there : o ≡ Some type
  pub counts : (n : ℕ) → count_of type ≡ Some n → n ≤ longest c

module _ (raw : RawProgram) (items : ℕ) where
  abbrev Counts : RawType → Type 0
  Counts a = (c : CType) → ctype_with raw items a ≡ Some c → IsCountedBy (type_with raw items a) c

  counted_layer : (y : TypeParts Counts) (c : CType) → ctype_step raw items (map-RawType RawType (Option CType) (ctype_with raw items) (type_layer Counts y)) ≡ Some c
      → IsCountedBy (type_step raw items (map-RawType RawType (Option ExprType) (type_with raw items) (type_layer Counts y))) c
  counted_layer (RawType-F.Integer i) c h = record { type = integer i; there = refl; counts = λ n is. none_there is }
  counted_layer (RawType-F.PointerTo a) c h =
      let g = map_there t.PointerTo (ctype_with raw items a.0) c h in
      let k = a.1 g.value g.there in
      record { type = pointer_to k.type; there = ap (option_map pointer_to) k.there; counts = λ n is. none_there is }
  counted_layer (RawType-F.Array a m) c h =
      let g = both_there (λ (b : CType) (k : ℕ). t.Array b k (length_words items m)) (ctype_with raw items a.0) (length_in items m) c h in
      let k = a.1 g.left g.left_there in
      record {
        type = with_layer (Array g.right) k.type;
        there = ap (option_and_then (λ (t : ExprType). option_map (λ (k : ℕ). with_layer (Array k) t) (length_in items m))) k.there ∙ ap (option_map (λ (n : ℕ). with_layer (Array n) k.type)) g.right_there;
        counts = λ n is. subst (λ (x : CType). n ≤ longest x) g.same (let e = longest-Array g.left g.right (length_words items m) in let f = some_same is in omega (arith, e, f));
      }
  counted_layer (RawType-F.Struct tag) c h =
      let g = map_there t.Struct (struct_id raw tag) c h in
      record { type = of_base (base.Struct g.value); there = ap (option_map (λ (s : ℕ). of_base (base.Struct s))) g.there; counts = λ n is. none_there is }

  pub counted : (a : RawType) → Counts a
  counted = of_every_type Counts (λ y c h.
      let l = type_layer Counts y in
      subst (λ (o : Option ExprType). IsCountedBy o c) (sym (fold-roll-RawType (Option ExprType) (type_step raw items) l))
      (counted_layer y c (sym (fold-roll-RawType (Option CType) (ctype_step raw items) l) ∙ h)))

-- ---- lists of initialisers

in_variables : (vs : List Var) (i : ℕ) (v : Var) → slice_get vs i ≡ Some v → longest v.shape ≤ longest_in_variables vs
in_variables [] i v h = none_there h
in_variables (w ∷ vs) i v h = at_place i h (in_variables vs)
  where
    at_place : (i : ℕ) → slice_get (w ∷ vs) i ≡ Some v → ((i : ℕ) (v : Var) → slice_get vs i ≡ Some v → longest v.shape ≤ longest_in_variables vs) → longest v.shape ≤ max (longest w.shape) (longest_in_variables vs)
    at_place zero h rest = let e = ap (λ (x : Var). longest x.shape) (some_same h) in omega (arith, e)
    at_place (suc i) h rest = omega (arith, rest i v h)

pub variable_long : (p : Program) (i : ℕ) (v : Var) → slice_get p.vars i ≡ Some v → longest v.shape ≤ array_length p
variable_long p i v h = omega (arith, in_variables p.vars i v h)

-- an array of a type, with the number of its elements
counted_array : (ls : List Layer) (b : Base) → element_in ls b ≢ None → (n : ℕ) × (count_in ls ≡ Some n)
counted_array [] b h = absurd (h refl)
counted_array (Pointer ∷ ls) b h = absurd (h refl)
counted_array (Array n ∷ ls) b h = (n, refl)

-- a list of initialisers that breaks no rule has no more items than the array has elements
pub items_within : (raw : RawProgram) (scope : Scope) (stand : Stand) (v : RawVar) (es : List RawExpr) (c : CType) → ctype_with raw (length es) v.shape ≡ Some c
    → ((n : ℕ) → Breaks raw scope (Begins stand v (init.Items es)) n → ⊥) → length es ≤ longest c
items_within raw scope stand v es c is kept =
    let k = counted raw (length es) v.shape c is in
    let a = counted_array k.type.layers k.type.base (λ none. kept 22 (initialiser (MisusesInitialiser.no_array k.there none))) in
    let within : (a.0 < length es → ⊥) = λ more. kept 22 (initialiser (MisusesInitialiser.too_many k.there a.1 more)) in
    let most = k.counts a.0 a.1 in
    omega (arith, within, most)
