-- A type whose tags are defined and whose lengths are constants of at least 1 has its tree.
use Rattle.std.proofs.Common.{ℕ, List, [], ◌++◌, Option, sym, subst}
use Rattle.std.specs.Prelude.{Contains, option_and_then}
use Rattle.c_tree.specs.declared.types.CType.{CType}
use Rattle.c_tree.specs.declared.types.CType.TheVariants as type
use Rattle.c_tree.specs.declared.raw.expr.RawExpr.{RawExpr}
use Rattle.c_tree.specs.declared.raw.expr.RawLength.{RawLength}
use Rattle.c_tree.specs.declared.raw.expr.RawLength.TheVariants as length_of
use Rattle.c_tree.specs.declared.raw.expr.RawType.{RawType, map-RawType, ind-RawType, roll-RawType}
use Rattle.c_tree.specs.declared.raw.expr.RawType.TheOpen.{RawType-F}
use Rattle.c_tree.specs.declared.raw.program.RawProgram.{RawProgram}
use Rattle.c_language.specs.Words.{Bytes}
use Rattle.c_language.specs.ConstantEvaluation.{value_of_constant}
use Rattle.c_language.specs.DeclaredTypes.{struct_id, positive, length_in, type_step, type_with, of_base, pointer_to}
use Rattle.c_language.specs.ProgramOf.{ctype_step, ctype_with, length_words}
use Rattle.c_language.specs.Uses.{lengths_in, lengths_step, written_lengths, tags_in, tags_step}
use Rattle.c_language.specs.declared.expr_type.Base.TheVariants as base
use Rattle.c_language.specs.declared.expr_type.ExprType.{ExprType}
use Rattle.c_language.proofs.Options.{there_map}
use Rattle.c_language.proofs.Lists.{contains_first, contains_later}
use Rattle.c_language.proofs.UseLemmas.{tags-roll, lengths-roll}
use Rattle.c_types_base.proofs.OptionLemmas.{there_then, there_both}
use Rattle.c_language.proofs.LayerForms.{type-roll, ctype-roll}
use Rattle.c_language.specs.Options.{IsThere}

-- a written type is one of the language, and has its tree
pub record IsMade (raw : RawProgram) (items : ℕ) (t : RawType) : Type 0 where
  pub typed : IsThere (type_with raw items t)
  pub tree : IsThere (ctype_with raw items t)

module _ (raw : RawProgram) (items : ℕ) where
  -- each of these tags is defined
  abbrev pub AreDefined : List Bytes → Type 0
  AreDefined ts = (t : Bytes) → Contains ts t → IsThere (struct_id raw t)

  -- each of these lengths is a constant of at least 1
  abbrev pub AreLengths : List RawExpr → Type 0
  AreLengths ns = (n : RawExpr) → Contains ns n → IsThere (option_and_then positive (value_of_constant n))

  abbrev IsSound : RawType → Type 0
  IsSound t = AreDefined (tags_in t) → AreLengths (lengths_in t) → IsMade raw items t

  abbrev layer_of : RawType-F ((t : RawType) × IsSound t) → RawType-F RawType
  layer_of = map-RawType ((t : RawType) × IsSound t) RawType (λ t. t.0)

  length_there : (n : RawLength) (ns : List RawExpr) → AreLengths (written_lengths n ++ ns) → IsThere (length_in items n)
  length_there (length_of.Written e) ns h = h e (contains_first e ns)
  length_there length_of.Listed ns h = tt

  others : (n : RawLength) (ns : List RawExpr) → AreLengths (written_lengths n ++ ns) → AreLengths ns
  others (length_of.Written e) ns h = λ m c. h m (contains_later e m ns c)
  others length_of.Listed ns h = h

  abbrev IsMadeLayer : RawType-F RawType → Type 0
  IsMadeLayer layer =
      IsThere (type_step raw items (map-RawType RawType (Option ExprType) (type_with raw items) layer))
      × IsThere (ctype_step raw items (map-RawType RawType (Option CType) (ctype_with raw items) layer))

  made_layer : (y : RawType-F ((t : RawType) × IsSound t))
      → AreDefined (tags_step (map-RawType RawType (List Bytes) tags_in (layer_of y)))
      → AreLengths (lengths_step (map-RawType RawType (List RawExpr) lengths_in (layer_of y))) → IsMadeLayer (layer_of y)
  made_layer (RawType-F.Integer t) d l = (tt, tt)
  made_layer (RawType-F.PointerTo a) d l =
      (there_map pointer_to (type_with raw items a.0) (a.1 d l).typed, there_map type.PointerTo (ctype_with raw items a.0) (a.1 d l).tree)
  made_layer (RawType-F.Array a n) d l =
      let inner = a.1 d (others n (lengths_in a.0) l) in (
        there_then _ (type_with raw items a.0) inner.typed (λ t is. there_map _ (length_in items n) (length_there n (lengths_in a.0) l)),
        there_both (λ (t : CType) (k : ℕ). type.Array t k (length_words items n)) (ctype_with raw items a.0) (length_in items n) inner.tree (length_there n (lengths_in a.0) l),
      )
  made_layer (RawType-F.Struct tag) d l =
      (there_map (λ (s : ℕ). of_base (base.Struct s)) (struct_id raw tag) (d tag (contains_first tag [])), there_map type.Struct (struct_id raw tag) (d tag (contains_first tag [])))

  made_roll : (y : RawType-F ((t : RawType) × IsSound t)) → IsSound (roll-RawType (layer_of y))
  made_roll y d l =
      let made = made_layer y (subst AreDefined (tags-roll (layer_of y)) d) (subst AreLengths (lengths-roll (layer_of y)) l) in
      record { typed = subst IsThere (sym (type-roll raw items (layer_of y))) made.0; tree = subst IsThere (sym (ctype-roll raw items (layer_of y))) made.1 }

  -- a type keeps the rules on tags and lengths, and then it is made
  pub type_made : (t : RawType) → AreDefined (tags_in t) → AreLengths (lengths_in t) → IsMade raw items t
  type_made = ind-RawType IsSound (λ x y is. subst (λ z. IsSound (roll-RawType z)) is (made_roll y))
