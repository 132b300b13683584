-- What is known of an allocation that breaks no rule.
use Rattle.std.proofs.Common.{◌≡◌, ℕ, Bool, Option, [], ◌∷◌, option_map, refl, sym, subst}
use Rattle.std.specs.Prelude.{Contains}
use Rattle.std.proofs.lemmas.List.Elements.{Contains-append_right}
use Rattle.c_tree.specs.declared.statement.Size.TheVariants as measure
use Rattle.c_tree.specs.declared.raw.expr.RawExpr.{RawExpr}
use Rattle.c_tree.specs.declared.raw.program.RawProgram.{RawProgram}
use Rattle.c_tree.specs.declared.raw.statement.RawSize.{RawSize}
use Rattle.c_tree.specs.declared.raw.statement.RawSize.TheVariants as size
use Rattle.c_tree.specs.declared.raw.statement.RawTypeName.{RawTypeName}
use Rattle.c_tree.specs.declared.raw.statement.RawAmount.{RawAmount}
use Rattle.c_tree.specs.declared.raw.statement.RawAmount.TheVariants as amount
use Rattle.c_language.specs.Words.{Bytes}
use Rattle.c_language.specs.Phrases.{Allocates}
use Rattle.c_language.specs.ProgramOf.{ctype, ctype_if, variable_number, size_tree}
use Rattle.c_language.specs.Scopes.{Scope, meaning_in}
use Rattle.c_language.specs.TypeGrammar.{named_type}
use Rattle.c_language.specs.Uses.{counts, target_exprs}
use Rattle.c_language.proofs.Lists.{contains_first}
use Rattle.c_types_base.specs.declared.tables.Tables.{Tables}
use Rattle.c_types_base.specs.Tables.{scope_of, AreRight}
use Rattle.c_types_trees.specs.KeptPhrases.{IsOperand, AreOperands, AreMeasured, IsPlainAmount, IsPlainSize, IsKeptAllocation}
use Rattle.c_types_trees.proofs.AllocationTrees.{own_cast, one_size}
use Rattle.c_types_trees.proofs.KeptLemmas.{kept_operand}
use Rattle.c_language.specs.Options.{IsThere}
use Rattle.c_language.proofs.Options.{there_of_map}

module _ (raw : RawProgram) (scope : Scope) (cast : Option RawTypeName) (n : RawAmount) (h : IsKeptAllocation raw scope cast n) where
  -- the type that it is cast to
  pub cast_given : IsThere (ctype_if raw (option_map named_type cast))
  cast_given =
      (own_cast raw scope h.to cast n h.kept (h.typed) h.name)

  -- the size that is measured
  pub sizes_given : AreMeasured raw scope n
  sizes_given z plain is = (one_size raw scope h.to cast n h.kept (h.typed) z plain is)

-- the count
pub count_operands : (t : Tables) → AreRight t → (cast : Option RawTypeName) (n : RawAmount) → IsKeptAllocation t.raw.now (scope_of t) cast n
    → AreOperands t.raw.now (scope_of t) (counts n)
count_operands t right cast n h e c = kept_operand t right (Allocates h.to cast n) h.kept e (Contains-append_right (target_exprs h.to) (counts n) e c)

module _ (raw : RawProgram) (scope : Scope) where
  -- what is measured
  pub type_measured : (z : RawSize) (t : RawTypeName) → z ≡ size.Type t → IsThere (size_tree raw scope z) → IsThere (ctype raw (named_type t))
  type_measured z t is h = there_of_map measure.Type (ctype raw (named_type t)) (subst (λ y. IsThere (size_tree raw scope y)) is h)

  pub pointee_measured : (z : RawSize) (name : Bytes) (closed : Bool) → z ≡ size.Pointee name closed → IsThere (size_tree raw scope z)
      → IsThere (variable_number (meaning_in scope name))
  pointee_measured z name closed is h =
      there_of_map (λ (x : ℕ). measure.Pointee x closed) (variable_number (meaning_in scope name)) (subst (λ y. IsThere (size_tree raw scope y)) is h)

  -- the parts of an amount
  pub size_alone : (n : RawAmount) (z : RawSize) → n ≡ amount.Size z → IsPlainAmount n → AreMeasured raw scope n → IsPlainSize z × IsThere (size_tree raw scope z)
  size_alone n z is plain m = let p = subst IsPlainAmount is plain in (p, subst (AreMeasured raw scope) is m z p refl)

  pub size_behind : (n : RawAmount) (a : RawExpr) (z : RawSize) → n ≡ amount.CountSize a z → IsPlainAmount n → AreMeasured raw scope n
      → IsPlainSize z × IsThere (size_tree raw scope z)
  size_behind n a z is plain m = let p = subst IsPlainAmount is plain in (p, subst (AreMeasured raw scope) is m z p refl)

  pub size_before : (n : RawAmount) (z : RawSize) (a : RawExpr) → n ≡ amount.SizeCount z a → IsPlainAmount n → AreMeasured raw scope n
      → IsPlainSize z × IsThere (size_tree raw scope z)
  size_before n z a is plain m = let p = subst IsPlainAmount is plain in (p, subst (AreMeasured raw scope) is m z p refl)

  pub count_of : (n : RawAmount) (a : RawExpr) → counts n ≡ a ∷ [] → AreOperands raw scope (counts n) → IsOperand raw scope a
  count_of n a is h = h a (subst (λ es. Contains es a) (sym is) (contains_first a []))
