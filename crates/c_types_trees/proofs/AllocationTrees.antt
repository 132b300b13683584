-- An allocation that keeps its rules has its tree, where its result is stored and no length stands in its type names.
use Rattle.std.proofs.Common.{◌≡◌, ℕ, [], ◌∷◌, Bool, Option, Some, None, refl, sym, ap, subst}
use Rattle.std.specs.Prelude.{Contains, is_some, option_map}
use Rattle.std.proofs.lemmas.List.Elements.{Contains-append_left, Contains-append_right}
use Rattle.c_tree.specs.declared.statement.Target.{Target}
use Rattle.c_tree.specs.declared.statement.Size.TheVariants as measure
use Rattle.c_tree.specs.declared.statement.Amount.TheVariants as quantity
use Rattle.c_tree.specs.declared.statement.Statement.TheVariants as s
use Rattle.c_tree.specs.declared.raw.expr.RawExpr.{RawExpr}
use Rattle.c_tree.specs.declared.raw.program.RawProgram.{RawProgram}
use Rattle.c_tree.specs.declared.raw.statement.RawTarget.{RawTarget}
use Rattle.c_tree.specs.declared.raw.statement.RawTarget.TheVariants as target
use Rattle.c_tree.specs.declared.raw.statement.RawTypeName.{RawTypeName}
use Rattle.c_tree.specs.declared.raw.statement.RawSize.{RawSize}
use Rattle.c_tree.specs.declared.raw.statement.RawSize.TheVariants as size
use Rattle.c_tree.specs.declared.raw.statement.RawAmount.{RawAmount}
use Rattle.c_tree.specs.declared.raw.statement.RawAmount.TheVariants as amount
use Rattle.c_language.specs.Words.{Bytes}
use Rattle.c_language.specs.DeclaredTypes.{defined_structs, struct_id}
use Rattle.c_language.specs.Scopes.{Scope, Meaning, meaning_in}
use Rattle.c_language.specs.ExprTypes.{operand, target_of}
use Rattle.c_language.specs.Phrases.{Part, Allocates}
use Rattle.c_language.specs.Uses.{expressions, tags, tags_in, tags_if, tags_of_size, sizes, counts, target_exprs}
use Rattle.c_language.specs.Rules.{undeclared, allocation, BreaksNone}
use Rattle.c_language.specs.NameRules.{UsesUndeclared}
use Rattle.c_language.specs.CallRules.{target_type, HasOtherSize, MisusesAllocation, IsStored}
use Rattle.c_language.specs.TypeGrammar.{named_type}
use Rattle.c_language.specs.ProgramOf.{ctype, ctype_if, expr_of, variable_number, size_tree, amount_tree, heap_tree}
use Rattle.c_language.specs.declared.expr_type.ExprType.{ExprType}
use Rattle.c_language.specs.declared.expr_type.Operand.{Operand}
use Rattle.c_language.proofs.Options.{value_there, there_map}
use Rattle.c_language.proofs.Lists.{contains_first}
use Rattle.c_types_base.proofs.OptionLemmas.{not_none, there_then, there_optional}
use Rattle.c_types_trees.specs.FitPhrases.{IsAllocation}
use Rattle.c_types_trees.specs.KeptPhrases.{IsPlainName, IsPlainSize, IsPlainAmount}
use Rattle.c_types_trees.proofs.ScopeLemmas.{IsTyped, AreComplete}
use Rattle.c_types_trees.proofs.PhraseTrees.{tag_defined, named_made, IsMadeTarget, phrase_tree, phrase_operand}
use Rattle.c_language.specs.Options.{IsThere}

module _ (raw : RawProgram) (scope : Scope) (to : RawTarget) (cast : Option RawTypeName) (n : RawAmount) (keeps : BreaksNone raw scope (Allocates to cast n))
    (stored_type : IsThere (target_type raw scope to)) where
  -- the target is a pointer, so that what it points to has a type
  stored_object : (t : ExprType) → target_type raw scope to ≡ Some t → IsThere (target_of t)
  stored_object t is = not_none (target_of t) (λ none. keeps 20 (allocation (MisusesAllocation.no_pointer is (ap is_some none))))

  tag_there : (w : Bytes) → Contains (tags (Allocates to cast n)) w → IsThere (struct_id raw w)
  tag_there = tag_defined raw scope (Allocates to cast n) keeps

  cast_there : (c : Option RawTypeName) → IsPlainName c
      → ((w : Bytes) → Contains (tags_if (option_map (λ (t : RawTypeName). t.base) c)) w → IsThere (struct_id raw w)) → IsThere (ctype_if raw (option_map named_type c))
  cast_there None plain defined = tt
  cast_there (Some c) plain defined = there_optional (Some (ctype raw (named_type c))) (named_made raw c plain defined).tree

  pub own_cast : IsPlainName cast → IsThere (ctype_if raw (option_map named_type cast))
  own_cast plain = cast_there cast plain (λ w c. tag_there w (Contains-append_left (tags_if (option_map (λ (t : RawTypeName). t.base) cast)) (tags_of_size (sizes n)) w c))

  -- a variable whose target is measured
  measured : (name : Bytes) (closed : Bool) → Contains (sizes n) (size.Pointee name closed) → (m : Option Meaning) → meaning_in scope name ≡ m → IsThere (variable_number m)
  measured name closed c None is = keeps 1 (undeclared (UsesUndeclared.measured c is))
  measured name closed c (Some Meaning.Function) is =
      let t = value_there (target_type raw scope to) stored_type in
      let o = value_there (target_of t.0) (stored_object t.0 t.1) in
      keeps 20 (allocation (MisusesAllocation.other_size t.1 o.1 c (HasOtherSize.of_function is)))
  measured name closed c (Some (Meaning.Variable id t)) is = tt

  size_there : (z : RawSize) → IsPlainSize z → Contains (sizes n) z → ((w : Bytes) → Contains (tags_of_size (z ∷ [])) w → IsThere (struct_id raw w))
      → IsThere (size_tree raw scope z)
  size_there (size.Type t) plain c defined =
      there_map measure.Type (ctype raw (named_type t)) (named_made raw t plain (λ w k. defined w (Contains-append_left (tags_in t.base) [] w k))).tree
  size_there (size.Pointee name closed) plain c defined =
      there_map (λ (x : ℕ). measure.Pointee x closed) (variable_number (meaning_in scope name)) (measured name closed c (meaning_in scope name) refl)

  size_tag : (w : Bytes) → Contains (tags_of_size (sizes n)) w → IsThere (struct_id raw w)
  size_tag w c = tag_there w (Contains-append_right (tags_if (option_map (λ (t : RawTypeName). t.base) cast)) (tags_of_size (sizes n)) w c)

  pub amount_there : (m : RawAmount) → IsPlainAmount m
      → ((z : RawSize) → IsPlainSize z → sizes m ≡ z ∷ [] → IsThere (size_tree raw scope z))
      → ((e : RawExpr) → Contains (counts m) e → IsThere (expr_of raw scope e)) → IsThere (amount_tree raw scope m)
  amount_there (amount.Size z) plain of_size of_count = there_map quantity.Size (size_tree raw scope z) (of_size z plain refl)
  amount_there (amount.CountSize a z) plain of_size of_count =
      there_then _ (expr_of raw scope a) (of_count a (contains_first a [])) (λ x is. there_map (quantity.CountSize x) (size_tree raw scope z) (of_size z plain refl))
  amount_there (amount.SizeCount z a) plain of_size of_count =
      there_then _ (size_tree raw scope z) (of_size z plain refl) (λ x is. there_map (quantity.SizeCount x) (expr_of raw scope a) (of_count a (contains_first a [])))
  amount_there (amount.Count a) plain of_size of_count = there_map quantity.Count (expr_of raw scope a) (of_count a (contains_first a []))

  pub one_size : (z : RawSize) → IsPlainSize z → sizes n ≡ z ∷ [] → IsThere (size_tree raw scope z)
  one_size z plain is =
      size_there z plain (subst (λ zs. Contains zs z) (sym is) (contains_first z []))
      (λ w c. size_tag w (subst (λ zs. Contains (tags_of_size zs) w) (sym is) c))

module _ (raw : RawProgram) (complete : AreComplete raw (defined_structs raw)) (scope : Scope) (typed : IsTyped scope) where
  -- what a call's result is stored in has a type
  target_typed : (part : Part) → BreaksNone raw scope part → (to : RawTarget) → IsStored to → IsMadeTarget raw to
      → ((e : RawExpr) → Contains (target_exprs to) e → Contains (expressions part) e) → IsThere (target_type raw scope to)
  target_typed part keeps target.None stored made within = stored
  target_typed part keeps (target.Place a) stored made within =
      there_map (λ (x : Operand). x.shape) (operand raw scope a) (phrase_operand raw complete scope typed part keeps a (within a (contains_first a [])))
  target_typed part keeps (target.Declared var) stored made within = made.typed

  module _ (to : RawTarget) (cast : Option RawTypeName) (n : RawAmount) (form : IsAllocation to cast n) (made : IsMadeTarget raw to)
      (keeps : BreaksNone raw scope (Allocates to cast n)) where
    count_tree : (e : RawExpr) → Contains (counts n) e → IsThere (expr_of raw scope e)
    count_tree e c = phrase_tree raw complete scope typed (Allocates to cast n) keeps e (Contains-append_right (target_exprs to) (counts n) e c)

    pub stored_type : IsThere (target_type raw scope to)
    stored_type = target_typed (Allocates to cast n) keeps to form.stored made (λ e c. Contains-append_left (target_exprs to) (counts n) e c)

    pub heap_there : (id line : ℕ) (t : Option Target) → IsThere t → IsThere (heap_tree raw scope id line t cast n)
    heap_there id line t there =
        there_then _ t there (λ x is.
        there_then _ (ctype_if raw (option_map named_type cast)) (own_cast raw scope to cast n keeps stored_type form.name)
        (λ c also. there_map (s.Heap id line x c) (amount_tree raw scope n)
        (amount_there raw scope to cast n keeps stored_type n form.amount (one_size raw scope to cast n keeps stored_type) count_tree)))
