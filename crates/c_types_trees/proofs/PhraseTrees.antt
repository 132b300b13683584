-- What a phrase of a text gives where it keeps its rules: the trees of its types and its expressions.
use Rattle.std.proofs.Common.{◌≡◌, ℕ, zero, suc, List, [], ◌∷◌, map, Option, Some, None, refl, subst, ◌∙◌}
use Rattle.std.specs.Prelude.{Contains, option_and_then}
use Rattle.c_tree.specs.declared.raw.expr.RawExpr.{RawExpr}
use Rattle.c_tree.specs.declared.raw.expr.RawType.{RawType}
use Rattle.c_tree.specs.declared.raw.expr.RawType.TheVariants as raw_type
use Rattle.c_tree.specs.declared.raw.expr.RawVar.{RawVar}
use Rattle.c_tree.specs.declared.raw.program.RawInit.{RawInit}
use Rattle.c_tree.specs.declared.raw.program.RawInit.TheVariants as init
use Rattle.c_tree.specs.declared.raw.program.RawMember.{RawMember}
use Rattle.c_tree.specs.declared.raw.program.RawProgram.{RawProgram}
use Rattle.c_tree.specs.declared.raw.statement.RawTarget.{RawTarget}
use Rattle.c_tree.specs.declared.raw.statement.RawTarget.TheVariants as target
use Rattle.c_tree.specs.declared.raw.statement.RawTypeName.{RawTypeName}
use Rattle.c_language.specs.Words.{Bytes}
use Rattle.c_language.specs.ConstantEvaluation.{value_of_constant}
use Rattle.c_language.specs.DeclaredTypes.{defined_structs, struct_id, positive, item_count}
use Rattle.c_language.specs.Scopes.{Scope, with_target}
use Rattle.c_language.specs.ExprTypes.{operand}
use Rattle.c_language.specs.Phrases.{Stand, Part, HasMember, Declares, target_phrases}
use Rattle.c_language.specs.Uses.{expressions, lengths_of, lengths_in, tags, tags_in, tags_if}
use Rattle.c_language.specs.Rules.{tag, no_element, no_constant, AreKept, BreaksNone}
use Rattle.c_language.specs.StructRules.{MisusesTag}
use Rattle.c_language.specs.ArrayRules.{HasNoElement, LacksConstant}
use Rattle.c_language.specs.TypeGrammar.{pointed_n, named_type}
use Rattle.c_language.specs.ProgramOf.{ctype, ctype_if, expr_of, exprs_of}
use Rattle.c_language.proofs.Lists.{contains_nil, contains_first, contains_later}
use Rattle.c_language.proofs.Operands.{kept_clean}
use Rattle.c_language.proofs.UseLemmas.{tags-PointerTo, lengths-PointerTo}
use Rattle.c_types_trees.specs.KeptPhrases.{HasNoLength, HasNoLengthIf}
use Rattle.c_types_base.proofs.OptionLemmas.{not_none, there_then, there_optional, AreThere, there_collected}
use Rattle.c_types_trees.proofs.ScopeLemmas.{IsTyped, typed_variable, AreComplete}
use Rattle.c_types_base.proofs.TypeTrees.{type_made, IsMade}
use Rattle.c_types_trees.proofs.ExprTrees.{operand_there, expr_there}
use Rattle.c_language.specs.Options.{IsThere}

-- ---- phrases that keep all rules

module _ (raw : RawProgram) (scope : Scope) (part : Part) (keeps : BreaksNone raw scope part) where
  -- its tags are defined
  pub tag_defined : (t : Bytes) → Contains (tags part) t → IsThere (struct_id raw t)
  tag_defined t c = not_none (struct_id raw t) (λ e. keeps 7 (tag (MisusesTag.undefined c e)))

  -- its lengths are constants of at least 1
  pub length_constant : (n : RawExpr) → Contains (lengths_of part) n → IsThere (option_and_then positive (value_of_constant n))
  length_constant n c =
      there_then positive (value_of_constant n) (not_none (value_of_constant n) (λ e. keeps 10 (no_constant (LacksConstant.written_length c e))))
      (λ z is. not_none (positive z) (λ e. keeps 9 (no_element (HasNoElement.too_short c is e))))

-- ---- types without lengths

tags-pointed : (n : ℕ) (a : RawType) → tags_in (pointed_n n a) ≡ tags_in a
tags-pointed zero a = refl
tags-pointed (suc n) a = tags-pointed n (raw_type.PointerTo a) ∙ tags-PointerTo a

lengths-pointed : (n : ℕ) (a : RawType) → lengths_in (pointed_n n a) ≡ lengths_in a
lengths-pointed zero a = refl
lengths-pointed (suc n) a = lengths-pointed n (raw_type.PointerTo a) ∙ lengths-PointerTo a

pub plain_made : (raw : RawProgram) (t : RawType) → HasNoLength t → ((w : Bytes) → Contains (tags_in t) w → IsThere (struct_id raw w)) → IsMade raw 0 t
plain_made raw t none defined = type_made raw 0 t defined (λ n c. absurd (contains_nil n (subst (λ ns. Contains ns n) none c)))

pub named_made : (raw : RawProgram) (t : RawTypeName) → HasNoLength t.base → ((w : Bytes) → Contains (tags_in t.base) w → IsThere (struct_id raw w)) → IsMade raw 0 (named_type t)
named_made raw t none defined =
    plain_made raw (named_type t) (lengths-pointed t.stars t.base ∙ none) (λ w c. defined w (subst (λ ws. Contains ws w) (tags-pointed t.stars t.base) c))

pub result_made : (raw : RawProgram) (t : Option RawType) → HasNoLengthIf t → ((w : Bytes) → Contains (tags_if t) w → IsThere (struct_id raw w)) → IsThere (ctype_if raw t)
result_made raw None none defined = tt
result_made raw (Some t) none defined = there_optional (Some (ctype raw t)) (plain_made raw t none defined).tree

-- ---- declarations

pub variable_made : (raw : RawProgram) (scope : Scope) (stand : Stand) (var : RawVar) (i : RawInit) → BreaksNone raw scope (Declares stand var i) → IsMade raw (item_count i) var.shape
variable_made raw scope stand var i keeps =
    type_made raw (item_count i) var.shape (tag_defined raw scope (Declares stand var i) keeps) (length_constant raw scope (Declares stand var i) keeps)

pub member_made : (raw : RawProgram) (scope : Scope) (before : List RawMember) (m : RawMember) → BreaksNone raw scope (HasMember before m) → IsMade raw 0 m.shape
member_made raw scope before m keeps = type_made raw 0 m.shape (tag_defined raw scope (HasMember before m) keeps) (length_constant raw scope (HasMember before m) keeps)

-- a target that is declared has a type
abbrev pub IsMadeTarget : RawProgram → RawTarget → Type 0
IsMadeTarget raw target.None = Unit {0}
IsMadeTarget raw (target.Place a) = Unit {0}
IsMadeTarget raw (target.Declared var) = IsMade raw 0 var.shape

pub target_made : (raw : RawProgram) (l : ℕ) (scope : Scope) (stand : Stand) (to : RawTarget) → AreKept raw (target_phrases raw l scope stand to) → IsMadeTarget raw to
target_made raw l scope stand target.None h = tt
target_made raw l scope stand (target.Place a) h = tt
target_made raw l scope stand (target.Declared var) h = variable_made raw scope stand var init.None h.0

pub typed_target : (raw : RawProgram) (to : RawTarget) (scope : Scope) → IsMadeTarget raw to → IsTyped scope → IsTyped (with_target raw to scope)
typed_target raw target.None scope made typed = typed
typed_target raw (target.Place a) scope made typed = typed
typed_target raw (target.Declared var) scope made typed = typed_variable raw var init.None scope typed made.typed

-- ---- expressions

module _ (raw : RawProgram) (scope : Scope) where
  exprs_are : (es : List RawExpr) → ((e : RawExpr) → Contains es e → IsThere (expr_of raw scope e)) → AreThere (map (expr_of raw scope) es)
  exprs_are [] trees = tt
  exprs_are (e ∷ es) trees = (trees e (contains_first e es), exprs_are es (λ m c. trees m (contains_later e m es c)))

  pub exprs_there : (es : List RawExpr) → ((e : RawExpr) → Contains es e → IsThere (expr_of raw scope e)) → IsThere (exprs_of raw scope es)
  exprs_there es trees = there_collected (map (expr_of raw scope) es) (exprs_are es trees)

module _ (raw : RawProgram) (complete : AreComplete raw (defined_structs raw)) (scope : Scope) (typed : IsTyped scope) where
  -- each expression of a phrase has its tree
  pub phrase_tree : (part : Part) → BreaksNone raw scope part → (e : RawExpr) → Contains (expressions part) e → IsThere (expr_of raw scope e)
  phrase_tree part keeps e c = expr_there raw scope complete typed e (kept_clean raw scope part keeps e c)

  pub phrase_operand : (part : Part) → BreaksNone raw scope part → (e : RawExpr) → Contains (expressions part) e → IsThere (operand raw scope e)
  phrase_operand part keeps e c = operand_there raw scope complete typed e (kept_clean raw scope part keeps e c)
