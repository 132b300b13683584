-- A declaration or a definition that passes its check breaks no rule.
use Rattle.std.proofs.Common.{◌≡◌, ◌≢◌, ℕ, ◌≤◌, ℤ, List, [], Bool, true, false, Option, Some, None, refl, sym, subst, arith}
use Rattle.std.specs.Prelude.{Contains, take, length}
use Rattle.c_arith.specs.declared.int_type.IntType.TheVariants.{Int}
use Rattle.c_tree.specs.declared.raw.expr.RawExpr.{RawExpr}
use Rattle.c_tree.specs.declared.raw.expr.RawType.TheVariants as type
use Rattle.c_tree.specs.declared.raw.expr.RawVar.{RawVar}
use Rattle.c_tree.specs.declared.raw.program.RawInit.{RawInit}
use Rattle.c_tree.specs.declared.raw.program.RawInit.TheVariants as init
use Rattle.c_tree.specs.declared.raw.program.RawMember.{RawMember}
use Rattle.c_tree.specs.declared.raw.program.RawParam.{RawParam}
use Rattle.c_tree.specs.declared.raw.program.RawHead.{RawHead}
use Rattle.c_tree.specs.declared.raw.program.RawProgram.{RawProgram}
use Rattle.c_tree.specs.declared.raw.statement.RawStatement.{RawStatement}
use Rattle.c_language.specs.Words.{Bytes}
use Rattle.c_language.specs.ConstantEvaluation.{value_of_constant}
use Rattle.c_language.specs.DeclaredTypes.{StructText, defined_structs, struct_id, definition_of, written_type, variable_type, positive}
use Rattle.c_language.specs.Scopes.{Scope, Meaning, meaning_in, meaning_here}
use Rattle.c_language.specs.ExprTypes.{is_scalar, is_assignable}
use Rattle.c_language.specs.ExprRules.{is_complete}
use Rattle.c_language.specs.Phrases.{Stand, InFile, InArm, Part, NamesStruct, DefinesStruct, HasMember, DeclaresFunction, Takes, EndsFunction, Declares, Begins}
use Rattle.c_language.specs.Uses.{tags, lengths_of, is_library_name, is_library_macro}
use Rattle.c_language.specs.Rules.{Breaks, undeclared, declared_again, shadowing, library_name, main, no_definition, tag, member, no_element, no_constant, switch, operator, other_type, no_place, address, arguments, result, return, format, allocation, library, initialiser, misplaced, no_header}
use Rattle.c_language.specs.NameRules.{main_name, IsDefinedBefore, same_signature, UsesUndeclared, DeclaresAgain, Shadows, DeclaresLibraryName, MisusesMain, LacksDefinition, LacksHeader}
use Rattle.c_language.specs.StructRules.{MisusesTag, MisnamesMember}
use Rattle.c_language.specs.ArrayRules.{HasNoElement, LacksConstant, IsNoConstant, HasUnfit, MisusesInitialiser, element_of, count_of}
use Rattle.c_language.specs.TypeRules.{MisusesOperator, AssignsOtherType, MisusesAddress}
use Rattle.c_language.specs.CallRules.{MisusesReturn, EndsWithValue}
use Rattle.c_language.specs.SwitchRules.{MisplacesDeclaration}
use Rattle.c_language.specs.declared.expr_type.ExprType.{ExprType}
use Rattle.c_language.proofs.Lists.{contains_nil}
use Rattle.c_types_base.proofs.PhraseLemmas.{clash, AreFaultless}
use Rattle.c_types_checks.proofs.KeptPhrases.{OfOperand}

module _ (raw : RawProgram) (scope : Scope) where
  -- each tag that the phrase names is defined
  abbrev pub AreNamed : Part → Type 0
  AreNamed part = (t : Bytes) → Contains (tags part) t → struct_id raw t ≢ None

  -- each length of the phrase is a constant of at least 1
  abbrev pub AreConstant : Part → Type 0
  AreConstant part = (m : RawExpr) → Contains (lengths_of part) m → value_of_constant m ≢ None

  abbrev pub ArePositive : Part → Type 0
  ArePositive part = (m : RawExpr) (z : ℤ) → Contains (lengths_of part) m → value_of_constant m ≡ Some z → positive z ≢ None

  pub keeps-NamesStruct : (t : Bytes) → (clear : AreFaultless raw scope (NamesStruct t)) → (named : AreNamed (NamesStruct t)) → (n : ℕ) → Breaks raw scope (NamesStruct t) n → ⊥
  keeps-NamesStruct t clear named n (undeclared (UsesUndeclared.in_expression {inner = part} h is)) = clash (clear part h).clean.declared is
  keeps-NamesStruct t clear named n (declared_again h) = elim h [ ]
  keeps-NamesStruct t clear named n (shadowing h) = elim h [ ]
  keeps-NamesStruct t clear named n (library_name h) = elim h [ ]
  keeps-NamesStruct t clear named n (main h) = elim h [ ]
  keeps-NamesStruct t clear named n (no_definition h) = elim h [ ]
  keeps-NamesStruct t clear named n (tag (MisusesTag.undefined {tag = w} c is)) = named w c is
  keeps-NamesStruct t clear named n (tag (MisusesTag.in_expression {inner = part} h is)) = clash (clear part h).clean.complete is
  keeps-NamesStruct t clear named n (member (MisnamesMember.missing {inner = part} h is)) = clash (clear part h).clean.member is
  keeps-NamesStruct t clear named n (no_element (HasNoElement.too_short {n = k} c v z)) = contains_nil k c
  keeps-NamesStruct t clear named n (no_constant (LacksConstant.written_length {n = k} c v)) = contains_nil k c
  keeps-NamesStruct t clear named n (switch h) = elim h [ ]
  keeps-NamesStruct t clear named n (operator (MisusesOperator.in_expression {inner = part} h is)) = clash (clear part h).clean.operands is
  keeps-NamesStruct t clear named n (other_type h) = elim h [ ]
  keeps-NamesStruct t clear named n (no_place h) = elim h [ ]
  keeps-NamesStruct t clear named n (address (MisusesAddress.in_expression {inner = part} h is)) = clash (clear part h).clean.address is
  keeps-NamesStruct t clear named n (arguments h) = elim h [ ]
  keeps-NamesStruct t clear named n (result h) = elim h [ ]
  keeps-NamesStruct t clear named n (return h) = elim h [ ]
  keeps-NamesStruct t clear named n (format h) = elim h [ ]
  keeps-NamesStruct t clear named n (allocation h) = elim h [ ]
  keeps-NamesStruct t clear named n (library h) = elim h [ ]
  keeps-NamesStruct t clear named n (initialiser h) = elim h [ ]
  keeps-NamesStruct t clear named n (misplaced h) = elim h [ ]
  keeps-NamesStruct t clear named n (no_header (LacksHeader.in_expression {inner = part} h is)) = clash (clear part h).header is

  pub keeps-DefinesStruct : (t : Bytes) → (clear : AreFaultless raw scope (DefinesStruct t)) → (fresh : (s : StructText) → Contains (take scope.structs (defined_structs raw)) s → s.tag ≢ t) → (allowed : is_library_macro t ≡ false) → (n : ℕ) → Breaks raw scope (DefinesStruct t) n → ⊥
  keeps-DefinesStruct t clear fresh allowed n (undeclared (UsesUndeclared.in_expression {inner = part} h is)) = clash (clear part h).clean.declared is
  keeps-DefinesStruct t clear fresh allowed n (declared_again h) = elim h [ ]
  keeps-DefinesStruct t clear fresh allowed n (shadowing h) = elim h [ ]
  keeps-DefinesStruct t clear fresh allowed n (library_name (DeclaresLibraryName.tag is)) = clash allowed is
  keeps-DefinesStruct t clear fresh allowed n (main h) = elim h [ ]
  keeps-DefinesStruct t clear fresh allowed n (no_definition h) = elim h [ ]
  keeps-DefinesStruct t clear fresh allowed n (tag (MisusesTag.undefined {tag = w} c is)) = contains_nil w c
  keeps-DefinesStruct t clear fresh allowed n (tag (MisusesTag.in_expression {inner = part} h is)) = clash (clear part h).clean.complete is
  keeps-DefinesStruct t clear fresh allowed n (tag (MisusesTag.again {s} c is)) = fresh s c is
  keeps-DefinesStruct t clear fresh allowed n (member (MisnamesMember.missing {inner = part} h is)) = clash (clear part h).clean.member is
  keeps-DefinesStruct t clear fresh allowed n (no_element (HasNoElement.too_short {n = k} c v z)) = contains_nil k c
  keeps-DefinesStruct t clear fresh allowed n (no_constant (LacksConstant.written_length {n = k} c v)) = contains_nil k c
  keeps-DefinesStruct t clear fresh allowed n (switch h) = elim h [ ]
  keeps-DefinesStruct t clear fresh allowed n (operator (MisusesOperator.in_expression {inner = part} h is)) = clash (clear part h).clean.operands is
  keeps-DefinesStruct t clear fresh allowed n (other_type h) = elim h [ ]
  keeps-DefinesStruct t clear fresh allowed n (no_place h) = elim h [ ]
  keeps-DefinesStruct t clear fresh allowed n (address (MisusesAddress.in_expression {inner = part} h is)) = clash (clear part h).clean.address is
  keeps-DefinesStruct t clear fresh allowed n (arguments h) = elim h [ ]
  keeps-DefinesStruct t clear fresh allowed n (result h) = elim h [ ]
  keeps-DefinesStruct t clear fresh allowed n (return h) = elim h [ ]
  keeps-DefinesStruct t clear fresh allowed n (format h) = elim h [ ]
  keeps-DefinesStruct t clear fresh allowed n (allocation h) = elim h [ ]
  keeps-DefinesStruct t clear fresh allowed n (library h) = elim h [ ]
  keeps-DefinesStruct t clear fresh allowed n (initialiser h) = elim h [ ]
  keeps-DefinesStruct t clear fresh allowed n (misplaced h) = elim h [ ]
  keeps-DefinesStruct t clear fresh allowed n (no_header (LacksHeader.in_expression {inner = part} h is)) = clash (clear part h).header is

  pub keeps-HasMember : (before : List RawMember) → (m : RawMember) → (clear : AreFaultless raw scope (HasMember before m)) → (named : AreNamed (HasMember before m)) → (constants : AreConstant (HasMember before m)) → (positives : ArePositive (HasMember before m)) → (complete : (t : ExprType) → written_type raw m.shape ≡ Some t → is_complete scope t ≡ true) → (fresh : (other : RawMember) → Contains before other → other.name ≢ m.name) → (allowed : is_library_macro m.name ≡ false) → (n : ℕ) → Breaks raw scope (HasMember before m) n → ⊥
  keeps-HasMember before m clear named constants positives complete fresh allowed n (undeclared (UsesUndeclared.in_expression {inner = part} h is)) = clash (clear part h).clean.declared is
  keeps-HasMember before m clear named constants positives complete fresh allowed n (declared_again h) = elim h [ ]
  keeps-HasMember before m clear named constants positives complete fresh allowed n (shadowing h) = elim h [ ]
  keeps-HasMember before m clear named constants positives complete fresh allowed n (library_name (DeclaresLibraryName.member is)) = clash allowed is
  keeps-HasMember before m clear named constants positives complete fresh allowed n (main h) = elim h [ ]
  keeps-HasMember before m clear named constants positives complete fresh allowed n (no_definition h) = elim h [ ]
  keeps-HasMember before m clear named constants positives complete fresh allowed n (tag (MisusesTag.undefined {tag = w} c is)) = named w c is
  keeps-HasMember before m clear named constants positives complete fresh allowed n (tag (MisusesTag.in_expression {inner = part} h is)) = clash (clear part h).clean.complete is
  keeps-HasMember before m clear named constants positives complete fresh allowed n (tag (MisusesTag.member {t} typed isnt)) = clash isnt (complete t typed)
  keeps-HasMember before m clear named constants positives complete fresh allowed n (member (MisnamesMember.missing {inner = part} h is)) = clash (clear part h).clean.member is
  keeps-HasMember before m clear named constants positives complete fresh allowed n (member (MisnamesMember.again {other} c is)) = fresh other c is
  keeps-HasMember before m clear named constants positives complete fresh allowed n (no_element (HasNoElement.too_short {n = k} {z} c v none)) = positives k z c v none
  keeps-HasMember before m clear named constants positives complete fresh allowed n (no_constant (LacksConstant.written_length {n = k} c v)) = constants k c v
  keeps-HasMember before m clear named constants positives complete fresh allowed n (switch h) = elim h [ ]
  keeps-HasMember before m clear named constants positives complete fresh allowed n (operator (MisusesOperator.in_expression {inner = part} h is)) = clash (clear part h).clean.operands is
  keeps-HasMember before m clear named constants positives complete fresh allowed n (other_type h) = elim h [ ]
  keeps-HasMember before m clear named constants positives complete fresh allowed n (no_place h) = elim h [ ]
  keeps-HasMember before m clear named constants positives complete fresh allowed n (address (MisusesAddress.in_expression {inner = part} h is)) = clash (clear part h).clean.address is
  keeps-HasMember before m clear named constants positives complete fresh allowed n (arguments h) = elim h [ ]
  keeps-HasMember before m clear named constants positives complete fresh allowed n (result h) = elim h [ ]
  keeps-HasMember before m clear named constants positives complete fresh allowed n (return h) = elim h [ ]
  keeps-HasMember before m clear named constants positives complete fresh allowed n (format h) = elim h [ ]
  keeps-HasMember before m clear named constants positives complete fresh allowed n (allocation h) = elim h [ ]
  keeps-HasMember before m clear named constants positives complete fresh allowed n (library h) = elim h [ ]
  keeps-HasMember before m clear named constants positives complete fresh allowed n (initialiser h) = elim h [ ]
  keeps-HasMember before m clear named constants positives complete fresh allowed n (misplaced h) = elim h [ ]
  keeps-HasMember before m clear named constants positives complete fresh allowed n (no_header (LacksHeader.in_expression {inner = part} h is)) = clash (clear part h).header is

  pub keeps-Prototype : (head : RawHead) → (clear : AreFaultless raw scope (DeclaresFunction head false)) → (named : AreNamed (DeclaresFunction head false)) → (other : (id : ℕ) (t : Option ExprType) → meaning_here scope head.name ≢ Some (Meaning.Variable id t)) → (allowed : is_library_name head.name ≡ false) → (not_main : head.name ≢ main_name) → (defined : definition_of raw head.name ≢ None) → (same : (f : RawHead) → definition_of raw head.name ≡ Some f → same_signature raw head f ≡ true) → (n : ℕ) → Breaks raw scope (DeclaresFunction head false) n → ⊥
  keeps-Prototype head clear named other allowed not_main defined same n (undeclared (UsesUndeclared.in_expression {inner = part} h is)) = clash (clear part h).clean.declared is
  keeps-Prototype head clear named other allowed not_main defined same n (declared_again (DeclaresAgain.function {id} {t} is)) = other id t is
  keeps-Prototype head clear named other allowed not_main defined same n (shadowing h) = elim h [ ]
  keeps-Prototype head clear named other allowed not_main defined same n (library_name (DeclaresLibraryName.function is)) = clash allowed is
  keeps-Prototype head clear named other allowed not_main defined same n (main (MisusesMain.prototype is)) = not_main is
  keeps-Prototype head clear named other allowed not_main defined same n (no_definition (LacksDefinition.prototype is)) = defined is
  keeps-Prototype head clear named other allowed not_main defined same n (no_definition (LacksDefinition.differs {f} is isnt)) = clash isnt (same f is)
  keeps-Prototype head clear named other allowed not_main defined same n (tag (MisusesTag.undefined {tag = w} c is)) = named w c is
  keeps-Prototype head clear named other allowed not_main defined same n (tag (MisusesTag.in_expression {inner = part} h is)) = clash (clear part h).clean.complete is
  keeps-Prototype head clear named other allowed not_main defined same n (member (MisnamesMember.missing {inner = part} h is)) = clash (clear part h).clean.member is
  keeps-Prototype head clear named other allowed not_main defined same n (no_element (HasNoElement.too_short {n = k} c v z)) = contains_nil k c
  keeps-Prototype head clear named other allowed not_main defined same n (no_constant (LacksConstant.written_length {n = k} c v)) = contains_nil k c
  keeps-Prototype head clear named other allowed not_main defined same n (switch h) = elim h [ ]
  keeps-Prototype head clear named other allowed not_main defined same n (operator (MisusesOperator.in_expression {inner = part} h is)) = clash (clear part h).clean.operands is
  keeps-Prototype head clear named other allowed not_main defined same n (other_type h) = elim h [ ]
  keeps-Prototype head clear named other allowed not_main defined same n (no_place h) = elim h [ ]
  keeps-Prototype head clear named other allowed not_main defined same n (address (MisusesAddress.in_expression {inner = part} h is)) = clash (clear part h).clean.address is
  keeps-Prototype head clear named other allowed not_main defined same n (arguments h) = elim h [ ]
  keeps-Prototype head clear named other allowed not_main defined same n (result h) = elim h [ ]
  keeps-Prototype head clear named other allowed not_main defined same n (return h) = elim h [ ]
  keeps-Prototype head clear named other allowed not_main defined same n (format h) = elim h [ ]
  keeps-Prototype head clear named other allowed not_main defined same n (allocation h) = elim h [ ]
  keeps-Prototype head clear named other allowed not_main defined same n (library h) = elim h [ ]
  keeps-Prototype head clear named other allowed not_main defined same n (initialiser h) = elim h [ ]
  keeps-Prototype head clear named other allowed not_main defined same n (misplaced h) = elim h [ ]
  keeps-Prototype head clear named other allowed not_main defined same n (no_header (LacksHeader.in_expression {inner = part} h is)) = clash (clear part h).header is

  pub keeps-Definition : (head : RawHead) → (clear : AreFaultless raw scope (DeclaresFunction head true)) → (named : AreNamed (DeclaresFunction head true)) → (other : (id : ℕ) (t : Option ExprType) → meaning_here scope head.name ≢ Some (Meaning.Variable id t)) → (first : IsDefinedBefore raw scope head.name → ⊥) → (allowed : is_library_name head.name ≡ false) → (an_int : head.name ≡ main_name → head.result ≡ Some (type.Integer Int)) → (alone : head.name ≡ main_name → head.params ≡ []) → (n : ℕ) → Breaks raw scope (DeclaresFunction head true) n → ⊥
  keeps-Definition head clear named other first allowed an_int alone n (undeclared (UsesUndeclared.in_expression {inner = part} h is)) = clash (clear part h).clean.declared is
  keeps-Definition head clear named other first allowed an_int alone n (declared_again (DeclaresAgain.function {id} {t} is)) = other id t is
  keeps-Definition head clear named other first allowed an_int alone n (declared_again (DeclaresAgain.definition before)) = first before
  keeps-Definition head clear named other first allowed an_int alone n (shadowing h) = elim h [ ]
  keeps-Definition head clear named other first allowed an_int alone n (library_name (DeclaresLibraryName.function is)) = clash allowed is
  keeps-Definition head clear named other first allowed an_int alone n (main (MisusesMain.again is before)) = first (subst (IsDefinedBefore raw scope) (sym is) before)
  keeps-Definition head clear named other first allowed an_int alone n (main (MisusesMain.no_int is isnt)) = isnt (an_int is)
  keeps-Definition head clear named other first allowed an_int alone n (main (MisusesMain.parameters is isnt)) = isnt (alone is)
  keeps-Definition head clear named other first allowed an_int alone n (no_definition h) = elim h [ ]
  keeps-Definition head clear named other first allowed an_int alone n (tag (MisusesTag.undefined {tag = w} c is)) = named w c is
  keeps-Definition head clear named other first allowed an_int alone n (tag (MisusesTag.in_expression {inner = part} h is)) = clash (clear part h).clean.complete is
  keeps-Definition head clear named other first allowed an_int alone n (member (MisnamesMember.missing {inner = part} h is)) = clash (clear part h).clean.member is
  keeps-Definition head clear named other first allowed an_int alone n (no_element (HasNoElement.too_short {n = k} c v z)) = contains_nil k c
  keeps-Definition head clear named other first allowed an_int alone n (no_constant (LacksConstant.written_length {n = k} c v)) = contains_nil k c
  keeps-Definition head clear named other first allowed an_int alone n (switch h) = elim h [ ]
  keeps-Definition head clear named other first allowed an_int alone n (operator (MisusesOperator.in_expression {inner = part} h is)) = clash (clear part h).clean.operands is
  keeps-Definition head clear named other first allowed an_int alone n (other_type h) = elim h [ ]
  keeps-Definition head clear named other first allowed an_int alone n (no_place h) = elim h [ ]
  keeps-Definition head clear named other first allowed an_int alone n (address (MisusesAddress.in_expression {inner = part} h is)) = clash (clear part h).clean.address is
  keeps-Definition head clear named other first allowed an_int alone n (arguments h) = elim h [ ]
  keeps-Definition head clear named other first allowed an_int alone n (result h) = elim h [ ]
  keeps-Definition head clear named other first allowed an_int alone n (return h) = elim h [ ]
  keeps-Definition head clear named other first allowed an_int alone n (format h) = elim h [ ]
  keeps-Definition head clear named other first allowed an_int alone n (allocation h) = elim h [ ]
  keeps-Definition head clear named other first allowed an_int alone n (library h) = elim h [ ]
  keeps-Definition head clear named other first allowed an_int alone n (initialiser h) = elim h [ ]
  keeps-Definition head clear named other first allowed an_int alone n (misplaced h) = elim h [ ]
  keeps-Definition head clear named other first allowed an_int alone n (no_header (LacksHeader.in_expression {inner = part} h is)) = clash (clear part h).header is

  pub keeps-Takes : (before : List RawParam) → (p : RawParam) → (clear : AreFaultless raw scope (Takes before p)) → (named : AreNamed (Takes before p)) → (fresh : (q : RawParam) (w : Bytes) → Contains before q → q.name ≡ Some w → p.name ≢ Some w) → (allowed : (w : Bytes) → p.name ≡ Some w → is_library_name w ≡ false) → (n : ℕ) → Breaks raw scope (Takes before p) n → ⊥
  keeps-Takes before p clear named fresh allowed n (undeclared (UsesUndeclared.in_expression {inner = part} h is)) = clash (clear part h).clean.declared is
  keeps-Takes before p clear named fresh allowed n (declared_again (DeclaresAgain.parameter {q} {name = w} c is also)) = fresh q w c is also
  keeps-Takes before p clear named fresh allowed n (shadowing h) = elim h [ ]
  keeps-Takes before p clear named fresh allowed n (library_name (DeclaresLibraryName.parameter {name = w} is also)) = clash (allowed w is) also
  keeps-Takes before p clear named fresh allowed n (main h) = elim h [ ]
  keeps-Takes before p clear named fresh allowed n (no_definition h) = elim h [ ]
  keeps-Takes before p clear named fresh allowed n (tag (MisusesTag.undefined {tag = w} c is)) = named w c is
  keeps-Takes before p clear named fresh allowed n (tag (MisusesTag.in_expression {inner = part} h is)) = clash (clear part h).clean.complete is
  keeps-Takes before p clear named fresh allowed n (member (MisnamesMember.missing {inner = part} h is)) = clash (clear part h).clean.member is
  keeps-Takes before p clear named fresh allowed n (no_element (HasNoElement.too_short {n = k} c v z)) = contains_nil k c
  keeps-Takes before p clear named fresh allowed n (no_constant (LacksConstant.written_length {n = k} c v)) = contains_nil k c
  keeps-Takes before p clear named fresh allowed n (switch h) = elim h [ ]
  keeps-Takes before p clear named fresh allowed n (operator (MisusesOperator.in_expression {inner = part} h is)) = clash (clear part h).clean.operands is
  keeps-Takes before p clear named fresh allowed n (other_type h) = elim h [ ]
  keeps-Takes before p clear named fresh allowed n (no_place h) = elim h [ ]
  keeps-Takes before p clear named fresh allowed n (address (MisusesAddress.in_expression {inner = part} h is)) = clash (clear part h).clean.address is
  keeps-Takes before p clear named fresh allowed n (arguments h) = elim h [ ]
  keeps-Takes before p clear named fresh allowed n (result h) = elim h [ ]
  keeps-Takes before p clear named fresh allowed n (return h) = elim h [ ]
  keeps-Takes before p clear named fresh allowed n (format h) = elim h [ ]
  keeps-Takes before p clear named fresh allowed n (allocation h) = elim h [ ]
  keeps-Takes before p clear named fresh allowed n (library h) = elim h [ ]
  keeps-Takes before p clear named fresh allowed n (initialiser h) = elim h [ ]
  keeps-Takes before p clear named fresh allowed n (misplaced h) = elim h [ ]
  keeps-Takes before p clear named fresh allowed n (no_header (LacksHeader.in_expression {inner = part} h is)) = clash (clear part h).header is

  pub keeps-EndsFunction : (head : RawHead) → (body : List RawStatement) → (clear : AreFaultless raw scope (EndsFunction head body)) → (ends : head.name ≢ main_name → head.result ≢ None → EndsWithValue body) → (n : ℕ) → Breaks raw scope (EndsFunction head body) n → ⊥
  keeps-EndsFunction head body clear ends n (undeclared (UsesUndeclared.in_expression {inner = part} h is)) = clash (clear part h).clean.declared is
  keeps-EndsFunction head body clear ends n (declared_again h) = elim h [ ]
  keeps-EndsFunction head body clear ends n (shadowing h) = elim h [ ]
  keeps-EndsFunction head body clear ends n (library_name h) = elim h [ ]
  keeps-EndsFunction head body clear ends n (main h) = elim h [ ]
  keeps-EndsFunction head body clear ends n (no_definition h) = elim h [ ]
  keeps-EndsFunction head body clear ends n (tag (MisusesTag.undefined {tag = w} c is)) = contains_nil w c
  keeps-EndsFunction head body clear ends n (tag (MisusesTag.in_expression {inner = part} h is)) = clash (clear part h).clean.complete is
  keeps-EndsFunction head body clear ends n (member (MisnamesMember.missing {inner = part} h is)) = clash (clear part h).clean.member is
  keeps-EndsFunction head body clear ends n (no_element (HasNoElement.too_short {n = k} c v z)) = contains_nil k c
  keeps-EndsFunction head body clear ends n (no_constant (LacksConstant.written_length {n = k} c v)) = contains_nil k c
  keeps-EndsFunction head body clear ends n (switch h) = elim h [ ]
  keeps-EndsFunction head body clear ends n (operator (MisusesOperator.in_expression {inner = part} h is)) = clash (clear part h).clean.operands is
  keeps-EndsFunction head body clear ends n (other_type h) = elim h [ ]
  keeps-EndsFunction head body clear ends n (no_place h) = elim h [ ]
  keeps-EndsFunction head body clear ends n (address (MisusesAddress.in_expression {inner = part} h is)) = clash (clear part h).clean.address is
  keeps-EndsFunction head body clear ends n (arguments h) = elim h [ ]
  keeps-EndsFunction head body clear ends n (result h) = elim h [ ]
  keeps-EndsFunction head body clear ends n (return (MisusesReturn.lacking other some isnt)) = isnt (ends other some)
  keeps-EndsFunction head body clear ends n (format h) = elim h [ ]
  keeps-EndsFunction head body clear ends n (allocation h) = elim h [ ]
  keeps-EndsFunction head body clear ends n (library h) = elim h [ ]
  keeps-EndsFunction head body clear ends n (initialiser h) = elim h [ ]
  keeps-EndsFunction head body clear ends n (misplaced h) = elim h [ ]
  keeps-EndsFunction head body clear ends n (no_header (LacksHeader.in_expression {inner = part} h is)) = clash (clear part h).header is

  pub keeps-Declares : (stand : Stand) → (var : RawVar) → (i : RawInit) → (clear : AreFaultless raw scope (Declares stand var i)) → (named : AreNamed (Declares stand var i)) → (constants : AreConstant (Declares stand var i)) → (positives : ArePositive (Declares stand var i)) → (fresh : meaning_in scope var.name ≡ None) → (here : meaning_here scope var.name ≡ None) → (allowed : is_library_name var.name ≡ false) → (complete : (t : ExprType) → variable_type raw var i ≡ Some t → is_complete scope t ≡ true) → (placed : stand ≢ InArm) → (n : ℕ) → Breaks raw scope (Declares stand var i) n → ⊥
  keeps-Declares stand var i clear named constants positives fresh here allowed complete placed n (undeclared (UsesUndeclared.in_expression {inner = part} h is)) = clash (clear part h).clean.declared is
  keeps-Declares stand var i clear named constants positives fresh here allowed complete placed n (declared_again (DeclaresAgain.variable isnt)) = isnt here
  keeps-Declares stand var i clear named constants positives fresh here allowed complete placed n (shadowing (Shadows.variable isnt)) = isnt fresh
  keeps-Declares stand var i clear named constants positives fresh here allowed complete placed n (library_name (DeclaresLibraryName.variable is)) = clash allowed is
  keeps-Declares stand var i clear named constants positives fresh here allowed complete placed n (main h) = elim h [ ]
  keeps-Declares stand var i clear named constants positives fresh here allowed complete placed n (no_definition h) = elim h [ ]
  keeps-Declares stand var i clear named constants positives fresh here allowed complete placed n (tag (MisusesTag.undefined {tag = w} c is)) = named w c is
  keeps-Declares stand var i clear named constants positives fresh here allowed complete placed n (tag (MisusesTag.in_expression {inner = part} h is)) = clash (clear part h).clean.complete is
  keeps-Declares stand var i clear named constants positives fresh here allowed complete placed n (tag (MisusesTag.object {t} typed isnt)) = clash isnt (complete t typed)
  keeps-Declares stand var i clear named constants positives fresh here allowed complete placed n (member (MisnamesMember.missing {inner = part} h is)) = clash (clear part h).clean.member is
  keeps-Declares stand var i clear named constants positives fresh here allowed complete placed n (no_element (HasNoElement.too_short {n = k} {z} c v none)) = positives k z c v none
  keeps-Declares stand var i clear named constants positives fresh here allowed complete placed n (no_constant (LacksConstant.written_length {n = k} c v)) = constants k c v
  keeps-Declares stand var i clear named constants positives fresh here allowed complete placed n (switch h) = elim h [ ]
  keeps-Declares stand var i clear named constants positives fresh here allowed complete placed n (operator (MisusesOperator.in_expression {inner = part} h is)) = clash (clear part h).clean.operands is
  keeps-Declares stand var i clear named constants positives fresh here allowed complete placed n (other_type h) = elim h [ ]
  keeps-Declares stand var i clear named constants positives fresh here allowed complete placed n (no_place h) = elim h [ ]
  keeps-Declares stand var i clear named constants positives fresh here allowed complete placed n (address (MisusesAddress.in_expression {inner = part} h is)) = clash (clear part h).clean.address is
  keeps-Declares stand var i clear named constants positives fresh here allowed complete placed n (arguments h) = elim h [ ]
  keeps-Declares stand var i clear named constants positives fresh here allowed complete placed n (result h) = elim h [ ]
  keeps-Declares stand var i clear named constants positives fresh here allowed complete placed n (return h) = elim h [ ]
  keeps-Declares stand var i clear named constants positives fresh here allowed complete placed n (format h) = elim h [ ]
  keeps-Declares stand var i clear named constants positives fresh here allowed complete placed n (allocation h) = elim h [ ]
  keeps-Declares stand var i clear named constants positives fresh here allowed complete placed n (library h) = elim h [ ]
  keeps-Declares stand var i clear named constants positives fresh here allowed complete placed n (initialiser h) = elim h [ ]
  keeps-Declares stand var i clear named constants positives fresh here allowed complete placed n (misplaced (MisplacesDeclaration.in_arm)) = placed refl
  keeps-Declares stand var i clear named constants positives fresh here allowed complete placed n (no_header (LacksHeader.in_expression {inner = part} h is)) = clash (clear part h).header is

  pub keeps-BeginsOne : (stand : Stand) → (var : RawVar) → (e : RawExpr) → (clear : AreFaultless raw scope (Begins stand var (init.One e))) → (constant : (is_static : Bool) → stand ≡ InFile is_static → (t : ExprType) → variable_type raw var (init.One e) ≡ Some t → IsNoConstant t e → ⊥) → (scalar : (t : ExprType) → variable_type raw var (init.One e) ≡ Some t → is_scalar t ≡ true) → (fits : (t : ExprType) → variable_type raw var (init.One e) ≡ Some t → OfOperand raw scope e (λ y. is_assignable t y ≡ true)) → (n : ℕ) → Breaks raw scope (Begins stand var (init.One e)) n → ⊥
  keeps-BeginsOne stand var e clear constant scalar fits n (undeclared (UsesUndeclared.in_expression {inner = part} h is)) = clash (clear part h).clean.declared is
  keeps-BeginsOne stand var e clear constant scalar fits n (declared_again h) = elim h [ ]
  keeps-BeginsOne stand var e clear constant scalar fits n (shadowing h) = elim h [ ]
  keeps-BeginsOne stand var e clear constant scalar fits n (library_name h) = elim h [ ]
  keeps-BeginsOne stand var e clear constant scalar fits n (main h) = elim h [ ]
  keeps-BeginsOne stand var e clear constant scalar fits n (no_definition h) = elim h [ ]
  keeps-BeginsOne stand var e clear constant scalar fits n (tag (MisusesTag.undefined {tag = w} c is)) = contains_nil w c
  keeps-BeginsOne stand var e clear constant scalar fits n (tag (MisusesTag.in_expression {inner = part} h is)) = clash (clear part h).clean.complete is
  keeps-BeginsOne stand var e clear constant scalar fits n (member (MisnamesMember.missing {inner = part} h is)) = clash (clear part h).clean.member is
  keeps-BeginsOne stand var e clear constant scalar fits n (no_element (HasNoElement.too_short {n = k} c v z)) = contains_nil k c
  keeps-BeginsOne stand var e clear constant scalar fits n (no_constant (LacksConstant.written_length {n = k} c v)) = contains_nil k c
  keeps-BeginsOne stand var e clear constant scalar fits n (no_constant (LacksConstant.global {is_static} {t} typed isnt)) = constant is_static refl t typed isnt
  keeps-BeginsOne stand var e clear constant scalar fits n (switch h) = elim h [ ]
  keeps-BeginsOne stand var e clear constant scalar fits n (operator (MisusesOperator.in_expression {inner = part} h is)) = clash (clear part h).clean.operands is
  keeps-BeginsOne stand var e clear constant scalar fits n (other_type (AssignsOtherType.initialiser {t} {y} typed is also isnt)) = clash isnt (fits t typed y is)
  keeps-BeginsOne stand var e clear constant scalar fits n (no_place h) = elim h [ ]
  keeps-BeginsOne stand var e clear constant scalar fits n (address (MisusesAddress.in_expression {inner = part} h is)) = clash (clear part h).clean.address is
  keeps-BeginsOne stand var e clear constant scalar fits n (arguments h) = elim h [ ]
  keeps-BeginsOne stand var e clear constant scalar fits n (result h) = elim h [ ]
  keeps-BeginsOne stand var e clear constant scalar fits n (return h) = elim h [ ]
  keeps-BeginsOne stand var e clear constant scalar fits n (format h) = elim h [ ]
  keeps-BeginsOne stand var e clear constant scalar fits n (allocation h) = elim h [ ]
  keeps-BeginsOne stand var e clear constant scalar fits n (library h) = elim h [ ]
  keeps-BeginsOne stand var e clear constant scalar fits n (initialiser (MisusesInitialiser.whole {t} typed isnt)) = clash isnt (scalar t typed)
  keeps-BeginsOne stand var e clear constant scalar fits n (misplaced h) = elim h [ ]
  keeps-BeginsOne stand var e clear constant scalar fits n (no_header (LacksHeader.in_expression {inner = part} h is)) = clash (clear part h).header is

  pub keeps-BeginsItems : (stand : Stand) → (var : RawVar) → (es : List RawExpr) → (clear : AreFaultless raw scope (Begins stand var (init.Items es))) → (constant : (is_static : Bool) → stand ≡ InFile is_static → (t : ExprType) → variable_type raw var (init.Items es) ≡ Some t → (u : ExprType) → element_of t ≡ Some u → (e : RawExpr) → Contains es e → IsNoConstant u e → ⊥) → (array : (t : ExprType) → variable_type raw var (init.Items es) ≡ Some t → element_of t ≢ None) → (scalars : (t : ExprType) → variable_type raw var (init.Items es) ≡ Some t → (u : ExprType) → element_of t ≡ Some u → is_scalar u ≡ true) → (few : (t : ExprType) → variable_type raw var (init.Items es) ≡ Some t → (k : ℕ) → count_of t ≡ Some k → length es ≤ k) → (fits : (t : ExprType) → variable_type raw var (init.Items es) ≡ Some t → (u : ExprType) → element_of t ≡ Some u → HasUnfit raw scope u es → ⊥) → (n : ℕ) → Breaks raw scope (Begins stand var (init.Items es)) n → ⊥
  keeps-BeginsItems stand var es clear constant array scalars few fits n (undeclared (UsesUndeclared.in_expression {inner = part} h is)) = clash (clear part h).clean.declared is
  keeps-BeginsItems stand var es clear constant array scalars few fits n (declared_again h) = elim h [ ]
  keeps-BeginsItems stand var es clear constant array scalars few fits n (shadowing h) = elim h [ ]
  keeps-BeginsItems stand var es clear constant array scalars few fits n (library_name h) = elim h [ ]
  keeps-BeginsItems stand var es clear constant array scalars few fits n (main h) = elim h [ ]
  keeps-BeginsItems stand var es clear constant array scalars few fits n (no_definition h) = elim h [ ]
  keeps-BeginsItems stand var es clear constant array scalars few fits n (tag (MisusesTag.undefined {tag = w} c is)) = contains_nil w c
  keeps-BeginsItems stand var es clear constant array scalars few fits n (tag (MisusesTag.in_expression {inner = part} h is)) = clash (clear part h).clean.complete is
  keeps-BeginsItems stand var es clear constant array scalars few fits n (member (MisnamesMember.missing {inner = part} h is)) = clash (clear part h).clean.member is
  keeps-BeginsItems stand var es clear constant array scalars few fits n (no_element (HasNoElement.too_short {n = k} c v z)) = contains_nil k c
  keeps-BeginsItems stand var es clear constant array scalars few fits n (no_constant (LacksConstant.written_length {n = k} c v)) = contains_nil k c
  keeps-BeginsItems stand var es clear constant array scalars few fits n (no_constant (LacksConstant.item {is_static} {e} {array = t} {t = u} typed element c isnt)) = constant is_static refl t typed u element e c isnt
  keeps-BeginsItems stand var es clear constant array scalars few fits n (switch h) = elim h [ ]
  keeps-BeginsItems stand var es clear constant array scalars few fits n (operator (MisusesOperator.in_expression {inner = part} h is)) = clash (clear part h).clean.operands is
  keeps-BeginsItems stand var es clear constant array scalars few fits n (other_type h) = elim h [ ]
  keeps-BeginsItems stand var es clear constant array scalars few fits n (no_place h) = elim h [ ]
  keeps-BeginsItems stand var es clear constant array scalars few fits n (address (MisusesAddress.in_expression {inner = part} h is)) = clash (clear part h).clean.address is
  keeps-BeginsItems stand var es clear constant array scalars few fits n (arguments h) = elim h [ ]
  keeps-BeginsItems stand var es clear constant array scalars few fits n (result h) = elim h [ ]
  keeps-BeginsItems stand var es clear constant array scalars few fits n (return h) = elim h [ ]
  keeps-BeginsItems stand var es clear constant array scalars few fits n (format h) = elim h [ ]
  keeps-BeginsItems stand var es clear constant array scalars few fits n (allocation h) = elim h [ ]
  keeps-BeginsItems stand var es clear constant array scalars few fits n (library h) = elim h [ ]
  keeps-BeginsItems stand var es clear constant array scalars few fits n (initialiser (MisusesInitialiser.no_array {t} typed none)) = array t typed none
  keeps-BeginsItems stand var es clear constant array scalars few fits n (initialiser (MisusesInitialiser.no_scalars {t} {element = u} typed element isnt)) = clash isnt (scalars t typed u element)
  keeps-BeginsItems stand var es clear constant array scalars few fits n (initialiser (MisusesInitialiser.too_many {t} {n = k} typed count more)) = omega (arith, few t typed k count, more)
  keeps-BeginsItems stand var es clear constant array scalars few fits n (initialiser (MisusesInitialiser.unfit {t} {element = u} typed element isnt)) = fits t typed u element isnt
  keeps-BeginsItems stand var es clear constant array scalars few fits n (misplaced h) = elim h [ ]
  keeps-BeginsItems stand var es clear constant array scalars few fits n (no_header (LacksHeader.in_expression {inner = part} h is)) = clash (clear part h).header is
