-- A call, an allocation or a switch that passes its check breaks no rule.
use Rattle.std.proofs.Common.{◌≡◌, ◌≢◌, ℕ, List, Bool, true, false, Option, Some, None, refl}
use Rattle.std.specs.Prelude.{◌&&◌, Contains, bytes_eq, codes}
use Rattle.std.proofs.lemmas.Bool.{and_parts}
use Rattle.c_tree.specs.declared.raw.expr.RawExpr.{RawExpr}
use Rattle.c_tree.specs.declared.raw.expr.RawVar.{RawVar}
use Rattle.c_tree.specs.declared.raw.program.RawInit.TheVariants as init
use Rattle.c_tree.specs.declared.raw.program.RawProgram.{RawProgram}
use Rattle.c_tree.specs.declared.raw.statement.RawTarget.{RawTarget}
use Rattle.c_tree.specs.declared.raw.statement.RawTarget.TheVariants as place
use Rattle.c_tree.specs.declared.raw.statement.RawArg.{RawArg}
use Rattle.c_tree.specs.declared.raw.statement.RawTypeName.{RawTypeName}
use Rattle.c_tree.specs.declared.raw.statement.RawSize.TheVariants as size
use Rattle.c_tree.specs.declared.raw.statement.RawAmount.{RawAmount}
use Rattle.c_tree.specs.declared.raw.statement.RawLabel.{RawLabel}
use Rattle.c_language.specs.Words.{Bytes}
use Rattle.c_language.specs.ConstantEvaluation.{value_of_constant}
use Rattle.c_language.specs.DeclaredTypes.{has_stdio, has_stdlib, definition_of, written_type, variable_type}
use Rattle.c_language.specs.Scopes.{Scope, Meaning, meaning_in}
use Rattle.c_language.specs.ExprTypes.{is_scalar, value_type, target_of}
use Rattle.c_language.specs.ExprRules.{is_complete}
use Rattle.c_language.specs.Phrases.{Stand, Begins, Calls, Allocates, Switches}
use Rattle.c_language.specs.TypeGrammar.{named_type}
use Rattle.c_language.specs.Uses.{sizes, cases, arg_exprs, is_library_function}
use Rattle.c_language.specs.Rules.{Breaks, undeclared, declared_again, shadowing, library_name, main, no_definition, tag, member, no_element, no_constant, switch, operator, other_type, no_place, address, arguments, result, return, format, allocation, library, initialiser, misplaced, no_header}
use Rattle.c_language.specs.NameRules.{main_name, UsesUndeclared, MisusesMain, LacksDefinition, LacksHeader}
use Rattle.c_language.specs.StructRules.{MisusesTag, MisnamesMember}
use Rattle.c_language.specs.ArrayRules.{HasNoElement, LacksConstant, MisusesInitialiser}
use Rattle.c_language.specs.TypeRules.{MisusesOperator, AssignsNoPlace, IsNoTarget, MisusesAddress}
use Rattle.c_language.specs.SwitchRules.{MisusesSwitch, MisplacesDeclaration}
use Rattle.c_language.specs.CallRules.{MisusesArguments, MisusesResult, MisusesFormat, MisusesAllocation, MisusesLibrary}
use Rattle.c_language.specs.declared.expr_type.ExprType.{ExprType}
use Rattle.c_language.proofs.Lists.{contains_nil}
use Rattle.c_types_base.proofs.JudgingLaws.{Keeps}
use Rattle.c_types_base.proofs.PhraseLemmas.{clash, AreFaultless}
use Rattle.c_types_checks.proofs.KeptPhrases.{OfOperand}
use Rattle.c_types_checks.proofs.KeptDeclarations.{AreNamed}

module _ (raw : RawProgram) (scope : Scope) where
  -- a result can be stored in the target
  abbrev pub TargetIsRight : RawTarget → Type 0
  TargetIsRight place.None = Unit {0}
  TargetIsRight (place.Place left) = Keeps raw scope left × OfOperand raw scope left (λ x. (x.is_place && is_scalar x.shape) ≡ true)
  TargetIsRight (place.Declared var) = (t : ExprType) → variable_type raw var init.None ≡ Some t → is_scalar t ≡ true

  -- the header of a function of the library is included
  pub record HeaderIsRight (f : Bytes) : Type 0 where
    pub free : bytes_eq f (codes "free") ≡ true → has_stdlib raw ≡ true
    pub putchar : bytes_eq f (codes "putchar") ≡ true → has_stdio raw ≡ true
    pub getchar : bytes_eq f (codes "getchar") ≡ true → has_stdio raw ≡ true
    pub printf : bytes_eq f (codes "printf") ≡ true → has_stdio raw ≡ true

  -- a call keeps the rules on calls
  pub record CallIsRight (stand : Stand) (to : RawTarget) (f : Bytes) (args : List RawArg) : Type 0 where
    pub known : is_library_function f ≡ false → meaning_in scope f ≡ Some Meaning.Function
    pub arguments : MisusesArguments raw scope (Calls stand to f args) → ⊥
    pub result : MisusesResult raw scope (Calls stand to f args) → ⊥
    pub format : MisusesFormat raw scope (Calls stand to f args) → ⊥
    pub library : MisusesLibrary raw scope (Calls stand to f args) → ⊥
    pub placed : MisplacesDeclaration raw scope (Calls stand to f args) → ⊥
    pub header : HeaderIsRight f
    pub values : (e : RawExpr) → Contains (arg_exprs args) e → Keeps raw scope e

  pub keeps-BeginsNone : (stand : Stand) → (var : RawVar) → (clear : AreFaultless raw scope (Begins stand var init.None)) → (n : ℕ) → Breaks raw scope (Begins stand var init.None) n → ⊥
  keeps-BeginsNone stand var clear n (undeclared (UsesUndeclared.in_expression {inner = part} h is)) = clash (clear part h).clean.declared is
  keeps-BeginsNone stand var clear n (declared_again h) = elim h [ ]
  keeps-BeginsNone stand var clear n (shadowing h) = elim h [ ]
  keeps-BeginsNone stand var clear n (library_name h) = elim h [ ]
  keeps-BeginsNone stand var clear n (main h) = elim h [ ]
  keeps-BeginsNone stand var clear n (no_definition h) = elim h [ ]
  keeps-BeginsNone stand var clear n (tag (MisusesTag.undefined {tag = w} c is)) = contains_nil w c
  keeps-BeginsNone stand var clear n (tag (MisusesTag.in_expression {inner = part} h is)) = clash (clear part h).clean.complete is
  keeps-BeginsNone stand var clear n (member (MisnamesMember.missing {inner = part} h is)) = clash (clear part h).clean.member is
  keeps-BeginsNone stand var clear n (no_element (HasNoElement.too_short {n = k} c v z)) = contains_nil k c
  keeps-BeginsNone stand var clear n (no_constant (LacksConstant.written_length {n = k} c v)) = contains_nil k c
  keeps-BeginsNone stand var clear n (switch h) = elim h [ ]
  keeps-BeginsNone stand var clear n (operator (MisusesOperator.in_expression {inner = part} h is)) = clash (clear part h).clean.operands is
  keeps-BeginsNone stand var clear n (other_type h) = elim h [ ]
  keeps-BeginsNone stand var clear n (no_place h) = elim h [ ]
  keeps-BeginsNone stand var clear n (address (MisusesAddress.in_expression {inner = part} h is)) = clash (clear part h).clean.address is
  keeps-BeginsNone stand var clear n (arguments h) = elim h [ ]
  keeps-BeginsNone stand var clear n (result h) = elim h [ ]
  keeps-BeginsNone stand var clear n (return h) = elim h [ ]
  keeps-BeginsNone stand var clear n (format h) = elim h [ ]
  keeps-BeginsNone stand var clear n (allocation h) = elim h [ ]
  keeps-BeginsNone stand var clear n (library h) = elim h [ ]
  keeps-BeginsNone stand var clear n (initialiser h) = elim h [ ]
  keeps-BeginsNone stand var clear n (misplaced h) = elim h [ ]
  keeps-BeginsNone stand var clear n (no_header (LacksHeader.in_expression {inner = part} h is)) = clash (clear part h).header is

  pub keeps-Calls : (stand : Stand) → (to : RawTarget) → (f : Bytes) → (args : List RawArg) → (clear : AreFaultless raw scope (Calls stand to f args)) → (not_main : bytes_eq f main_name ≡ false) → (defined : meaning_in scope f ≡ Some Meaning.Function → definition_of raw f ≢ None) → (target : TargetIsRight to) → (right : CallIsRight stand to f args) → (n : ℕ) → Breaks raw scope (Calls stand to f args) n → ⊥
  keeps-Calls stand to f args clear not_main defined target right n (undeclared (UsesUndeclared.in_expression {inner = part} h is)) = clash (clear part h).clean.declared is
  keeps-Calls stand to f args clear not_main defined target right n (undeclared (UsesUndeclared.called own isnt)) = isnt (right.known own)
  keeps-Calls stand to f args clear not_main defined target right n (declared_again h) = elim h [ ]
  keeps-Calls stand to f args clear not_main defined target right n (shadowing h) = elim h [ ]
  keeps-Calls stand to f args clear not_main defined target right n (library_name h) = elim h [ ]
  keeps-Calls stand to f args clear not_main defined target right n (main (MisusesMain.called)) = clash not_main refl
  keeps-Calls stand to f args clear not_main defined target right n (no_definition (LacksDefinition.called is none)) = defined is none
  keeps-Calls stand to f args clear not_main defined target right n (tag (MisusesTag.undefined {tag = w} c is)) = contains_nil w c
  keeps-Calls stand to f args clear not_main defined target right n (tag (MisusesTag.in_expression {inner = part} h is)) = clash (clear part h).clean.complete is
  keeps-Calls stand to f args clear not_main defined target right n (member (MisnamesMember.missing {inner = part} h is)) = clash (clear part h).clean.member is
  keeps-Calls stand to f args clear not_main defined target right n (no_element (HasNoElement.too_short {n = k} c v z)) = contains_nil k c
  keeps-Calls stand to f args clear not_main defined target right n (no_constant (LacksConstant.written_length {n = k} c v)) = contains_nil k c
  keeps-Calls stand to f args clear not_main defined target right n (switch h) = elim h [ ]
  keeps-Calls stand to f args clear not_main defined target right n (operator (MisusesOperator.in_expression {inner = part} h is)) = clash (clear part h).clean.operands is
  keeps-Calls stand to f args clear not_main defined target right n (other_type h) = elim h [ ]
  keeps-Calls stand to f args clear not_main defined target right n (no_place (AssignsNoPlace.result {left} (IsNoTarget.no_place {x} is isnt))) = clash isnt (and_parts x.is_place _ (target.1 x is)).0
  keeps-Calls stand to f args clear not_main defined target right n (no_place (AssignsNoPlace.result {left} (IsNoTarget.no_scalar {x} is isnt))) = clash isnt (and_parts x.is_place _ (target.1 x is)).1
  keeps-Calls stand to f args clear not_main defined target right n (address (MisusesAddress.in_expression {inner = part} h is)) = clash (clear part h).clean.address is
  keeps-Calls stand to f args clear not_main defined target right n (arguments h) = right.arguments h
  keeps-Calls stand to f args clear not_main defined target right n (result h) = right.result h
  keeps-Calls stand to f args clear not_main defined target right n (return h) = elim h [ ]
  keeps-Calls stand to f args clear not_main defined target right n (format h) = right.format h
  keeps-Calls stand to f args clear not_main defined target right n (allocation h) = elim h [ ]
  keeps-Calls stand to f args clear not_main defined target right n (library h) = right.library h
  keeps-Calls stand to f args clear not_main defined target right n (initialiser (MisusesInitialiser.by_call {var} {t} typed isnt)) = clash isnt (target t typed)
  keeps-Calls stand to f args clear not_main defined target right n (misplaced h) = right.placed h
  keeps-Calls stand to f args clear not_main defined target right n (no_header (LacksHeader.in_expression {inner = part} h is)) = clash (clear part h).header is
  keeps-Calls stand to f args clear not_main defined target right n (no_header (LacksHeader.release isnt)) = clash isnt (right.header.free refl)
  keeps-Calls stand to f args clear not_main defined target right n (no_header (LacksHeader.input isnt)) = clash isnt (right.header.getchar refl)
  keeps-Calls stand to f args clear not_main defined target right n (no_header (LacksHeader.output isnt)) = clash isnt (right.header.putchar refl)
  keeps-Calls stand to f args clear not_main defined target right n (no_header (LacksHeader.format isnt)) = clash isnt (right.header.printf refl)

  pub keeps-Allocates : (to : RawTarget) → (cast : Option RawTypeName) → (amount : RawAmount) → (clear : AreFaultless raw scope (Allocates to cast amount)) → (header : has_stdlib raw ≡ true) → (named : AreNamed raw scope (Allocates to cast amount)) → (target : TargetIsRight to) → (declared : (name : Bytes) (closed : Bool) → Contains (sizes amount) (size.Pointee name closed) → meaning_in scope name ≢ None) → (of_types : (t : RawTypeName) (u : ExprType) → Contains (sizes amount) (size.Type t) → written_type raw (named_type t) ≡ Some u → is_complete scope u ≡ true) → (of_targets : (name : Bytes) (closed : Bool) (id : ℕ) (t u : ExprType) → Contains (sizes amount) (size.Pointee name closed) → meaning_in scope name ≡ Some (Meaning.Variable id (Some t)) → target_of (value_type t) ≡ Some u → is_complete scope u ≡ true) → (right : MisusesAllocation raw scope (Allocates to cast amount) → ⊥) → (n : ℕ) → Breaks raw scope (Allocates to cast amount) n → ⊥
  keeps-Allocates to cast amount clear header named target declared of_types of_targets right n (undeclared (UsesUndeclared.in_expression {inner = part} h is)) = clash (clear part h).clean.declared is
  keeps-Allocates to cast amount clear header named target declared of_types of_targets right n (undeclared (UsesUndeclared.measured {name} {closed} c is)) = declared name closed c is
  keeps-Allocates to cast amount clear header named target declared of_types of_targets right n (declared_again h) = elim h [ ]
  keeps-Allocates to cast amount clear header named target declared of_types of_targets right n (shadowing h) = elim h [ ]
  keeps-Allocates to cast amount clear header named target declared of_types of_targets right n (library_name h) = elim h [ ]
  keeps-Allocates to cast amount clear header named target declared of_types of_targets right n (main h) = elim h [ ]
  keeps-Allocates to cast amount clear header named target declared of_types of_targets right n (no_definition h) = elim h [ ]
  keeps-Allocates to cast amount clear header named target declared of_types of_targets right n (tag (MisusesTag.undefined {tag = w} c is)) = named w c is
  keeps-Allocates to cast amount clear header named target declared of_types of_targets right n (tag (MisusesTag.in_expression {inner = part} h is)) = clash (clear part h).clean.complete is
  keeps-Allocates to cast amount clear header named target declared of_types of_targets right n (tag (MisusesTag.size_of_type {t} {object} c typed isnt)) = clash isnt (of_types t object c typed)
  keeps-Allocates to cast amount clear header named target declared of_types of_targets right n (tag (MisusesTag.size_of_target {name} {closed} {id} {t} {object} c is points isnt)) = clash isnt (of_targets name closed id t object c is points)
  keeps-Allocates to cast amount clear header named target declared of_types of_targets right n (member (MisnamesMember.missing {inner = part} h is)) = clash (clear part h).clean.member is
  keeps-Allocates to cast amount clear header named target declared of_types of_targets right n (no_element (HasNoElement.too_short {n = k} c v z)) = contains_nil k c
  keeps-Allocates to cast amount clear header named target declared of_types of_targets right n (no_constant (LacksConstant.written_length {n = k} c v)) = contains_nil k c
  keeps-Allocates to cast amount clear header named target declared of_types of_targets right n (switch h) = elim h [ ]
  keeps-Allocates to cast amount clear header named target declared of_types of_targets right n (operator (MisusesOperator.in_expression {inner = part} h is)) = clash (clear part h).clean.operands is
  keeps-Allocates to cast amount clear header named target declared of_types of_targets right n (other_type h) = elim h [ ]
  keeps-Allocates to cast amount clear header named target declared of_types of_targets right n (no_place (AssignsNoPlace.allocation {left} (IsNoTarget.no_place {x} is isnt))) = clash isnt (and_parts x.is_place _ (target.1 x is)).0
  keeps-Allocates to cast amount clear header named target declared of_types of_targets right n (no_place (AssignsNoPlace.allocation {left} (IsNoTarget.no_scalar {x} is isnt))) = clash isnt (and_parts x.is_place _ (target.1 x is)).1
  keeps-Allocates to cast amount clear header named target declared of_types of_targets right n (address (MisusesAddress.in_expression {inner = part} h is)) = clash (clear part h).clean.address is
  keeps-Allocates to cast amount clear header named target declared of_types of_targets right n (arguments h) = elim h [ ]
  keeps-Allocates to cast amount clear header named target declared of_types of_targets right n (result h) = elim h [ ]
  keeps-Allocates to cast amount clear header named target declared of_types of_targets right n (return h) = elim h [ ]
  keeps-Allocates to cast amount clear header named target declared of_types of_targets right n (format h) = elim h [ ]
  keeps-Allocates to cast amount clear header named target declared of_types of_targets right n (allocation h) = right h
  keeps-Allocates to cast amount clear header named target declared of_types of_targets right n (library h) = elim h [ ]
  keeps-Allocates to cast amount clear header named target declared of_types of_targets right n (initialiser (MisusesInitialiser.by_allocation {var} {t} typed isnt)) = clash isnt (target t typed)
  keeps-Allocates to cast amount clear header named target declared of_types of_targets right n (misplaced h) = elim h [ ]
  keeps-Allocates to cast amount clear header named target declared of_types of_targets right n (no_header (LacksHeader.in_expression {inner = part} h is)) = clash (clear part h).header is
  keeps-Allocates to cast amount clear header named target declared of_types of_targets right n (no_header (LacksHeader.allocation isnt)) = clash isnt header

  pub keeps-Switches : (test : RawExpr) → (labels : List RawLabel) → (clear : AreFaultless raw scope (Switches test labels)) → (right : MisusesSwitch raw scope (Switches test labels) → ⊥) → (constants : (e : RawExpr) → Contains (cases labels) e → value_of_constant e ≢ None) → (n : ℕ) → Breaks raw scope (Switches test labels) n → ⊥
  keeps-Switches test labels clear right constants n (undeclared (UsesUndeclared.in_expression {inner = part} h is)) = clash (clear part h).clean.declared is
  keeps-Switches test labels clear right constants n (declared_again h) = elim h [ ]
  keeps-Switches test labels clear right constants n (shadowing h) = elim h [ ]
  keeps-Switches test labels clear right constants n (library_name h) = elim h [ ]
  keeps-Switches test labels clear right constants n (main h) = elim h [ ]
  keeps-Switches test labels clear right constants n (no_definition h) = elim h [ ]
  keeps-Switches test labels clear right constants n (tag (MisusesTag.undefined {tag = w} c is)) = contains_nil w c
  keeps-Switches test labels clear right constants n (tag (MisusesTag.in_expression {inner = part} h is)) = clash (clear part h).clean.complete is
  keeps-Switches test labels clear right constants n (member (MisnamesMember.missing {inner = part} h is)) = clash (clear part h).clean.member is
  keeps-Switches test labels clear right constants n (no_element (HasNoElement.too_short {n = k} c v z)) = contains_nil k c
  keeps-Switches test labels clear right constants n (no_constant (LacksConstant.written_length {n = k} c v)) = contains_nil k c
  keeps-Switches test labels clear right constants n (no_constant (LacksConstant.label {e} c none)) = constants e c none
  keeps-Switches test labels clear right constants n (switch h) = right h
  keeps-Switches test labels clear right constants n (operator (MisusesOperator.in_expression {inner = part} h is)) = clash (clear part h).clean.operands is
  keeps-Switches test labels clear right constants n (other_type h) = elim h [ ]
  keeps-Switches test labels clear right constants n (no_place h) = elim h [ ]
  keeps-Switches test labels clear right constants n (address (MisusesAddress.in_expression {inner = part} h is)) = clash (clear part h).clean.address is
  keeps-Switches test labels clear right constants n (arguments h) = elim h [ ]
  keeps-Switches test labels clear right constants n (result h) = elim h [ ]
  keeps-Switches test labels clear right constants n (return h) = elim h [ ]
  keeps-Switches test labels clear right constants n (format h) = elim h [ ]
  keeps-Switches test labels clear right constants n (allocation h) = elim h [ ]
  keeps-Switches test labels clear right constants n (library h) = elim h [ ]
  keeps-Switches test labels clear right constants n (initialiser h) = elim h [ ]
  keeps-Switches test labels clear right constants n (misplaced h) = elim h [ ]
  keeps-Switches test labels clear right constants n (no_header (LacksHeader.in_expression {inner = part} h is)) = clash (clear part h).header is
