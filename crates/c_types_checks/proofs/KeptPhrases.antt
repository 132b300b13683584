-- A phrase that passes its check breaks no rule.
use Rattle.std.proofs.Common.{◌≡◌, ◌≢◌, ℕ, true, false, Some, None}
use Rattle.std.specs.Prelude.{◌&&◌}
use Rattle.std.proofs.lemmas.Bool.{and_parts}
use Rattle.c_arith.specs.declared.operators.BinaryOp.{BinaryOp}
use Rattle.c_arith.specs.declared.operators.BinaryOp.TheVariants.{Add}
use Rattle.c_tree.specs.declared.raw.expr.RawExpr.{RawExpr}
use Rattle.c_tree.specs.declared.raw.program.RawHead.{RawHead}
use Rattle.c_tree.specs.declared.raw.program.RawProgram.{RawProgram}
use Rattle.c_language.specs.DeclaredTypes.{result_type}
use Rattle.c_language.specs.Scopes.{Scope}
use Rattle.c_language.specs.ExprTypes.{operand, a_value, value_type, is_scalar, binary_result, is_assignable}
use Rattle.c_language.specs.ExprRules.{holds_of, points_to_incomplete, moves_incomplete}
use Rattle.c_language.specs.Phrases.{Assigns, Bumps, Tests, Returns}
use Rattle.c_language.specs.Rules.{Breaks, undeclared, declared_again, shadowing, library_name, main, no_definition, tag, member, no_element, no_constant, switch, operator, other_type, no_place, address, arguments, result, return, format, allocation, library, initialiser, misplaced, no_header}
use Rattle.c_language.specs.NameRules.{UsesUndeclared, LacksHeader}
use Rattle.c_language.specs.StructRules.{MisusesTag, MisnamesMember}
use Rattle.c_language.specs.ArrayRules.{HasNoElement, LacksConstant}
use Rattle.c_language.specs.TypeRules.{MisusesOperator, AssignsOtherType, AssignsNoPlace, IsNoTarget, MisusesAddress, one}
use Rattle.c_language.specs.CallRules.{MisusesReturn, head_around}
use Rattle.c_language.specs.declared.expr_type.ExprType.{ExprType}
use Rattle.c_language.specs.declared.expr_type.Operand.{Operand}
use Rattle.c_language.proofs.Lists.{contains_nil}
use Rattle.c_types_base.proofs.PhraseLemmas.{clash, AreFaultless}

module _ (raw : RawProgram) (scope : Scope) where
  -- the same of each operand that the expression is
  abbrev pub OfOperand : RawExpr → (Operand → Type 0) → Type 0
  OfOperand e P = (x : Operand) → operand raw scope e ≡ Some x → P x

  pub keeps-Tests : (e : RawExpr) → (clear : AreFaultless raw scope (Tests e)) → (scalar : OfOperand e (λ x. is_scalar (value_type x.shape) ≡ true)) → (n : ℕ) → Breaks raw scope (Tests e) n → ⊥
  keeps-Tests e clear scalar n (undeclared (UsesUndeclared.in_expression {inner = part} h is)) = clash (clear part h).clean.declared is
  keeps-Tests e clear scalar n (declared_again h) = elim h [ ]
  keeps-Tests e clear scalar n (shadowing h) = elim h [ ]
  keeps-Tests e clear scalar n (library_name h) = elim h [ ]
  keeps-Tests e clear scalar n (main h) = elim h [ ]
  keeps-Tests e clear scalar n (no_definition h) = elim h [ ]
  keeps-Tests e clear scalar n (tag (MisusesTag.undefined {tag = w} c is)) = contains_nil w c
  keeps-Tests e clear scalar n (tag (MisusesTag.in_expression {inner = part} h is)) = clash (clear part h).clean.complete is
  keeps-Tests e clear scalar n (member (MisnamesMember.missing {inner = part} h is)) = clash (clear part h).clean.member is
  keeps-Tests e clear scalar n (no_element (HasNoElement.too_short {n = k} c v z)) = contains_nil k c
  keeps-Tests e clear scalar n (no_constant (LacksConstant.written_length {n = k} c v)) = contains_nil k c
  keeps-Tests e clear scalar n (switch h) = elim h [ ]
  keeps-Tests e clear scalar n (operator (MisusesOperator.in_expression {inner = part} h is)) = clash (clear part h).clean.operands is
  keeps-Tests e clear scalar n (operator (MisusesOperator.test {x} is isnt)) = clash isnt (scalar x is)
  keeps-Tests e clear scalar n (other_type h) = elim h [ ]
  keeps-Tests e clear scalar n (no_place h) = elim h [ ]
  keeps-Tests e clear scalar n (address (MisusesAddress.in_expression {inner = part} h is)) = clash (clear part h).clean.address is
  keeps-Tests e clear scalar n (arguments h) = elim h [ ]
  keeps-Tests e clear scalar n (result h) = elim h [ ]
  keeps-Tests e clear scalar n (return h) = elim h [ ]
  keeps-Tests e clear scalar n (format h) = elim h [ ]
  keeps-Tests e clear scalar n (allocation h) = elim h [ ]
  keeps-Tests e clear scalar n (library h) = elim h [ ]
  keeps-Tests e clear scalar n (initialiser h) = elim h [ ]
  keeps-Tests e clear scalar n (misplaced h) = elim h [ ]
  keeps-Tests e clear scalar n (no_header (LacksHeader.in_expression {inner = part} h is)) = clash (clear part h).header is

  pub keeps-Bumps : (left : RawExpr) → (clear : AreFaultless raw scope (Bumps left)) → (target : OfOperand left (λ x. (x.is_place && is_scalar x.shape) ≡ true)) → (whole : holds_of (points_to_incomplete scope) (operand raw scope left) ≡ false) → (gives : OfOperand left (λ x. binary_result Add x one ≢ None)) → (n : ℕ) → Breaks raw scope (Bumps left) n → ⊥
  keeps-Bumps left clear target whole gives n (undeclared (UsesUndeclared.in_expression {inner = part} h is)) = clash (clear part h).clean.declared is
  keeps-Bumps left clear target whole gives n (declared_again h) = elim h [ ]
  keeps-Bumps left clear target whole gives n (shadowing h) = elim h [ ]
  keeps-Bumps left clear target whole gives n (library_name h) = elim h [ ]
  keeps-Bumps left clear target whole gives n (main h) = elim h [ ]
  keeps-Bumps left clear target whole gives n (no_definition h) = elim h [ ]
  keeps-Bumps left clear target whole gives n (tag (MisusesTag.undefined {tag = w} c is)) = contains_nil w c
  keeps-Bumps left clear target whole gives n (tag (MisusesTag.in_expression {inner = part} h is)) = clash (clear part h).clean.complete is
  keeps-Bumps left clear target whole gives n (tag (MisusesTag.bumped is)) = clash whole is
  keeps-Bumps left clear target whole gives n (member (MisnamesMember.missing {inner = part} h is)) = clash (clear part h).clean.member is
  keeps-Bumps left clear target whole gives n (no_element (HasNoElement.too_short {n = k} c v z)) = contains_nil k c
  keeps-Bumps left clear target whole gives n (no_constant (LacksConstant.written_length {n = k} c v)) = contains_nil k c
  keeps-Bumps left clear target whole gives n (switch h) = elim h [ ]
  keeps-Bumps left clear target whole gives n (operator (MisusesOperator.in_expression {inner = part} h is)) = clash (clear part h).clean.operands is
  keeps-Bumps left clear target whole gives n (operator (MisusesOperator.bump {x} is isnt)) = gives x is isnt
  keeps-Bumps left clear target whole gives n (other_type h) = elim h [ ]
  keeps-Bumps left clear target whole gives n (no_place (AssignsNoPlace.bump (IsNoTarget.no_place {x} is isnt))) = clash isnt (and_parts x.is_place _ (target x is)).0
  keeps-Bumps left clear target whole gives n (no_place (AssignsNoPlace.bump (IsNoTarget.no_scalar {x} is isnt))) = clash isnt (and_parts x.is_place _ (target x is)).1
  keeps-Bumps left clear target whole gives n (address (MisusesAddress.in_expression {inner = part} h is)) = clash (clear part h).clean.address is
  keeps-Bumps left clear target whole gives n (arguments h) = elim h [ ]
  keeps-Bumps left clear target whole gives n (result h) = elim h [ ]
  keeps-Bumps left clear target whole gives n (return h) = elim h [ ]
  keeps-Bumps left clear target whole gives n (format h) = elim h [ ]
  keeps-Bumps left clear target whole gives n (allocation h) = elim h [ ]
  keeps-Bumps left clear target whole gives n (library h) = elim h [ ]
  keeps-Bumps left clear target whole gives n (initialiser h) = elim h [ ]
  keeps-Bumps left clear target whole gives n (misplaced h) = elim h [ ]
  keeps-Bumps left clear target whole gives n (no_header (LacksHeader.in_expression {inner = part} h is)) = clash (clear part h).header is

  pub keeps-Assigns : (left : RawExpr) → (right : RawExpr) → (clear : AreFaultless raw scope (Assigns left None right)) → (target : OfOperand left (λ x. (x.is_place && is_scalar x.shape) ≡ true)) → (fits : OfOperand left (λ x. OfOperand right (λ y. is_assignable x.shape y ≡ true))) → (n : ℕ) → Breaks raw scope (Assigns left None right) n → ⊥
  keeps-Assigns left right clear target fits n (undeclared (UsesUndeclared.in_expression {inner = part} h is)) = clash (clear part h).clean.declared is
  keeps-Assigns left right clear target fits n (declared_again h) = elim h [ ]
  keeps-Assigns left right clear target fits n (shadowing h) = elim h [ ]
  keeps-Assigns left right clear target fits n (library_name h) = elim h [ ]
  keeps-Assigns left right clear target fits n (main h) = elim h [ ]
  keeps-Assigns left right clear target fits n (no_definition h) = elim h [ ]
  keeps-Assigns left right clear target fits n (tag (MisusesTag.undefined {tag = w} c is)) = contains_nil w c
  keeps-Assigns left right clear target fits n (tag (MisusesTag.in_expression {inner = part} h is)) = clash (clear part h).clean.complete is
  keeps-Assigns left right clear target fits n (member (MisnamesMember.missing {inner = part} h is)) = clash (clear part h).clean.member is
  keeps-Assigns left right clear target fits n (no_element (HasNoElement.too_short {n = k} c v z)) = contains_nil k c
  keeps-Assigns left right clear target fits n (no_constant (LacksConstant.written_length {n = k} c v)) = contains_nil k c
  keeps-Assigns left right clear target fits n (switch h) = elim h [ ]
  keeps-Assigns left right clear target fits n (operator (MisusesOperator.in_expression {inner = part} h is)) = clash (clear part h).clean.operands is
  keeps-Assigns left right clear target fits n (other_type (AssignsOtherType.simple {x} {y} is also scalar isnt)) = clash isnt (fits x is y also)
  keeps-Assigns left right clear target fits n (no_place (AssignsNoPlace.assignment (IsNoTarget.no_place {x} is isnt))) = clash isnt (and_parts x.is_place _ (target x is)).0
  keeps-Assigns left right clear target fits n (no_place (AssignsNoPlace.assignment (IsNoTarget.no_scalar {x} is isnt))) = clash isnt (and_parts x.is_place _ (target x is)).1
  keeps-Assigns left right clear target fits n (address (MisusesAddress.in_expression {inner = part} h is)) = clash (clear part h).clean.address is
  keeps-Assigns left right clear target fits n (arguments h) = elim h [ ]
  keeps-Assigns left right clear target fits n (result h) = elim h [ ]
  keeps-Assigns left right clear target fits n (return h) = elim h [ ]
  keeps-Assigns left right clear target fits n (format h) = elim h [ ]
  keeps-Assigns left right clear target fits n (allocation h) = elim h [ ]
  keeps-Assigns left right clear target fits n (library h) = elim h [ ]
  keeps-Assigns left right clear target fits n (initialiser h) = elim h [ ]
  keeps-Assigns left right clear target fits n (misplaced h) = elim h [ ]
  keeps-Assigns left right clear target fits n (no_header (LacksHeader.in_expression {inner = part} h is)) = clash (clear part h).header is

  pub keeps-Compound : (left : RawExpr) → (op : BinaryOp) → (right : RawExpr) → (clear : AreFaultless raw scope (Assigns left (Some op) right)) → (target : OfOperand left (λ x. (x.is_place && is_scalar x.shape) ≡ true)) → (whole : moves_incomplete scope op (operand raw scope left) (operand raw scope right) ≡ false) → (gives : OfOperand left (λ x. OfOperand right (λ y. binary_result op x y ≢ None))) → (fits : OfOperand left (λ x. OfOperand right (λ y. (t : ExprType) → binary_result op x y ≡ Some t → is_assignable x.shape (a_value t) ≡ true))) → (n : ℕ) → Breaks raw scope (Assigns left (Some op) right) n → ⊥
  keeps-Compound left op right clear target whole gives fits n (undeclared (UsesUndeclared.in_expression {inner = part} h is)) = clash (clear part h).clean.declared is
  keeps-Compound left op right clear target whole gives fits n (declared_again h) = elim h [ ]
  keeps-Compound left op right clear target whole gives fits n (shadowing h) = elim h [ ]
  keeps-Compound left op right clear target whole gives fits n (library_name h) = elim h [ ]
  keeps-Compound left op right clear target whole gives fits n (main h) = elim h [ ]
  keeps-Compound left op right clear target whole gives fits n (no_definition h) = elim h [ ]
  keeps-Compound left op right clear target whole gives fits n (tag (MisusesTag.undefined {tag = w} c is)) = contains_nil w c
  keeps-Compound left op right clear target whole gives fits n (tag (MisusesTag.in_expression {inner = part} h is)) = clash (clear part h).clean.complete is
  keeps-Compound left op right clear target whole gives fits n (tag (MisusesTag.compound is)) = clash whole is
  keeps-Compound left op right clear target whole gives fits n (member (MisnamesMember.missing {inner = part} h is)) = clash (clear part h).clean.member is
  keeps-Compound left op right clear target whole gives fits n (no_element (HasNoElement.too_short {n = k} c v z)) = contains_nil k c
  keeps-Compound left op right clear target whole gives fits n (no_constant (LacksConstant.written_length {n = k} c v)) = contains_nil k c
  keeps-Compound left op right clear target whole gives fits n (switch h) = elim h [ ]
  keeps-Compound left op right clear target whole gives fits n (operator (MisusesOperator.in_expression {inner = part} h is)) = clash (clear part h).clean.operands is
  keeps-Compound left op right clear target whole gives fits n (operator (MisusesOperator.compound {x} {y} is also isnt)) = gives x is y also isnt
  keeps-Compound left op right clear target whole gives fits n (other_type (AssignsOtherType.compound {x} {y} {t} is also of_type scalar isnt)) = clash isnt (fits x is y also t of_type)
  keeps-Compound left op right clear target whole gives fits n (no_place (AssignsNoPlace.assignment (IsNoTarget.no_place {x} is isnt))) = clash isnt (and_parts x.is_place _ (target x is)).0
  keeps-Compound left op right clear target whole gives fits n (no_place (AssignsNoPlace.assignment (IsNoTarget.no_scalar {x} is isnt))) = clash isnt (and_parts x.is_place _ (target x is)).1
  keeps-Compound left op right clear target whole gives fits n (address (MisusesAddress.in_expression {inner = part} h is)) = clash (clear part h).clean.address is
  keeps-Compound left op right clear target whole gives fits n (arguments h) = elim h [ ]
  keeps-Compound left op right clear target whole gives fits n (result h) = elim h [ ]
  keeps-Compound left op right clear target whole gives fits n (return h) = elim h [ ]
  keeps-Compound left op right clear target whole gives fits n (format h) = elim h [ ]
  keeps-Compound left op right clear target whole gives fits n (allocation h) = elim h [ ]
  keeps-Compound left op right clear target whole gives fits n (library h) = elim h [ ]
  keeps-Compound left op right clear target whole gives fits n (initialiser h) = elim h [ ]
  keeps-Compound left op right clear target whole gives fits n (misplaced h) = elim h [ ]
  keeps-Compound left op right clear target whole gives fits n (no_header (LacksHeader.in_expression {inner = part} h is)) = clash (clear part h).header is

  pub keeps-Returns : (e : RawExpr) → (clear : AreFaultless raw scope (Returns (Some e))) → (gives : (head : RawHead) → head_around raw scope ≡ Some head → head.result ≢ None) → (fits : (head : RawHead) → head_around raw scope ≡ Some head → (t : ExprType) → result_type raw head ≡ Some t → OfOperand e (λ x. is_assignable t x ≡ true)) → (n : ℕ) → Breaks raw scope (Returns (Some e)) n → ⊥
  keeps-Returns e clear gives fits n (undeclared (UsesUndeclared.in_expression {inner = part} h is)) = clash (clear part h).clean.declared is
  keeps-Returns e clear gives fits n (declared_again h) = elim h [ ]
  keeps-Returns e clear gives fits n (shadowing h) = elim h [ ]
  keeps-Returns e clear gives fits n (library_name h) = elim h [ ]
  keeps-Returns e clear gives fits n (main h) = elim h [ ]
  keeps-Returns e clear gives fits n (no_definition h) = elim h [ ]
  keeps-Returns e clear gives fits n (tag (MisusesTag.undefined {tag = w} c is)) = contains_nil w c
  keeps-Returns e clear gives fits n (tag (MisusesTag.in_expression {inner = part} h is)) = clash (clear part h).clean.complete is
  keeps-Returns e clear gives fits n (member (MisnamesMember.missing {inner = part} h is)) = clash (clear part h).clean.member is
  keeps-Returns e clear gives fits n (no_element (HasNoElement.too_short {n = k} c v z)) = contains_nil k c
  keeps-Returns e clear gives fits n (no_constant (LacksConstant.written_length {n = k} c v)) = contains_nil k c
  keeps-Returns e clear gives fits n (switch h) = elim h [ ]
  keeps-Returns e clear gives fits n (operator (MisusesOperator.in_expression {inner = part} h is)) = clash (clear part h).clean.operands is
  keeps-Returns e clear gives fits n (other_type h) = elim h [ ]
  keeps-Returns e clear gives fits n (no_place h) = elim h [ ]
  keeps-Returns e clear gives fits n (address (MisusesAddress.in_expression {inner = part} h is)) = clash (clear part h).clean.address is
  keeps-Returns e clear gives fits n (arguments h) = elim h [ ]
  keeps-Returns e clear gives fits n (result h) = elim h [ ]
  keeps-Returns e clear gives fits n (return (MisusesReturn.value_of_void {head} around is)) = gives head around is
  keeps-Returns e clear gives fits n (return (MisusesReturn.unfit {head} {t} {x} around of_type is isnt)) = clash isnt (fits head around t of_type x is)
  keeps-Returns e clear gives fits n (format h) = elim h [ ]
  keeps-Returns e clear gives fits n (allocation h) = elim h [ ]
  keeps-Returns e clear gives fits n (library h) = elim h [ ]
  keeps-Returns e clear gives fits n (initialiser h) = elim h [ ]
  keeps-Returns e clear gives fits n (misplaced h) = elim h [ ]
  keeps-Returns e clear gives fits n (no_header (LacksHeader.in_expression {inner = part} h is)) = clash (clear part h).header is

  pub keeps-Leaves : (clear : AreFaultless raw scope (Returns None)) → (gives : (head : RawHead) → head_around raw scope ≡ Some head → head.result ≡ None) → (n : ℕ) → Breaks raw scope (Returns None) n → ⊥
  keeps-Leaves clear gives n (undeclared (UsesUndeclared.in_expression {inner = part} h is)) = clash (clear part h).clean.declared is
  keeps-Leaves clear gives n (declared_again h) = elim h [ ]
  keeps-Leaves clear gives n (shadowing h) = elim h [ ]
  keeps-Leaves clear gives n (library_name h) = elim h [ ]
  keeps-Leaves clear gives n (main h) = elim h [ ]
  keeps-Leaves clear gives n (no_definition h) = elim h [ ]
  keeps-Leaves clear gives n (tag (MisusesTag.undefined {tag = w} c is)) = contains_nil w c
  keeps-Leaves clear gives n (tag (MisusesTag.in_expression {inner = part} h is)) = clash (clear part h).clean.complete is
  keeps-Leaves clear gives n (member (MisnamesMember.missing {inner = part} h is)) = clash (clear part h).clean.member is
  keeps-Leaves clear gives n (no_element (HasNoElement.too_short {n = k} c v z)) = contains_nil k c
  keeps-Leaves clear gives n (no_constant (LacksConstant.written_length {n = k} c v)) = contains_nil k c
  keeps-Leaves clear gives n (switch h) = elim h [ ]
  keeps-Leaves clear gives n (operator (MisusesOperator.in_expression {inner = part} h is)) = clash (clear part h).clean.operands is
  keeps-Leaves clear gives n (other_type h) = elim h [ ]
  keeps-Leaves clear gives n (no_place h) = elim h [ ]
  keeps-Leaves clear gives n (address (MisusesAddress.in_expression {inner = part} h is)) = clash (clear part h).clean.address is
  keeps-Leaves clear gives n (arguments h) = elim h [ ]
  keeps-Leaves clear gives n (result h) = elim h [ ]
  keeps-Leaves clear gives n (return (MisusesReturn.no_value {head} around isnt)) = isnt (gives head around)
  keeps-Leaves clear gives n (format h) = elim h [ ]
  keeps-Leaves clear gives n (allocation h) = elim h [ ]
  keeps-Leaves clear gives n (library h) = elim h [ ]
  keeps-Leaves clear gives n (initialiser h) = elim h [ ]
  keeps-Leaves clear gives n (misplaced h) = elim h [ ]
  keeps-Leaves clear gives n (no_header (LacksHeader.in_expression {inner = part} h is)) = clash (clear part h).header is
