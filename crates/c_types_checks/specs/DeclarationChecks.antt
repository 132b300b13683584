-- The checks of declarations: the numbers of the rules that they break, or none.
use Rattle.std.specs.Prelude.{is_some, is_none, ℤ, Bool, true, false, not, List, take, bytes_eq}
use Rattle.std.specs.List.{list_any}
use Rattle.c_tree.specs.declared.raw.expr.RawExpr.{RawExpr}
use Rattle.c_tree.specs.declared.raw.expr.RawType.{RawType}
use Rattle.c_tree.specs.declared.raw.expr.RawVar.{RawVar}
use Rattle.c_tree.specs.declared.raw.program.RawInit.{RawInit}
use Rattle.c_tree.specs.declared.raw.program.RawMember.{RawMember}
use Rattle.c_tree.specs.declared.raw.program.RawProgram.{RawProgram}
use Rattle.c_language.specs.Words.{Bytes}
use Rattle.c_language.specs.ConstantEvaluation.{value_of_constant}
use Rattle.c_language.specs.DeclaredTypes.{StructText, defined_structs, struct_id, written_type, variable_type, positive}
use Rattle.c_language.specs.Scopes.{Scope, meaning_in, meaning_here}
use Rattle.c_language.specs.ExprRules.{is_complete}
use Rattle.c_language.specs.Phrases.{Stand, InFile, InHead, InBlock, InArm, InFor}
use Rattle.c_language.specs.Uses.{lengths_in, tags_in, is_library_name, is_library_macro}
use Rattle.c_language.specs.declared.expr_type.ExprType.{ExprType}
use Rattle.c_types_checks.specs.Checking.{Verdict, kept, unless_broken, given_or, when_given, then_kept, all_kept, check_expr}

-- one of the struct types that are complete has the tag
abbrev pub is_complete_tag : RawProgram → Scope → Bytes → Bool
is_complete_tag raw scope tag = list_any (λ (s : StructText). bytes_eq s.tag tag) (take scope.structs (defined_structs raw))

abbrev pub stands_in_arm : Stand → Bool
stands_in_arm (InFile is_static) = false
stands_in_arm InHead = false
stands_in_arm InBlock = false
stands_in_arm InArm = true
stands_in_arm InFor = false

module _ (raw : RawProgram) (scope : Scope) where
  -- a tag that is named
  abbrev pub check_tag : Bytes → Verdict
  check_tag tag = unless_broken (is_some (struct_id raw tag)) 7 kept

  abbrev pub check_count : ℤ → Verdict
  check_count z = unless_broken (is_some (positive z)) 9 kept

  -- the length of an array
  abbrev pub check_length : RawExpr → Verdict
  check_length e = then_kept (check_expr raw scope e) (given_or 10 check_count (value_of_constant e))

  -- a type as it is written
  abbrev pub check_type : RawType → Verdict
  check_type t = then_kept (all_kept check_length (lengths_in t)) (all_kept check_tag (tags_in t))

  -- an object of the type is made
  abbrev pub check_complete : ExprType → Verdict
  check_complete t = unless_broken (is_complete scope t) 7 kept

  abbrev pub check_struct : Bytes → Verdict
  check_struct tag = unless_broken (not (is_complete_tag raw scope tag)) 7 (unless_broken (not (is_library_macro tag)) 4 kept)

  -- a member, behind others
  abbrev pub check_member : List RawMember → RawMember → Verdict
  check_member before m =
      then_kept (check_type m.shape) (then_kept (when_given check_complete (written_type raw m.shape))
      (unless_broken (not (list_any (λ (other : RawMember). bytes_eq other.name m.name) before)) 8 (unless_broken (not (is_library_macro m.name)) 4 kept)))

  -- the name of a variable that is declared
  abbrev pub check_fresh : Bytes → Verdict
  check_fresh name =
      unless_broken (is_none (meaning_here scope name)) 2
      (unless_broken (is_none (meaning_in scope name)) 3 (unless_broken (not (is_library_name name)) 4 kept))

  abbrev pub check_declared : Stand → RawVar → RawInit → Verdict
  check_declared stand var i =
      then_kept (check_type var.shape) (then_kept (check_fresh var.name)
      (then_kept (when_given check_complete (variable_type raw var i)) (unless_broken (not (stands_in_arm stand)) 23 kept)))
