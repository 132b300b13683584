-- The check of a declaration or a definition tells a rule exactly where it breaks one.
use Rattle.std.proofs.Common.{◌≡◌, ◌≢◌, ℕ, ℤ, List, [], length, Bool, true, false, Option, Some, None, refl, ap, subst, ◌∙◌, inl, inr}
use Rattle.std.specs.Prelude.{◌==◌, ◌||◌, not, is_some, is_none, Contains, take}
use Rattle.std.specs.List.{list_any}
use Rattle.std.proofs.lemmas.Bool.{not-true, not-false, or_parts, or_cases}
use Rattle.c_language.proofs.HeadLemmas.{gives_int_only, gives_int_own, ends_from, ends_told}
use Rattle.c_language.specs.HeadTests.{gives_int, ends_with_value}
use Rattle.c_tree.specs.declared.raw.expr.RawExpr.{RawExpr}
use Rattle.c_tree.specs.declared.raw.expr.RawType.{RawType}
use Rattle.c_tree.specs.declared.raw.expr.RawVar.{RawVar}
use Rattle.c_tree.specs.declared.raw.program.RawInit.{RawInit}
use Rattle.c_tree.specs.declared.raw.program.RawMember.{RawMember}
use Rattle.c_tree.specs.declared.raw.program.RawParam.{RawParam}
use Rattle.c_tree.specs.declared.raw.program.RawHead.{RawHead}
use Rattle.c_tree.specs.declared.raw.program.RawProgram.{RawProgram}
use Rattle.c_tree.specs.declared.raw.statement.RawStatement.{RawStatement}
use Rattle.c_language.specs.Words.{Bytes}
use Rattle.c_language.specs.ConstantEvaluation.{value_of_constant}
use Rattle.c_language.specs.DeclaredTypes.{defined_structs, defined_functions, struct_id, definition_of, written_type, variable_type, positive}
use Rattle.c_language.specs.Scopes.{Scope, Meaning, meaning_in, meaning_here}
use Rattle.c_language.specs.ExprRules.{is_complete}
use Rattle.c_language.specs.Phrases.{Stand, InFile, InHead, InBlock, InArm, InFor, Part, NamesStruct, DefinesStruct, HasMember, DeclaresFunction, Takes, EndsFunction, Declares}
use Rattle.c_language.specs.Uses.{tags, lengths_of, expressions, tags_in, lengths_in, tags_if, is_library_name, is_library_macro}
use Rattle.c_language.specs.Rules.{Breaks, declared_again, shadowing, library_name, main, no_definition, tag, member, no_element, no_constant, return, misplaced}
use Rattle.c_language.specs.NameRules.{main_name, is_main, IsDefinedBefore, same_signature, DeclaresAgain, Shadows, DeclaresLibraryName, MisusesMain, LacksDefinition}
use Rattle.c_language.specs.StructRules.{MisusesTag, MisnamesMember}
use Rattle.c_language.specs.ArrayRules.{HasNoElement, LacksConstant}
use Rattle.c_language.specs.CallRules.{MisusesReturn}
use Rattle.c_language.specs.SwitchRules.{MisplacesDeclaration}
use Rattle.c_language.specs.declared.expr_type.ExprType.{ExprType}
use Rattle.c_language.proofs.Lists.{contains_nil, contains_cons, contains_first, same_bytes}
use Rattle.c_types_checks.specs.Checking.{kept, when_given, all_kept, check_expr}
use Rattle.c_types_checks.specs.DeclarationChecks.{is_complete_tag, stands_in_arm, check_tag, check_count, check_length, check_type, check_complete, check_struct, check_member, check_fresh, check_declared}
use Rattle.c_types_checks.specs.HeadChecks.{is_defined_before, is_variable, check_head, check_prototype, check_main, check_definition, check_taken, check_parameter, check_end}
use Rattle.c_types_base.specs.Listing.{has_name}
use Rattle.c_types_base.proofs.JudgingLaws.{Keeps}
use Rattle.c_types_base.proofs.PhraseLemmas.{clash, AreFaultless, are_faultless}
use Rattle.c_types_checks.proofs.KeptDeclarations.{keeps-NamesStruct, keeps-DefinesStruct, keeps-HasMember, keeps-Prototype, keeps-Definition, keeps-Takes, keeps-EndsFunction, keeps-Declares}
use Rattle.c_types_checks.proofs.TestLemmas.{same_some, none_some, is_something, is_nothing_too, is_something_too, any_passes, none_passes, other_names, has_name_is, has_name_own, is_empty, is_no_empty}
use Rattle.c_types_base.proofs.TypedLaws.{IsTyped}
use Rattle.c_types_checks.proofs.Findings.{Finds, IsTrue, by_test, by_given, by_option, by_both, by_facts, by_if, by_all, by_judged}
use Rattle.c_types_base.proofs.ListingLaws.{gone}

variable_is : (m : Option Meaning) → is_variable m ≡ true → (id : ℕ) × (t : Option ExprType) × (m ≡ Some (Meaning.Variable id t))
variable_is None h = clash refl h
variable_is (Some Meaning.Function) h = clash refl h
variable_is (Some (Meaning.Variable id t)) h = (id, t, refl)

-- a phrase without expressions breaks no rule on them
pub are_none : (raw : RawProgram) (scope : Scope) (part : Part) → expressions part ≡ [] → AreFaultless raw scope part
are_none raw scope part none =
    are_faultless raw scope part (λ e c. absurd (contains_nil e (subst (λ (es : List RawExpr). Contains es e) none c)))

-- a length is a constant of at least 1
pub record LengthIsRight (raw : RawProgram) (scope : Scope) (m : RawExpr) : Type 0 where
  pub keeps : Keeps raw scope m
  pub constant : value_of_constant m ≢ None
  pub at_least_one : (z : ℤ) → value_of_constant m ≡ Some z → positive z ≢ None

pub record TypeIsRight (raw : RawProgram) (scope : Scope) (t : RawType) : Type 0 where
  pub named : (w : Bytes) → Contains (tags_in t) w → struct_id raw w ≢ None
  pub lengths : (m : RawExpr) → Contains (lengths_in t) m → LengthIsRight raw scope m

pub record HeadIsRight (raw : RawProgram) (scope : Scope) (head : RawHead) : Type 0 where
  pub named : (w : Bytes) → Contains (tags_if head.result) w → struct_id raw w ≢ None
  pub other : (id : ℕ) (t : Option ExprType) → meaning_here scope head.name ≢ Some (Meaning.Variable id t)
  pub allowed : is_library_name head.name ≡ false

pub record IsFresh (scope : Scope) (name : Bytes) : Type 0 where
  pub here : meaning_here scope name ≡ None
  pub there : meaning_in scope name ≡ None
  pub allowed : is_library_name name ≡ false

module _ (raw : RawProgram) (scope : Scope) where
  pub tags_true : (part : Part) (ws : List Bytes) → ((w : Bytes) → Contains ws w → Contains (tags part) w)
      → Finds (Breaks raw scope part) ((w : Bytes) → Contains ws w → struct_id raw w ≢ None) (all_kept (check_tag raw scope) ws)
  tags_true part ws within =
      by_all (Breaks raw scope part) (λ w. struct_id raw w ≢ None) (check_tag raw scope) ws (λ w c.
      by_test (Breaks raw scope part) _ (is_some (struct_id raw w)) 7 kept
      (λ isnt. tag (MisusesTag.undefined (within w c) (gone (struct_id raw w) isnt))) (λ is. is_something (struct_id raw w) is))

  pub names_struct_true : (w : Bytes) → IsTrue raw scope (NamesStruct w) (check_tag raw scope w)
  names_struct_true w =
      by_test (Breaks raw scope (NamesStruct w)) _ (is_some (struct_id raw w)) 7 kept
      (λ isnt. tag (MisusesTag.undefined {tag = w} (contains_first w []) (gone (struct_id raw w) isnt))) (λ is.
      keeps-NamesStruct raw scope w (are_none raw scope (NamesStruct w) refl) (λ v c. elim (contains_cons w v [] c) [
        | inl same ↦ subst (λ (u : Bytes). struct_id raw u ≢ None) same (is_something (struct_id raw w) is)
        | inr c ↦ absurd (contains_nil v c)
      ]))

  pub defines_struct_true : (w : Bytes) → IsTrue raw scope (DefinesStruct w) (check_struct raw scope w)
  defines_struct_true w =
      by_test (Breaks raw scope (DefinesStruct w)) _ (not (is_complete_tag raw scope w)) 7 _
      (λ isnt.
      let found = any_passes _ (take scope.structs (defined_structs raw)) (not-false _ isnt) in
      tag (MisusesTag.again found.1 (same_bytes found.0.tag w found.2))) (λ is.
      by_test (Breaks raw scope (DefinesStruct w)) _ (not (is_library_macro w)) 4 kept (λ isnt. library_name (DeclaresLibraryName.tag (not-false _ isnt))) (λ allowed.
      keeps-DefinesStruct raw scope w (are_none raw scope (DefinesStruct w) refl) (λ s c. other_names s.tag w (none_passes _ _ (not-true _ is) s c)) (not-true _ allowed)))

  head_true : (head : RawHead) (is_definition : Bool)
      → Finds (Breaks raw scope (DeclaresFunction head is_definition)) (HeadIsRight raw scope head) (check_head raw scope head)
  head_true head is_definition =
      let B = Breaks raw scope (DeclaresFunction head is_definition) in
      by_both B ((w : Bytes) → Contains (tags_if head.result) w → struct_id raw w ≢ None) (HeadIsRight raw scope head) _ _
      (tags_true (DeclaresFunction head is_definition) (tags_if head.result) (λ w c. c)) (λ named.
      by_test B (HeadIsRight raw scope head) (not (is_variable (meaning_here scope head.name))) 2 _
      (λ isnt. let is = variable_is (meaning_here scope head.name) (not-false _ isnt) in declared_again (DeclaresAgain.function is.2)) (λ other.
      by_test B (HeadIsRight raw scope head) (not (is_library_name head.name)) 4 kept (λ isnt. library_name (DeclaresLibraryName.function (not-false _ isnt))) (λ allowed.
      record {
        named = named;
        other = λ id t is. clash {b = is_variable (meaning_here scope head.name)} (not-true _ other) (ap is_variable is);
        allowed = not-true _ allowed;
      })))

  pub prototype_true : (head : RawHead) → IsTrue raw scope (DeclaresFunction head false) (check_prototype raw scope head)
  prototype_true head =
      let B = Breaks raw scope (DeclaresFunction head false) in
      by_both B (HeadIsRight raw scope head) _ _ _ (head_true head false) (λ right.
      by_test B _ (not (is_main head.name)) 5 _ (λ isnt. main (MisusesMain.prototype (same_bytes head.name main_name (not-false _ isnt)))) (λ other.
      by_given B _ 6 _ (definition_of raw head.name) (λ none. no_definition (LacksDefinition.prototype none)) (λ f defined.
      by_test B _ (same_signature raw head f) 6 kept (λ isnt. no_definition (LacksDefinition.differs defined isnt)) (λ same.
      keeps-Prototype raw scope head (are_none raw scope (DeclaresFunction head false) refl) right.named right.other right.allowed
      (other_names head.name main_name (not-true _ other)) (λ none. none_some none defined)
      (λ g also. subst (λ (h : RawHead). same_signature raw head h ≡ true) (same_some defined also) same)))))

  pub definition_true : (head : RawHead) → IsTrue raw scope (DeclaresFunction head true) (check_definition raw scope head)
  definition_true head =
      let B = Breaks raw scope (DeclaresFunction head true) in
      by_both B (HeadIsRight raw scope head) _ _ _ (head_true head true) (λ right.
      by_test B _ (not (is_defined_before raw scope head.name)) 2 _
      (λ isnt.
      let found = any_passes _ (take scope.functions (defined_functions raw)) (not-false _ isnt) in
      declared_again (DeclaresAgain.definition (found.0, found.1, same_bytes found.0.name head.name found.2))) (λ fresh.
      let first = λ (b : IsDefinedBefore raw scope head.name). other_names b.0.name head.name (none_passes _ _ (not-true _ fresh) b.0 b.1) b.2 in
      let clean = are_none raw scope (DeclaresFunction head true) refl in
      by_if B _ (is_main head.name) (check_main raw scope head) kept (λ is.
      let same = same_bytes head.name main_name is in
      by_test B _ (gives_int head.result) 5 _
      (λ isnt. main (MisusesMain.no_int same (λ e. clash {b = gives_int head.result} isnt (ap gives_int e ∙ gives_int_own)))) (λ an_int.
      by_test B _ (length head.params == 0) 5 kept (λ isnt. main (MisusesMain.parameters same (is_no_empty head.params isnt))) (λ alone.
      keeps-Definition raw scope head clean right.named right.other first right.allowed (λ e. gives_int_only head.result an_int) (λ e. is_empty head.params alone)))) (λ isnt.
      let other = other_names head.name main_name isnt in
      keeps-Definition raw scope head clean right.named right.other first right.allowed (λ e. absurd (other e)) (λ e. absurd (other e)))))

  pub end_true : (head : RawHead) (body : List RawStatement) → IsTrue raw scope (EndsFunction head body) (check_end raw scope head body)
  end_true head body =
      by_test (Breaks raw scope (EndsFunction head body)) _ (is_main head.name || (is_none head.result || ends_with_value body)) 18 kept
      (λ isnt.
      let parts = or_parts (is_main head.name) _ isnt in
      let others = or_parts (is_none head.result) _ parts.1 in
      return (MisusesReturn.lacking (other_names head.name main_name parts.0) (is_something_too head.result others.0) (λ ends. clash {b = ends_with_value body} others.1 (ends_told ends)))) (λ is.
      keeps-EndsFunction raw scope head body (are_none raw scope (EndsFunction head body) refl) (λ other some. elim (or_cases (is_main head.name) _ is) [
        | inl entry ↦ absurd (other (same_bytes head.name main_name entry))
        | inr rest ↦ elim (or_cases (is_none head.result) _ rest) [
          | inl void ↦ absurd (some (is_nothing_too head.result void))
          | inr ends ↦ ends_from body ends
        ]
      ]))

  taken_true : (before : List RawParam) (p : RawParam) → ((w : Bytes) → Contains (tags_in p.shape) w → struct_id raw w ≢ None)
      → IsTrue raw scope (Takes before p) (when_given (check_taken raw scope before) p.name)
  taken_true before p named =
      let B = Breaks raw scope (Takes before p) in
      let clean = are_none raw scope (Takes before p) refl in
      by_option B _ (check_taken raw scope before) p.name
      (λ none. keeps-Takes raw scope before p clean named (λ q w c also is. none_some none is) (λ w is. none_some none is)) (λ name is.
      by_test B _ (not (list_any (λ (q : RawParam). has_name name q.name) before)) 2 _
      (λ isnt.
      let found = any_passes (λ (q : RawParam). has_name name q.name) before (not-false _ isnt) in
      declared_again (DeclaresAgain.parameter found.1 (has_name_is name found.0.name found.2) is)) (λ fresh.
      by_test B _ (not (is_library_name name)) 4 kept (λ isnt. library_name (DeclaresLibraryName.parameter is (not-false _ isnt))) (λ allowed.
      keeps-Takes raw scope before p clean named
      (λ q w c also same. clash {b = has_name name q.name} (none_passes (λ (r : RawParam). has_name name r.name) before (not-true _ fresh) q c)
      (ap (has_name name) (also ∙ ap (λ (v : Bytes). Some v) (same_some same is)) ∙ has_name_own name))
      (λ w same. subst (λ (v : Bytes). is_library_name v ≡ false) (same_some is same) (not-true _ allowed)))))

  pub parameter_true : (before : List RawParam) (p : RawParam) → IsTrue raw scope (Takes before p) (check_parameter raw scope before p)
  parameter_true before p =
      by_both (Breaks raw scope (Takes before p)) _ _ _ _ (tags_true (Takes before p) (tags_in p.shape) (λ w c. c)) (λ named. taken_true before p named)

-- phrases where all that is in scope has a type
module _ (raw : RawProgram) (scope : Scope) (typed : IsTyped raw scope) where
  length_true : (part : Part) (m : RawExpr) → Contains (lengths_of part) m → Contains (expressions part) m
      → Finds (Breaks raw scope part) (LengthIsRight raw scope m) (check_length raw scope m)
  length_true part m c inside =
      let B = Breaks raw scope part in
      by_both B (Keeps raw scope m) _ (check_expr raw scope m) _ (by_judged raw scope part typed (Keeps raw scope m) m (λ x. kept) inside (λ x is keeps. keeps)) (λ keeps.
      by_given B _ 10 (check_count raw scope) (value_of_constant m) (λ none. no_constant (LacksConstant.written_length c none)) (λ z is.
      by_test B _ (is_some (positive z)) 9 kept (λ isnt. no_element (HasNoElement.too_short c is (gone (positive z) isnt))) (λ some.
      record {
        keeps = keeps;
        constant = λ none. none_some none is;
        at_least_one = λ y also. subst (λ (x : ℤ). positive x ≢ None) (same_some is also) (is_something (positive z) some);
      })))

  pub type_true : (part : Part) (t : RawType) → ((w : Bytes) → Contains (tags_in t) w → Contains (tags part) w)
      → ((m : RawExpr) → Contains (lengths_in t) m → Contains (lengths_of part) m) → ((m : RawExpr) → Contains (lengths_in t) m → Contains (expressions part) m)
      → Finds (Breaks raw scope part) (TypeIsRight raw scope t) (check_type raw scope t)
  type_true part t named long inside =
      let B = Breaks raw scope part in
      by_both B ((m : RawExpr) → Contains (lengths_in t) m → LengthIsRight raw scope m) _ _ _
      (by_all B (LengthIsRight raw scope) (check_length raw scope) (lengths_in t) (λ m c. length_true part m (long m c) (inside m c))) (λ lengths.
      by_facts B ((w : Bytes) → Contains (tags_in t) w → struct_id raw w ≢ None) _ _ (λ named. record { named = named; lengths = lengths })
      (tags_true raw scope part (tags_in t) named))

  complete_true : (part : Part) (t : Option ExprType) → ((u : ExprType) → t ≡ Some u → is_complete scope u ≡ false → Breaks raw scope part 7)
      → Finds (Breaks raw scope part) ((u : ExprType) → t ≡ Some u → is_complete scope u ≡ true) (when_given (check_complete raw scope) t)
  complete_true part t breaks =
      by_option (Breaks raw scope part) _ (check_complete raw scope) t (λ none u is. none_some none is) (λ u is.
      by_test (Breaks raw scope part) _ (is_complete scope u) 7 kept (λ isnt. breaks u is isnt) (λ whole v also.
      subst (λ (w : ExprType). is_complete scope w ≡ true) (same_some is also) whole))

  pub member_true : (before : List RawMember) (m : RawMember) → IsTrue raw scope (HasMember before m) (check_member raw scope before m)
  member_true before m =
      let B = Breaks raw scope (HasMember before m) in
      by_both B (TypeIsRight raw scope m.shape) _ _ _ (type_true (HasMember before m) m.shape (λ w c. c) (λ e c. c) (λ e c. c)) (λ right.
      by_both B _ _ _ _ (complete_true (HasMember before m) (written_type raw m.shape) (λ u is isnt. tag (MisusesTag.member is isnt))) (λ complete.
      by_test B _ (not (list_any _ before)) 8 _
      (λ isnt. let found = any_passes _ before (not-false _ isnt) in member (MisnamesMember.again found.1 (same_bytes found.0.name m.name found.2))) (λ fresh.
      by_test B _ (not (is_library_macro m.name)) 4 kept (λ isnt. library_name (DeclaresLibraryName.member (not-false _ isnt))) (λ allowed.
      keeps-HasMember raw scope before m (are_faultless raw scope (HasMember before m) (λ e c. (right.lengths e c).keeps)) right.named
      (λ e c. (right.lengths e c).constant) (λ e z c. (right.lengths e c).at_least_one z) complete
      (λ other c. other_names other.name m.name (none_passes _ before (not-true _ fresh) other c)) (not-true _ allowed)))))

  fresh_true : (stand : Stand) (var : RawVar) (i : RawInit)
      → Finds (Breaks raw scope (Declares stand var i)) (IsFresh scope var.name) (check_fresh raw scope var.name)
  fresh_true stand var i =
      let B = Breaks raw scope (Declares stand var i) in
      by_test B _ (is_none (meaning_here scope var.name)) 2 _ (λ isnt. declared_again (DeclaresAgain.variable (is_something_too _ isnt))) (λ here.
      by_test B _ (is_none (meaning_in scope var.name)) 3 _ (λ isnt. shadowing (Shadows.variable (is_something_too _ isnt))) (λ there.
      by_test B _ (not (is_library_name var.name)) 4 kept (λ isnt. library_name (DeclaresLibraryName.variable (not-false _ isnt))) (λ allowed.
      record { here = is_nothing_too _ here; there = is_nothing_too _ there; allowed = not-true _ allowed })))

  in_arm : (stand : Stand) (var : RawVar) (i : RawInit) → stands_in_arm stand ≡ true → Breaks raw scope (Declares stand var i) 23
  in_arm InArm var i h = misplaced MisplacesDeclaration.in_arm
  in_arm (InFile is_static) var i h = clash refl h
  in_arm InHead var i h = clash refl h
  in_arm InBlock var i h = clash refl h
  in_arm InFor var i h = clash refl h

  pub declared_true : (stand : Stand) (var : RawVar) (i : RawInit) → IsTrue raw scope (Declares stand var i) (check_declared raw scope stand var i)
  declared_true stand var i =
      let B = Breaks raw scope (Declares stand var i) in
      by_both B (TypeIsRight raw scope var.shape) _ _ _ (type_true (Declares stand var i) var.shape (λ w c. c) (λ e c. c) (λ e c. c)) (λ right.
      by_both B (IsFresh scope var.name) _ _ _ (fresh_true stand var i) (λ fresh.
      by_both B _ _ _ _ (complete_true (Declares stand var i) (variable_type raw var i) (λ u is isnt. tag (MisusesTag.object is isnt))) (λ complete.
      by_test B _ (not (stands_in_arm stand)) 23 kept (λ isnt. in_arm stand var i (not-false _ isnt)) (λ placed.
      keeps-Declares raw scope stand var i (are_faultless raw scope (Declares stand var i) (λ e c. (right.lengths e c).keeps)) right.named
      (λ e c. (right.lengths e c).constant) (λ e z c. (right.lengths e c).at_least_one z) fresh.there fresh.here fresh.allowed complete
      (λ e. clash {b = stands_in_arm stand} (not-true _ placed) (ap stands_in_arm e))))))
