-- Members, parameters and items, as steps of the walk.
use Rattle.std.proofs.Common.{◌≡◌, ℕ, ◌+◌, List, [], ◌∷◌, ◌++◌, length, take, Bool, true, false, Some, None, is_some, Result, Ok, Err, refl, sym, ap, subst, ◌∙◌, append-nil}
use Rattle.std.proofs.lemmas.Bool.{not-true}
use Rattle.std.specs.Prelude.{vec_len}
use Rattle.std.specs.List.{list_any}
use Rattle.std.specs.Result.{IsErrAnd}
use Rattle.c_tree.specs.declared.raw.program.RawHead.{RawHead}
use Rattle.c_tree.specs.declared.raw.program.RawItem.{RawItem}
use Rattle.c_tree.specs.declared.raw.program.RawItem.TheVariants.{Struct, Prototype, Define}
use Rattle.c_tree.specs.declared.raw.program.RawMember.{RawMember}
use Rattle.c_tree.specs.declared.raw.program.RawParam.{RawParam}
use Rattle.c_tree.specs.declared.raw.program.RawProgram.{RawProgram}
use Rattle.c_tree.specs.declared.raw.statement.RawStatement.{RawStatement}
use Rattle.c_language.specs.Words.{Bytes}
use Rattle.c_language.specs.DeclaredTypes.{written_type}
use Rattle.c_language.specs.Phrases.{DefinesStruct, DeclaresFunction, EndsFunction, Phrases, member_phrases, taken_phrases, item_phrases, after_item}
use Rattle.c_language.specs.Scopes.{Scope, closed, with_function}
use Rattle.c_language.proofs.Options.{some_same}
use Rattle.c_language.proofs.PhraseLists.{kept_joined}
use Rattle.c_types_base.specs.Names.{listed_type}
use Rattle.c_types_base.specs.Numbering.{Numbers, number_in}
use Rattle.c_types_base.specs.Tables.{scope_of, AreRight, IsAt}
use Rattle.c_types_base.specs.declared.fault.Fault.{Fault}
use Rattle.c_types_base.specs.declared.names.StructMembers.{StructMembers}
use Rattle.c_types_base.specs.declared.numbering.Numbering.{Numbering}
use Rattle.c_types_base.specs.declared.tables.Before.{Before}
use Rattle.c_types_base.specs.declared.tables.Tables.{Tables}
use Rattle.c_types_base.proofs.ScopeLaws.{Extends}
use Rattle.c_types_base.proofs.TableLaws.{tables_typed}
use Rattle.c_types_checks.specs.Checking.{Decides, kept, when_given}
use Rattle.c_types_checks.specs.DeclarationChecks.{check_type, check_complete, check_member, check_struct}
use Rattle.c_types_checks.specs.HeadChecks.{check_prototype, check_definition, check_end}
use Rattle.c_types_base.specs.Listing.{has_name, HasMembers, name_before, names_given, IsGiven}
use Rattle.c_types_base.specs.Stretches.{Stretch, of_function, inside_function, of_item}
use Rattle.c_types_rules.specs.Walks.{Tells, AnswersOf, Walks, on_line}
use Rattle.c_types_rules.specs.declared.walk_fault.WalkFault.{WalkFault}
use Rattle.c_types_rules.proofs.Checked.{check_answers, walks_phrase}
use Rattle.c_types_base.proofs.ListingLaws.{gone, named_before, given_push, all_given}
use Rattle.c_types_base.proofs.TextSteps.{of_inside, inside_grows, inside, begin_phrase, end_phrase, define_phrases, define_after}
use Rattle.c_types_base.proofs.Stretching.{one_phrase}
use Rattle.c_types_checks.proofs.DeclaredLaws.{second_kept, test_passed}
use Rattle.c_types_rules.proofs.WalkSteps.{Outcome, two, first_stops, told_before, told_behind, cut}
use Rattle.c_language.specs.Rules.{AreKept}

-- what holds of a fault holds of any answer that passes it on
pub passes_fault : {A : Type 0} (P : Result A WalkFault → Type 0) (e : WalkFault) (r : Result A WalkFault) → IsErrAnd r (λ y. y ≡ e) → P (Err e) → P r
passes_fault P e (Ok x) h k = absurd h
passes_fault P e (Err y) h k = subst (λ (f : WalkFault). P (Err f)) (sym h) k

pub given_is : (before : List RawParam) (p : RawParam) (names : Numbering) (own : Bytes) (b : Bool) → Numbers (names_given before) names → p.name ≡ Some own → b ≡ is_some (number_in names own)
    → IsGiven before p b
given_is before p names own b numbers has is = λ name same.
    let e : own ≡ name = some_same (sym has ∙ same) in
    is ∙ ap is_some (numbers.numbered own) ∙ all_given before own ∙ ap (λ w. list_any (λ (q : RawParam). has_name w q.name) before) e

pub gives_none : (before : List RawParam) (p : RawParam) (names : Numbering) → p.name ≡ None → Numbers (names_given before) names → Numbers (names_given (before ++ p ∷ [])) names
gives_none before p names none numbers =
    subst (λ ws. Numbers ws names) (sym (given_push before p ∙ ap (λ o. names_given before ++ name_before o []) none ∙ append-nil (names_given before))) numbers

pub gives_name : (before : List RawParam) (p : RawParam) (old new : Numbering) (name given : Bytes) → p.name ≡ Some name → given ≡ name
    → ((ws : List Bytes) → Numbers ws old → Numbers (ws ++ given ∷ []) new) → Numbers (names_given before) old → Numbers (names_given (before ++ p ∷ [])) new
gives_name before p old new name given has same adds numbers =
    subst (λ ws. Numbers ws new) (ap (λ w. names_given before ++ w ∷ []) same ∙ sym (given_push before p ∙ ap (λ o. names_given before ++ name_before o []) has)) (adds (names_given before) numbers)

-- a struct type
abbrev of_listed : List RawMember → Stretch
of_listed ms raw = record { gives = λ (scope : Scope). member_phrases scope [] ms; after = λ (scope : Scope). record scope { structs = scope.structs + 1 } }

module _ (t : Tables) (right : AreRight t) (line : ℕ) (tag : Bytes) (ms : List RawMember) (d : Result (Unit {0}) Fault) (h : Decides (check_struct t.raw.now (scope_of t) tag) d) where
  pub struct_stops : (new : Tables) (e : WalkFault) → Err e ≡ on_line line d → Walks (of_item (Struct line tag ms)) t new (Err e)
  struct_stops new e is = first_stops (one_phrase line (DefinesStruct tag)) (of_listed ms) t new e (walks_phrase t right line (DefinesStruct tag) d h (Err e) is)

  module _ (is : Ok tt ≡ on_line line d) where
    pub struct_walks : (new : Tables) → AreKept t.raw.now (member_phrases (scope_of t) [] ms) → IsAt t new (record (scope_of t) { structs = vec_len t.structs + 1 }) → Walks (of_item (Struct line tag ms)) t new (Ok tt)
    struct_walks new k at = two (one_phrase line (DefinesStruct tag)) (of_listed ms) t t new (Ok tt) (walks_phrase t right line (DefinesStruct tag) d h (Ok tt) is) (k, at)

    pub members_stop : (new : Tables) (e : WalkFault) → Tells t.raw.now (member_phrases (scope_of t) [] ms) e → Walks (of_item (Struct line tag ms)) t new (Err e)
    members_stop new e told = two (one_phrase line (DefinesStruct tag)) (of_listed ms) t t new (Err e) (walks_phrase t right line (DefinesStruct tag) d h (Ok tt) is) told

-- a prototype
abbrev of_signature : RawHead → Stretch
of_signature head raw = record { gives = λ (scope : Scope). taken_phrases scope [] head.params; after = with_function head.name }

module _ (t : Tables) (right : AreRight t) (line : ℕ) (head : RawHead) (d : Result (Unit {0}) Fault) (h : Decides (check_prototype t.raw.now (scope_of t) head) d) where
  pub prototype_stops : (new : Tables) (e : WalkFault) → Err e ≡ on_line line d → Walks (of_item (Prototype line head)) t new (Err e)
  prototype_stops new e is = first_stops (one_phrase line (DeclaresFunction head false)) (of_signature head) t new e (walks_phrase t right line (DeclaresFunction head false) d h (Err e) is)

  module _ (is : Ok tt ≡ on_line line d) where
    pub signature_stops : (new : Tables) (e : WalkFault) (ps : List RawParam) → ps ≡ head.params → Tells t.raw.now (taken_phrases (scope_of t) [] ps) e → Walks (of_item (Prototype line head)) t new (Err e)
    signature_stops new e ps same told =
        two (one_phrase line (DeclaresFunction head false)) (of_signature head) t t new (Err e) (walks_phrase t right line (DeclaresFunction head false) d h (Ok tt) is)
        (subst (λ qs. Tells t.raw.now (taken_phrases (scope_of t) [] qs) e) same told)

    pub prototype_walks : (new : Tables) (ps : List RawParam) (name : Bytes) → ps ≡ head.params → name ≡ head.name → AreKept t.raw.now (taken_phrases (scope_of t) [] ps)
        → IsAt t new (with_function name (scope_of t)) → Walks (of_item (Prototype line head)) t new (Ok tt)
    prototype_walks new ps name same also k at =
        two (one_phrase line (DeclaresFunction head false)) (of_signature head) t t new (Ok tt) (walks_phrase t right line (DeclaresFunction head false) d h (Ok tt) is)
        (subst (λ qs. AreKept t.raw.now (taken_phrases (scope_of t) [] qs)) same k, subst (λ w. IsAt t new (with_function w (scope_of t))) also at)

-- the parameters and the body of a function
module _ (head : RawHead) (body : List RawStatement) (old opens : Tables) (enters : IsAt old opens (inside_function (scope_of old))) where
  pub function_stops : (new : Tables) (e : WalkFault) → Walks (of_inside head body) opens new (Err e) → Walks (of_function head body) old new (Err e)
  function_stops new e h =
      subst (λ (r : RawProgram). Tells r ((of_inside head body r).gives (inside_function (scope_of old))) e) enters.text
      (subst (λ (x : Scope). Tells opens.raw.now ((of_inside head body opens.raw.now).gives x) e) enters.scope_is h)

  pub function_walks : (inside closes : Tables) (b : Before) → b.names ≡ length (scope_of old).names → b.outer ≡ (scope_of old).outer → b.owner ≡ (scope_of old).owner
      → Walks (of_inside head body) opens inside (Ok tt)
      → IsAt inside closes (record (scope_of inside) { names = take b.names (scope_of inside).names; outer = b.outer; owner = b.owner })
      → Walks (of_function head body) old closes (Ok tt)
  function_walks inside closes b names outer owner (kept, within) closing =
      let w = of_inside head body in
      let raw = old.raw.now in
      let begun = inside_function (scope_of old) in
      let at : scope_of inside ≡ (w raw).after begun = within.scope_is ∙ ap (w opens.raw.now).after enters.scope_is ∙ ap (λ (r : RawProgram). (w r).after begun) enters.text in
      let cuts : record (scope_of inside) { names = take b.names (scope_of inside).names; outer = b.outer; owner = b.owner } ≡ closed (scope_of old) (scope_of inside) = cut (scope_of old) begun (scope_of inside) b (subst (Extends begun) (sym at) (inside_grows raw head body begun)) refl names outer owner in (
        subst (λ (r : RawProgram). AreKept r ((w r).gives begun)) enters.text (subst (λ (x : Scope). AreKept opens.raw.now ((w opens.raw.now).gives x)) enters.scope_is kept),
        record {
          scope_is = closing.scope_is ∙ cuts ∙ ap (closed (scope_of old)) at;
          text = closing.text ∙ within.text ∙ enters.text;
          right = λ r. closing.right (within.right (enters.right r));
        },
      )

-- the definition of a function
module _ (t : Tables) (right : AreRight t) (line : ℕ) (head : RawHead) (body : List RawStatement) where
  abbrev whole : Phrases
  whole = item_phrases t.raw.now (Define line head body) (scope_of t)

  abbrev parts : Phrases
  parts = begin_phrase t.raw.now line head body (scope_of t) ++ (inside t.raw.now line head body (scope_of t) ++ end_phrase t.raw.now line head body (scope_of t))

  tells_whole : (e : WalkFault) → Tells t.raw.now parts e → Tells t.raw.now whole e
  tells_whole e k = subst (λ ps. Tells t.raw.now ps e) (define_phrases t.raw.now line head body (scope_of t)) k

  module _ (d : Result (Unit {0}) Fault) (h : Decides (check_definition t.raw.now (scope_of t) head) d) where
    first : (r : Outcome) → r ≡ on_line line d → AnswersOf t.raw.now (begin_phrase t.raw.now line head body (scope_of t)) r
    first r is = check_answers t.raw.now (scope_of t) (tables_typed t right) line (DeclaresFunction head true) d r h is

    pub define_stops : (new : Tables) (e : WalkFault) → Err e ≡ on_line line d → Walks (of_item (Define line head body)) t new (Err e)
    define_stops new e is = tells_whole e (told_before t.raw.now e (begin_phrase t.raw.now line head body (scope_of t)) _ (first (Err e) is))

    module _ (is : Ok tt ≡ on_line line d) (mid : Tables) (name : Bytes) (same : name ≡ head.name) (at : IsAt t mid (with_function name (scope_of t))) where
      at_declared : scope_of mid ≡ with_function head.name (scope_of t)
      at_declared = at.scope_is ∙ ap (λ w. with_function w (scope_of t)) same

      tells_inside : (e : WalkFault) → Tells mid.raw.now ((of_function head body mid.raw.now).gives (scope_of mid)) e → Tells t.raw.now (inside t.raw.now line head body (scope_of t)) e
      tells_inside e k =
          subst (λ (x : Scope). Tells t.raw.now ((of_function head body t.raw.now).gives x) e) at_declared
          (subst (λ (r : RawProgram). Tells r ((of_function head body r).gives (scope_of mid)) e) at.text k)

      pub inside_stops : (new : Tables) (e : WalkFault) → Walks (of_function head body) mid new (Err e) → Walks (of_item (Define line head body)) t new (Err e)
      inside_stops new e k =
          tells_whole e (told_behind t.raw.now e (begin_phrase t.raw.now line head body (scope_of t)) _ (first (Ok tt) is)
          (told_before t.raw.now e (inside t.raw.now line head body (scope_of t)) (end_phrase t.raw.now line head body (scope_of t)) (tells_inside e k)))

      kept_inside : AreKept mid.raw.now ((of_function head body mid.raw.now).gives (scope_of mid)) → AreKept t.raw.now (inside t.raw.now line head body (scope_of t))
      kept_inside k =
          subst (λ (x : Scope). AreKept t.raw.now ((of_function head body t.raw.now).gives x)) at_declared
          (subst (λ (r : RawProgram). AreKept r ((of_function head body r).gives (scope_of mid))) at.text k)

      module _ (new : Tables) (k : Walks (of_function head body) mid new (Ok tt)) (f : Result (Unit {0}) Fault) (g : Decides (check_end t.raw.now (scope_of t) head body) f) where
        last : (r : Outcome) → r ≡ on_line line f → AnswersOf t.raw.now (end_phrase t.raw.now line head body (scope_of t)) r
        last r ends_so = check_answers t.raw.now (scope_of t) (tables_typed t right) line (EndsFunction head body) f r g ends_so

        after_all_of : scope_of new ≡ after_item t.raw.now (Define line head body) (scope_of t)
        after_all_of =
            k.1.scope_is ∙ ap (of_function head body mid.raw.now).after at_declared
            ∙ ap (λ (r : RawProgram). (of_function head body r).after (with_function head.name (scope_of t))) at.text
            ∙ define_after t.raw.now line head body (scope_of t)

        finish : (r : Outcome) → AnswersOf t.raw.now (end_phrase t.raw.now line head body (scope_of t)) r → Walks (of_item (Define line head body)) t new r
        finish (Ok x) e = (
          subst (AreKept t.raw.now) (define_phrases t.raw.now line head body (scope_of t))
              (kept_joined t.raw.now (begin_phrase t.raw.now line head body (scope_of t)) _ (first (Ok tt) is) (kept_joined t.raw.now (inside t.raw.now line head body (scope_of t)) _ (kept_inside k.0) e)),
          record { scope_is = after_all_of; text = k.1.text ∙ at.text; right = λ r. k.1.right (at.right r) },
        )
        finish (Err x) e =
            tells_whole x (told_behind t.raw.now x (begin_phrase t.raw.now line head body (scope_of t)) _ (first (Ok tt) is)
            (told_behind t.raw.now x (inside t.raw.now line head body (scope_of t)) (end_phrase t.raw.now line head body (scope_of t)) (kept_inside k.0) e))

        pub define_walks : (r : Outcome) → r ≡ on_line line f → Walks (of_item (Define line head body)) t new r
        define_walks r ends_so = finish r (last r ends_so)

-- an item by its form
pub item_walks : (one x : RawItem) (old new : Tables) (r : Outcome) → one ≡ x → Walks (of_item x) old new r → Walks (of_item one) old new r
item_walks one x old new r is h = subst (λ y. Walks (of_item y) old new r) (sym is) h

module _ (raw : RawProgram) (scope : Scope) (before : List RawMember) (m : RawMember) (listed : StructMembers) (is : HasMembers raw before listed) where
  -- a member that passes its check has a new name
  pub member_fresh : check_member raw scope before m ≡ kept → listed_type m.name listed ≡ None
  member_fresh h =
      gone (listed_type m.name listed)
      (named_before raw scope before m listed is ∙ not-true _ (test_passed _ 8 _ (second_kept (when_given (check_complete raw scope) (written_type raw m.shape)) _ (second_kept (check_type raw scope m.shape) _ h))))
