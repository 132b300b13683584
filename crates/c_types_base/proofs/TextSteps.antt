-- Members, parameters and items as stretches of a text, one after another.
use Rattle.std.proofs.Common.{◌≡◌, ℕ, ◌+◌, ◌<◌, List, [], ◌∷◌, ◌++◌, length, take, drop, get_or, true, Some, refl, sym, ap, ◌∙◌, append_assoc}
use Rattle.std.proofs.lemmas.List.{take_more}
use Rattle.c_tree.specs.declared.raw.program.RawHead.{RawHead}
use Rattle.c_tree.specs.declared.raw.program.RawItem.{RawItem}
use Rattle.c_tree.specs.declared.raw.program.RawItem.TheVariants.{Define}
use Rattle.c_tree.specs.declared.raw.program.RawMember.{RawMember}
use Rattle.c_tree.specs.declared.raw.program.RawParam.{RawParam}
use Rattle.c_tree.specs.declared.raw.program.RawProgram.{RawProgram}
use Rattle.c_tree.specs.declared.raw.statement.RawStatement.{RawStatement}
use Rattle.c_language.specs.Phrases.{InBlock, HasMember, DeclaresFunction, Takes, EndsFunction, Phrases, phrase, head_phrases, body_phrases, item_phrases, after_item, member_phrases, taken_phrases}
use Rattle.c_language.specs.Scopes.{Scope, opened, closed, with_function, with_parameters, scope_of_parameters, entered}
use Rattle.c_language.proofs.Turns.{drop_turn}
use Rattle.c_language.proofs.PhraseLists.{body_in_order, body_after}
use Rattle.c_language.proofs.ScopeNumbers.{through_function}
use Rattle.c_types_base.proofs.ScopeLaws.{Extends, then_extends}
use Rattle.c_types_base.specs.Stretches.{Stretch, then_comes, of_statements, of_parameter, of_parameters, of_function, inside_function, of_item, of_items}
use Rattle.c_types_base.proofs.Stretching.{parameters_grow, statements_grow, one_phrase}

-- the members of a struct type, behind others
abbrev pub of_members : List RawMember → List RawMember → Stretch
of_members before ms raw = record { gives = λ (scope : Scope). member_phrases scope before ms; after = λ (scope : Scope). scope }

-- the parameters of a prototype, behind others
abbrev pub of_taken : List RawParam → List RawParam → Stretch
of_taken before ps raw = record { gives = λ (scope : Scope). taken_phrases scope before ps; after = λ (scope : Scope). scope }

-- parts of lists from an element on
pub members_here : (ms : List RawMember) (i : ℕ) (m : RawMember) (raw : RawProgram) → i < length ms → m ≡ get_or ms i m
    → of_members (take i ms) (drop i ms) raw ≡ then_comes (one_phrase m.line (HasMember (take i ms) m)) (of_members (take (i + 1) ms) (drop (i + 1) ms)) raw
members_here ms i m raw within is =
    ap (λ rest. of_members (take i ms) rest raw) (drop_turn ms i m within is)
    ∙ ap (λ before. then_comes (one_phrase m.line (HasMember (take i ms) m)) (of_members before (drop (i + 1) ms)) raw) (ap (λ x. take i ms ++ x ∷ []) is ∙ sym (take_more ms i m within))

pub taken_here : (ps : List RawParam) (i : ℕ) (p : RawParam) (raw : RawProgram) → i < length ps → p ≡ get_or ps i p
    → of_taken (take i ps) (drop i ps) raw ≡ then_comes (one_phrase p.line (Takes (take i ps) p)) (of_taken (take (i + 1) ps) (drop (i + 1) ps)) raw
taken_here ps i p raw within is =
    ap (λ rest. of_taken (take i ps) rest raw) (drop_turn ps i p within is)
    ∙ ap (λ before. then_comes (one_phrase p.line (Takes (take i ps) p)) (of_taken before (drop (i + 1) ps)) raw) (ap (λ x. take i ps ++ x ∷ []) is ∙ sym (take_more ps i p within))

pub parameters_here : (ps : List RawParam) (i : ℕ) (p : RawParam) (raw : RawProgram) → i < length ps → p ≡ get_or ps i p
    → of_parameters (drop i ps) raw ≡ then_comes (of_parameter p) (of_parameters (drop (i + 1) ps)) raw
parameters_here ps i p raw within is = ap (λ rest. of_parameters rest raw) (drop_turn ps i p within is)

pub items_here : (xs : List RawItem) (i : ℕ) (x : RawItem) (raw : RawProgram) → i < length xs → x ≡ get_or xs i x
    → of_items (drop i xs) raw ≡ then_comes (of_item x) (of_items (drop (i + 1) xs)) raw
items_here xs i x raw within is = ap (λ rest. of_items rest raw) (drop_turn xs i x within is)

-- one element more
pub with_next : {A : Type 0} (xs : List A) (i : ℕ) (x : A) → i < length xs → x ≡ get_or xs i x → take i xs ++ x ∷ [] ≡ take (i + 1) xs
with_next xs i x within is = ap (λ y. take i xs ++ y ∷ []) is ∙ sym (take_more xs i x within)

-- the parameters and the body of a function
abbrev pub of_inside : RawHead → List RawStatement → Stretch
of_inside head body = then_comes (of_parameters head.params) (of_statements InBlock body)

pub inside_grows : (raw : RawProgram) (head : RawHead) (body : List RawStatement) (x : Scope) → Extends x ((of_inside head body raw).after x)
inside_grows raw head body x =
    let y = with_parameters raw head.params x in
    then_extends x y ((of_statements InBlock body raw).after y) (parameters_grow raw head.params x) (statements_grow raw InBlock body y)

-- the parameters of a definition begin where the function is entered, behind its name
pub begins_at : (head : RawHead) (scope : Scope) → inside_function (with_function head.name scope) ≡ scope_of_parameters head scope
begins_at head scope =
    ap (λ (n : ℕ). record (opened (with_function head.name scope)) { owner = Some n; functions = n + 1 }) (through_function (λ (x : Scope). x.functions) head.name scope refl)

-- the definition of a function
module _ (raw : RawProgram) (line : ℕ) (head : RawHead) (body : List RawStatement) (scope : Scope) where
  abbrev declared : Scope
  declared = with_function head.name scope

  abbrev pub inside : Phrases
  inside = (of_function head body raw).gives declared

  abbrev pub begin_phrase : Phrases
  begin_phrase = phrase line scope (DeclaresFunction head true) ∷ []

  abbrev pub end_phrase : Phrases
  end_phrase = phrase line scope (EndsFunction head body) ∷ []

  inside_is : inside ≡ head_phrases raw head.params (scope_of_parameters head scope) ++ body_phrases raw body (entered raw head scope)
  inside_is =
      ap (of_inside head body raw).gives (begins_at head scope)
      ∙ ap (λ ps. head_phrases raw head.params (scope_of_parameters head scope) ++ ps) (sym (body_in_order raw body (entered raw head scope)))

  pub define_phrases : begin_phrase ++ (inside ++ end_phrase) ≡ item_phrases raw (Define line head body) scope
  define_phrases =
      ap (λ ps. begin_phrase ++ (ps ++ end_phrase)) inside_is
      ∙ ap (λ ps. begin_phrase ++ ps) (append_assoc (head_phrases raw head.params (scope_of_parameters head scope)) (body_phrases raw body (entered raw head scope)) end_phrase)

  pub define_after : (of_function head body raw).after declared ≡ after_item raw (Define line head body) scope
  define_after = ap (closed declared) (ap (of_inside head body raw).after (begins_at head scope) ∙ sym (body_after raw body (entered raw head scope)))
