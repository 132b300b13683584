-- What is listed of members, parameters and items grows one by one.
use Rattle.std.proofs.Common.{◌≡◌, ℕ, suc, ◌+◌, ◌<◌, List, [], ◌∷◌, ◌++◌, length, take, drop, get_or, Bool, true, false, cond, Option, Some, None, option_map, find, slice_get, option_and_then, bytes_eq, is_some, refl, sym, ap, ◌∙◌, true≢false, arith}
use Rattle.std.specs.Prelude.{◌||◌}
use Rattle.std.specs.List.{list_any}
use Rattle.std.specs.Map.{update}
use Rattle.std.proofs.lemmas.List.{take-append-drop, take_more, length-append}
use Rattle.std.proofs.lemmas.Slice.Eq.{bytes_eq-Decides as bytes_decides}
use Rattle.c_tree.specs.declared.raw.program.RawMember.{RawMember}
use Rattle.c_tree.specs.declared.raw.program.RawParam.{RawParam}
use Rattle.c_tree.specs.declared.raw.program.RawHead.{RawHead}
use Rattle.c_tree.specs.declared.raw.program.RawItem.{RawItem}
use Rattle.c_tree.specs.declared.raw.program.RawItem.TheVariants.{Include, Tag, Struct, Global, Prototype, Define}
use Rattle.c_tree.specs.declared.raw.program.RawProgram.{RawProgram}
use Rattle.c_tree.specs.declared.raw.statement.RawStatement.{RawStatement}
use Rattle.c_language.specs.Words.{Bytes}
use Rattle.c_language.specs.DeclaredTypes.{struct_texts, written_type}
use Rattle.c_language.specs.ExprTypes.{member_named}
use Rattle.c_language.specs.Phrases.{after_body, after_item, InBlock}
use Rattle.c_language.specs.Scopes.{Scope, with_function, entered, scope_of_parameters}
use Rattle.c_language.specs.declared.expr_type.ExprType.{ExprType}
use Rattle.c_language.proofs.Lists.{position-cons}
use Rattle.c_language.proofs.PhraseLists.{body_after}
use Rattle.c_language.proofs.ScopeNumbers.{through_function}
use Rattle.c_types_base.specs.Names.{listed_type}
use Rattle.c_types_base.specs.Numbering.{number_among}
use Rattle.c_types_base.specs.declared.names.StructMembers.{StructMembers}
use Rattle.c_types_base.proofs.DefinitionLemmas.{structs-append}
use Rattle.c_types_base.proofs.NumberingLemmas.{or_else, or_else-None}
use Rattle.c_types_base.specs.Listing.{has_name, HasMembers, HasPlace, name_before, names_given}
use Rattle.c_types_base.proofs.Stretching.{parameters_grow, statements_grow}

push_found : {A : Type 0} (b d : Bool) (x y : A) (rest : Option A) → cond b (Some x) (or_else rest (cond d (Some y) None)) ≡ or_else (cond b (Some x) rest) (cond d (Some y) None)
push_found true d x y rest = refl
push_found false d x y rest = refl

find-push : {A : Type 0} (p : A → Bool) (x : A) (xs : List A) → find p (xs ++ x ∷ []) ≡ or_else (find p xs) (cond (p x) (Some x) None)
find-push p x [] = refl
find-push p x (y ∷ xs) = ap (cond (p y) (Some y)) (find-push p x xs) ∙ push_found (p y) (p x) y x (find p xs)

any_found : {A : Type 0} (b : Bool) (x : A) (rest : Option A) (any : Bool) → is_some rest ≡ any → is_some (cond b (Some x) rest) ≡ (b || any)
any_found true x rest any h = refl
any_found false x rest any h = h

-- something is found exactly where any passes
pub found_any : {A : Type 0} (p : A → Bool) (xs : List A) → is_some (find p xs) ≡ list_any p xs
found_any p [] = refl
found_any p (x ∷ xs) = any_found (p x) x (find p xs) (list_any p xs) (found_any p xs)

pub gone : {A : Type 0} (o : Option A) → is_some o ≡ false → o ≡ None
gone None h = refl
gone (Some x) h = absurd (true≢false h)

-- one more member, whose name is new
module _ (raw : RawProgram) (before : List RawMember) (m : RawMember) (old new : StructMembers) (t : ExprType) (is : HasMembers raw before old)
    (typed : written_type raw m.shape ≡ Some t) (fresh : listed_type m.name old ≡ None)
    (gives : (q : Bytes) → listed_type q new ≡ update bytes_eq (λ x. listed_type x old) m.name (Some t) q) where
  abbrev type_of : RawMember → Option ExprType
  type_of x = written_type raw x.shape

  none_before : (q : Bytes) → m.name ≡ q → member_named before q ≡ None
  none_before q same = gone (member_named before q) (sym (is.there q) ∙ ap is_some (ap (λ x. listed_type x old) (sym same) ∙ fresh))

  found_at : (b : Bool) (q : Bytes) → bytes_eq m.name q ≡ b → member_named (before ++ m ∷ []) q ≡ cond b (Some m) (member_named before q)
  found_at true q e =
      find-push (λ (x : RawMember). bytes_eq x.name q) m before
      ∙ ap (λ o. or_else o (cond (bytes_eq m.name q) (Some m) None)) (none_before q ((bytes_decides m.name q).0 e))
      ∙ ap (λ d. cond d (Some m) None) e
  found_at false q e =
      find-push (λ (x : RawMember). bytes_eq x.name q) m before
      ∙ ap (λ d. or_else (member_named before q) (cond d (Some m) None)) e ∙ or_else-None (member_named before q)

  listed_at : (b : Bool) (q : Bytes) → bytes_eq m.name q ≡ b → listed_type q new ≡ cond b (Some t) (listed_type q old)
  listed_at b q e = gives q ∙ ap (λ d. cond d (Some t) (listed_type q old)) e

  there_at : (b : Bool) (q : Bytes) → is_some (cond b (Some t) (listed_type q old)) ≡ is_some (cond b (Some m) (member_named before q))
  there_at true q = refl
  there_at false q = is.there q

  types_at : (b : Bool) (q : Bytes) → cond b (Some t) (listed_type q old) ≡ option_and_then type_of (cond b (Some m) (member_named before q))
  types_at true q = sym typed
  types_at false q = is.types q

  pub member_listed : HasMembers raw (before ++ m ∷ []) new
  member_listed = record {
    there = λ q. ap is_some (listed_at (bytes_eq m.name q) q refl) ∙ there_at (bytes_eq m.name q) q ∙ ap is_some (sym (found_at (bytes_eq m.name q) q refl));
    types = λ q. listed_at (bytes_eq m.name q) q refl ∙ types_at (bytes_eq m.name q) q ∙ ap (option_and_then type_of) (sym (found_at (bytes_eq m.name q) q refl));
  }

module _ (raw : RawProgram) (scope : Scope) (before : List RawMember) (m : RawMember) (listed : StructMembers) (is : HasMembers raw before listed) where
  -- whether a member before has the name, by the list
  pub named_before : is_some (listed_type m.name listed) ≡ list_any (λ (other : RawMember). bytes_eq other.name m.name) before
  named_before = is.there m.name ∙ found_any (λ (other : RawMember). bytes_eq other.name m.name) before

-- the names of parameters
given-append : (o : Option Bytes) (names more : List Bytes) → name_before o (names ++ more) ≡ name_before o names ++ more
given-append None names more = refl
given-append (Some name) names more = refl

pub given_push : (ps : List RawParam) (p : RawParam) → names_given (ps ++ p ∷ []) ≡ names_given ps ++ name_before p.name []
given_push [] p = refl
given_push (q ∷ ps) p = ap (name_before q.name) (given_push ps p) ∙ given-append q.name (names_given ps) (name_before p.name [])

among : (b : Bool) (o : Option ℕ) → is_some (cond b (Some 0) (option_map suc o)) ≡ (b || is_some o)
among true o = refl
among false None = refl
among false (Some n) = refl

one_given : (o : Option Bytes) (names : List Bytes) (name : Bytes) → is_some (number_among (name_before o names) name) ≡ (has_name name o || is_some (number_among names name))
one_given None names name = refl
one_given (Some other) names name =
    ap is_some (position-cons (λ (x : Bytes). bytes_eq x name) other names) ∙ among (bytes_eq other name) (number_among names name)

pub all_given : (ps : List RawParam) (name : Bytes) → is_some (number_among (names_given ps) name) ≡ list_any (λ (q : RawParam). has_name name q.name) ps
all_given [] name = refl
all_given (p ∷ ps) name = one_given p.name (names_given ps) name ∙ ap (λ b. has_name name p.name || b) (all_given ps name)

-- what an item adds to the struct types that are complete, and to where names are declared
module _ (raw : RawProgram) (scope : Scope) where
  function_structs : (name : Bytes) → (with_function name scope).structs ≡ scope.structs
  function_structs name = through_function (λ (x : Scope). x.structs) name scope refl

  pub function_outer : (name : Bytes) → (with_function name scope).outer ≡ scope.outer
  function_outer name = through_function (λ (x : Scope). x.outer) name scope refl

  body_structs : (head : RawHead) (body : List RawStatement) → (after_body raw body (entered raw head scope)).structs ≡ scope.structs
  body_structs head body =
      ap (λ (x : Scope). x.structs) (body_after raw body (entered raw head scope))
      ∙ (statements_grow raw InBlock body (entered raw head scope)).structs
      ∙ (parameters_grow raw head.params (scope_of_parameters head scope)).structs
      ∙ function_structs head.name

  pub item_outer : (x : RawItem) → (after_item raw x scope).outer ≡ scope.outer
  item_outer (Include is_stdlib) = refl
  item_outer (Tag line tag) = refl
  item_outer (Struct line tag members) = refl
  item_outer (Global line var i is_static) = refl
  item_outer (Prototype line head) = function_outer head.name
  item_outer (Define line head body) = function_outer head.name

  pub item_structs : (x : RawItem) → (after_item raw x scope).structs ≡ scope.structs + length (struct_texts (x ∷ []))
  item_structs (Include is_stdlib) = omega arith
  item_structs (Tag line tag) = omega arith
  item_structs (Struct line tag members) = refl
  item_structs (Global line var i is_static) = omega arith
  item_structs (Prototype line head) = omega (arith, function_structs head.name)
  item_structs (Define line head body) = omega (arith, body_structs head body)

at_length : {A : Type 0} (xs : List A) (y : A) (ys : List A) → slice_get (xs ++ y ∷ ys) (length xs) ≡ Some y
at_length [] y ys = refl
at_length (x ∷ xs) y ys = at_length xs y ys

-- the struct types among the items so far
pub structs_more : (xs : List RawItem) (i : ℕ) (x : RawItem) (count next : ℕ) → i < length xs → x ≡ get_or xs i x → count ≡ length (struct_texts (take i xs)) → next ≡ count + length (struct_texts (x ∷ []))
    → next ≡ length (struct_texts (take (i + 1) xs))
structs_more xs i x count next within is so_far grows =
    let e : struct_texts (take (i + 1) xs) ≡ struct_texts (take i xs) ++ struct_texts (x ∷ []) =
    ap struct_texts (take_more xs i x within ∙ ap (λ y. take i xs ++ y ∷ []) (sym is)) ∙ structs-append (take i xs) (x ∷ []) in
    let n : length (struct_texts (take (i + 1) xs)) ≡ length (struct_texts (take i xs) ++ struct_texts (x ∷ [])) = ap length e in
    omega (arith, so_far, grows, n, length-append (struct_texts (take i xs)) (struct_texts (x ∷ [])))

module _ (raw : RawProgram) (xs : List RawItem) (i : ℕ) (rest : List RawItem) (whole : xs ≡ raw.items) (count : ℕ) (so_far : count ≡ length (struct_texts (take i xs))) where
  all_structs : (x : RawItem) → drop i xs ≡ x ∷ rest → struct_texts raw.items ≡ struct_texts (take i xs) ++ struct_texts (x ∷ rest)
  all_structs x e = ap struct_texts (sym whole ∙ sym (take-append-drop i xs) ∙ ap (λ ys. take i xs ++ ys) e) ∙ structs-append (take i xs) (x ∷ rest)

  -- the item that comes next has its place among the struct types
  pub placed : (x : RawItem) → drop i xs ≡ x ∷ rest → HasPlace raw count x
  placed (Include is_stdlib) e = tt
  placed (Tag line name) e = tt
  placed (Struct line tag members) e =
      ap (slice_get (struct_texts raw.items)) so_far ∙ ap (λ ss. slice_get ss (length (struct_texts (take i xs)))) (all_structs (Struct line tag members) e)
      ∙ at_length (struct_texts (take i xs)) (record { tag = tag; members = members }) (struct_texts rest)
  placed (Global line var i is_static) e = tt
  placed (Prototype line head) e = tt
  placed (Define line head body) e = tt
