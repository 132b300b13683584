-- The phrases of each function of a generated program break no rule.
use Rattle.std.proofs.Common.{◌≡◌, ℕ, zero, suc, ◌+◌, ◌<◌, ◌^◌, Bool, true, false, List, [], ◌∷◌, ◌++◌, Option, Some, None, refl, sym, ap, subst, ◌∙◌, decimal, arith}
use Rattle.std.specs.Prelude.{codes}
use Rattle.std.specs.List.{list_all}
use Rattle.c_arith.specs.declared.operators.BinaryOp.TheVariants.{Add}
use Rattle.c_tree.specs.declared.raw.expr.RawExpr.TheVariants as e
use Rattle.c_tree.specs.declared.raw.program.RawInit.TheVariants as init
use Rattle.c_tree.specs.declared.raw.program.RawItem.{RawItem}
use Rattle.c_tree.specs.declared.raw.program.RawProgram.{RawProgram}
use Rattle.c_tree.specs.declared.raw.statement.RawStatement.{RawStatement}
use Rattle.c_tree.specs.declared.raw.statement.RawStatement.TheOpen.{RawStatement-F}
use Rattle.c_tree.specs.declared.raw.statement.RawTarget.TheVariants as target
use Rattle.c_language.specs.Phrases.{InHead, InBlock, DeclaresFunction, EndsFunction, Declares, Begins, Assigns, Calls, Returns, phrase, scoped_step, head_phrases, body_phrases, after_body, item_phrases, after_item}
use Rattle.c_language.specs.CallRules.{EndsWithValue}
use Rattle.c_language.specs.HeadTests.{ends_with_value}
use Rattle.c_language.specs.Scopes.{Scope, Entry, found_in, with_variable, numbered, closed, scope_of_parameters, entered}
use Rattle.c_language.specs.Uses.{is_library_name}
use Rattle.c_language.proofs.HeadLemmas.{ends_told}
use Rattle.c_language.proofs.ScopedForms.{scoped-Declare, scoped-Assign, scoped-Call, scoped-Return}
use Rattle.c_types_base.proofs.TypedLaws.{IsTyped}
use Rattle.big_programs.specs.declared.choices.Call.{Call}
use Rattle.big_programs.specs.declared.choices.Choices.{Choices}
use Rattle.big_laws.specs.Trees.{global_name, function_name, variable, named, passed, local_statement, store_statement, made_call, call_statements, sum_statement, returned, return_statement, function_body, parameter, function_head, function_item, generated_tree}
use Rattle.big_laws.proofs.Bounds.{IsCallWithin, IsWithin}
use Rattle.big_laws.proofs.Names.{an_int, variable_entry, names_behind, behind_functions, global_found, function_found, function_fresh}
use Rattle.big_laws.proofs.Heads.{head_at, definition_named, next_is_new}
use Rattle.big_laws.proofs.Spelled.{other_word}
use Rattle.big_laws.proofs.Typed.{is_typed, names_typed}
use Rattle.big_laws.proofs.Checks as check
use Rattle.big_laws.proofs.Good.{AreGood, good, good_joined, IsGoodBody, good_end, good_then}
use Rattle.big_laws.proofs.Places.{outside, inside, outside_typed, inside_typed, one_more, function_named, function_begins}

-- a function's item is good, and leads to the next one
pub record IsGoodItem (raw : RawProgram) (one : RawItem) (n : ℕ) (scope : Scope) : Type 0 where
  pub good : AreGood raw (item_phrases raw one scope)
  pub variables : ℕ
  pub statements : ℕ
  pub after : after_item raw one scope ≡ outside n variables statements

pub no_library_name : (number : ℕ) → number < 2 ^ 64 → is_library_name (function_name number) ≡ false
no_library_name number small = rw (other_word number small 114 (codes "ee") (omega arith)) refl

next_number : (n : ℕ) → n + 1 ≡ suc n
next_number n = omega arith

returns_given : (local : Bool) → ends_with_value (return_statement local ∷ []) ≡ true
returns_given true = ends_told (EndsWithValue.last {line = 0} (named (codes "t")))
returns_given false = ends_told (EndsWithValue.last {line = 0} (named (codes "b")))

module _ (seed size n : ℕ) (small : size < 2 ^ 64) (below : n < size) where
  abbrev raw : RawProgram
  raw = generated_tree seed size

  -- the names before the function's own
  abbrev before : List Entry
  before = names_behind (suc n)

  within : suc n < 2 ^ 64
  within = omega (arith, small, below)

  fresh : found_in (function_name (suc n)) (names_behind n) ≡ None
  fresh = function_fresh n within

  abbrev parameters : ℕ → List Entry
  parameters v = variable_entry v (codes "a") ∷ (variable_entry (v + 1) (codes "b") ∷ [])

  -- its own names
  abbrev names : ℕ → List Entry
  names v = variable_entry v (codes "a") ∷ (variable_entry (v + 1) (codes "b") ∷ (variable_entry (v + 1 + 1) (codes "t") ∷ []))

  typed_here : (v s : ℕ) (own : List Entry) → list_all is_typed own ≡ true → IsTyped raw (inside before n v s own)
  typed_here v s own h = inside_typed raw before n v s own (names_typed (suc n)) h

  -- ---- the parameters

  first_declared : (v s : ℕ) → with_variable raw (variable (codes "a")) init.None (inside before n v s []) ≡ inside before n (v + 1) s (variable_entry v (codes "a") ∷ [])
  first_declared v s = one_more raw before n v s [] (codes "a") init.None

  second_declared : (v s : ℕ) → with_variable raw (variable (codes "b")) init.None (inside before n (v + 1) s (variable_entry v (codes "a") ∷ [])) ≡ inside before n (v + 1 + 1) s (parameters v)
  second_declared v s = one_more raw before n (v + 1) s (variable_entry v (codes "a") ∷ []) (codes "b") init.None

  head_good : (v s : ℕ) → AreGood raw (head_phrases raw (parameter (codes "a") ∷ (parameter (codes "b") ∷ [])) (inside before n v s []))
  head_good v s = (
    good raw (inside before n v s []) (typed_here v s [] refl) (Declares InHead (variable (codes "a")) init.None)
        (check.declared raw (inside before n v s []) InHead (codes "a") init.None refl (behind_functions (codes "a") (suc n) [] (λ k le. refl)) refl) refl,
    subst (λ (place : Scope). AreGood raw (phrase 0 place (Declares InHead (variable (codes "b")) init.None) ∷ [])) (sym (first_declared v s)) (
      good raw (inside before n (v + 1) s (variable_entry v (codes "a") ∷ [])) (typed_here (v + 1) s (variable_entry v (codes "a") ∷ []) refl) (Declares InHead (variable (codes "b")) init.None)
          (check.declared raw (inside before n (v + 1) s (variable_entry v (codes "a") ∷ [])) InHead (codes "b") init.None refl (behind_functions (codes "b") (suc n) (variable_entry v (codes "a") ∷ []) (λ k le. refl)) refl) refl,
      tt,
    ),
  )

  enters : (v s : ℕ) → entered raw (function_head (suc n)) (outside n v s) ≡ inside before n (v + 1 + 1) s (parameters v)
  enters v s =
      ap (λ (place : Scope). with_variable raw (variable (codes "b")) init.None (with_variable raw (variable (codes "a")) init.None place)) (function_begins (function_head (suc n)) n v s fresh)
      ∙ ap (with_variable raw (variable (codes "b")) init.None) (first_declared v s)
      ∙ second_declared v s

  -- ---- the statements

  module _ (v : ℕ) where
    abbrev at : ℕ → Scope
    at s = inside before n (v + 1 + 1 + 1) s (names v)

    typed : (s : ℕ) → IsTyped raw (at s)
    typed s = typed_here (v + 1 + 1 + 1) s (names v) refl

    second_found : found_in (codes "b") (before ++ names v) ≡ Some (an_int (v + 1))
    second_found = behind_functions (codes "b") (suc n) (names v) (λ k le. refl)

    local_found : found_in (codes "t") (before ++ names v) ≡ Some (an_int (v + 1 + 1))
    local_found = behind_functions (codes "t") (suc n) (names v) (λ k le. refl)

    local_good : (s added : ℕ) (rest : List RawStatement) (end : Scope) → IsGoodBody raw rest (at (s + 1)) end
        → IsGoodBody raw (local_statement added ∷ rest) (inside before n (v + 1 + 1) s (parameters v)) end
    local_good s added rest end later =
        let sum = e.Binary Add (named (codes "a")) (e.Constant (decimal added)) in
        let first = inside before n (v + 1 + 1) s (parameters v) in
        let more : with_variable raw (variable (codes "t")) (init.One sum) first ≡ at s = one_more raw before n (v + 1 + 1) s (parameters v) (codes "t") (init.One sum) in
        let added_integer = check.sum_integer raw (at s) (named (codes "a")) (e.Constant (decimal added))
        (check.name_integer raw (at s) (codes "a") v (behind_functions (codes "a") (suc n) (names v) (λ k le. refl)))
        (check.constant_integer raw (at s) (decimal added)) in
        good_then raw (local_statement added) rest (scoped_step raw (RawStatement-F.Declare 0 (variable (codes "t")) (init.One sum))) first (at (s + 1)) end
        (scoped-Declare raw 0 (variable (codes "t")) (init.One sum)) (
          good raw first (typed_here (v + 1 + 1) s (parameters v) refl) (Declares InBlock (variable (codes "t")) (init.One sum))
              (check.declared raw first InBlock (codes "t") (init.One sum) refl (behind_functions (codes "t") (suc n) (parameters v) (λ k le. refl)) refl) refl,
          subst (λ (place : Scope). AreGood raw (phrase 0 place (Begins InBlock (variable (codes "t")) (init.One sum)) ∷ [])) (sym more)
              (good raw (at s) (typed s) (Begins InBlock (variable (codes "t")) (init.One sum)) (check.begun raw (at s) (codes "t") sum added_integer) tt, tt),
        ) (ap numbered more) later

    store_good : (s stored : ℕ) (rest : List RawStatement) (end : Scope) → stored < 4 → IsGoodBody raw rest (at (s + 1)) end → IsGoodBody raw (store_statement stored ∷ rest) (at s) end
    store_good s stored rest end lt later =
        let right = check.name_integer raw (at s) (codes "t") (v + 1 + 1) local_found in
        good_then raw (store_statement stored) rest (scoped_step raw (RawStatement-F.Assign 0 (named (global_name stored)) None (named (codes "t")))) (at s) (at (s + 1)) end
        (scoped-Assign raw 0 (named (global_name stored)) None (named (codes "t")))
        (good raw (at s) (typed s) (Assigns (named (global_name stored)) None (named (codes "t"))) (check.assigned raw (at s) (global_name stored) stored (named (codes "t")) (global_found stored (suc n) (names v) lt) right) tt, tt)
        refl later

    sum_good : (s summed : ℕ) (rest : List RawStatement) (end : Scope) → summed < 4 → IsGoodBody raw rest (at (s + 1)) end → IsGoodBody raw (sum_statement summed ∷ rest) (at s) end
    sum_good s summed rest end lt later =
        let sum = e.Binary Add (named (codes "b")) (named (global_name summed)) in
        let right = check.sum_integer raw (at s) (named (codes "b")) (named (global_name summed))
        (check.name_integer raw (at s) (codes "b") (v + 1) second_found)
        (check.name_integer raw (at s) (global_name summed) summed (global_found summed (suc n) (names v) lt)) in
        good_then raw (sum_statement summed) rest (scoped_step raw (RawStatement-F.Assign 0 (named (codes "b")) None sum)) (at s) (at (s + 1)) end
        (scoped-Assign raw 0 (named (codes "b")) None sum)
        (good raw (at s) (typed s) (Assigns (named (codes "b")) None sum) (check.assigned raw (at s) (codes "b") (v + 1) sum second_found right) tt, tt)
        refl later

    call_good : (s j q : ℕ) (rest : List RawStatement) (end : Scope) → j < n → q < 4 → IsGoodBody raw rest (at (s + 1)) end
        → IsGoodBody raw (made_call (record { function = suc j; global = q }) ∷ rest) (at s) end
    call_good s j q rest end earlier lt later =
        let to = target.Place (named (codes "t")) in
        let args = passed (codes "t") ∷ (passed (global_name q) ∷ []) in
        good_then raw (made_call (record { function = suc j; global = q })) rest (scoped_step raw (RawStatement-F.Call 0 to (function_name (suc j)) args)) (at s) (at (s + 1)) end
        (scoped-Call raw 0 to (function_name (suc j)) args) (
          good raw (at s) (typed s) (Calls InBlock to (function_name (suc j)) args)
              (check.called raw (at s) (suc j) (other_word (suc j) (omega (arith, earlier, within)) 114 (codes "ee") (omega arith)) (function_found j (suc n) (names v) (omega (arith, earlier)) within)
              (definition_named seed size small j (omega (arith, earlier, below))) (named (codes "t")) (named (global_name q))
              (check.name_integer raw (at s) (codes "t") (v + 1 + 1) local_found) (check.name_integer raw (at s) (global_name q) q (global_found q (suc n) (names v) lt))
              (codes "t") (v + 1 + 1) local_found) tt,
          tt,
        )
        refl later

    made_good : (s : ℕ) (call : Call) (rest : List RawStatement) (end : Scope) → IsCallWithin n (Some call) → IsGoodBody raw rest (at (s + 1)) end → IsGoodBody raw (made_call call ∷ rest) (at s) end
    made_good s call rest end h later = at_number call.function refl where
      at_number : (k : ℕ) → call.function ≡ k → IsGoodBody raw (made_call call ∷ rest) (at s) end
      at_number zero is = absurd (omega (arith, h.0, is))
      at_number (suc j) is =
          subst (λ (k : ℕ). IsGoodBody raw (made_call (record { function = k; global = call.global }) ∷ rest) (at s) end) (sym is)
          (call_good s j call.global rest end (omega (arith, h.1, is)) h.2 later)

    returned_integer : (s : ℕ) (local : Bool) → check.IsInteger raw (at s) (named (returned local))
    returned_integer s true = check.name_integer raw (at s) (codes "t") (v + 1 + 1) local_found
    returned_integer s false = check.name_integer raw (at s) (codes "b") (v + 1) second_found

    return_good : (s : ℕ) (local : Bool) → IsGoodBody raw (return_statement local ∷ []) (at s) (at (s + 1))
    return_good s local =
        let a = named (returned local) in
        good_then raw (return_statement local) [] (scoped_step raw (RawStatement-F.Return 0 (Some a))) (at s) (at (s + 1)) (at (s + 1))
        (scoped-Return raw 0 (Some a))
        (good raw (at s) (typed s) (Returns (Some a)) (check.returned raw (at s) (suc n) a (returned_integer s local) (head_at seed size small n below)) tt, tt)
        refl (good_end raw (at (s + 1)))

    -- what a function does behind n others
    pub body_good : (s : ℕ) (c : Choices) → IsWithin n c → (end : ℕ) × IsGoodBody raw (function_body c) (inside before n (v + 1 + 1) s (parameters v)) (at end)
    body_good s c w = with_call c.call w.call where
      body_with : Option Call → List RawStatement
      body_with made = local_statement c.added ∷ (store_statement c.stored ∷ (call_statements made ++ (sum_statement c.summed ∷ (return_statement c.returns_local ∷ []))))

      ends : (s : ℕ) → IsGoodBody raw (sum_statement c.summed ∷ (return_statement c.returns_local ∷ [])) (at s) (at (s + 1 + 1))
      ends s = sum_good s c.summed (return_statement c.returns_local ∷ []) (at (s + 1 + 1)) w.summed (return_good (s + 1) c.returns_local)

      with_call : (made : Option Call) → IsCallWithin n made → (end : ℕ) × IsGoodBody raw (body_with made) (inside before n (v + 1 + 1) s (parameters v)) (at end)
      with_call None h = (
        s + 1 + 1 + 1 + 1,
        local_good s c.added _ (at (s + 1 + 1 + 1 + 1)) (store_good (s + 1) c.stored _ (at (s + 1 + 1 + 1 + 1)) w.stored (ends (s + 1 + 1))),
      )
      with_call (Some call) h = (
        s + 1 + 1 + 1 + 1 + 1,
        local_good s c.added _ (at (s + 1 + 1 + 1 + 1 + 1))
            (store_good (s + 1) c.stored _ (at (s + 1 + 1 + 1 + 1 + 1)) w.stored (made_good (s + 1 + 1) call _ (at (s + 1 + 1 + 1 + 1 + 1)) h (ends (s + 1 + 1 + 1)))),
      )

  -- ---- the whole

  ends_given : (c : Choices) → ends_with_value (function_body c) ≡ true
  ends_given c = with_call c.call where
    with_call : (made : Option Call)
        → ends_with_value (local_statement c.added ∷ (store_statement c.stored ∷ (call_statements made ++ (sum_statement c.summed ∷ (return_statement c.returns_local ∷ []))))) ≡ true
    with_call None = returns_given c.returns_local
    with_call (Some call) = returns_given c.returns_local

  pub function_good : (c : Choices) → IsWithin n c → (v s : ℕ) → IsGoodItem raw (function_item (suc n) c) (suc n) (outside n v s)
  function_good c w v s =
      let head = function_head (suc n) in
      let name = function_name (suc n) in
      let body = function_body c in
      let place = outside n v s in
      let own = body_good v s c w in
      let begins = function_begins head n v s fresh in
      record {
        good = (
          good raw place (outside_typed raw n v s) (DeclaresFunction head true) (check.function_declared raw place (suc n) fresh (no_library_name (suc n) within) (next_is_new seed size small n below)) tt,
          good_joined raw (head_phrases raw head.params (scope_of_parameters head place)) (body_phrases raw body (entered raw head place) ++ (phrase 0 place (EndsFunction head body) ∷ []))
              (subst (λ (x : Scope). AreGood raw (head_phrases raw head.params x)) (sym begins) (head_good v s))
              (good_joined raw (body_phrases raw body (entered raw head place)) (phrase 0 place (EndsFunction head body) ∷ [])
              (subst (λ (x : Scope). AreGood raw (body_phrases raw body x)) (sym (enters v s)) own.1.good)
              (good raw place (outside_typed raw n v s) (EndsFunction head body) (check.function_ended raw place (suc n) body (ends_given c)) tt, tt)),
        );
        variables = v + 1 + 1 + 1;
        statements = own.0;
        after =
            ap (λ (x : Scope). closed x (after_body raw body (entered raw head place))) (function_named name n v s fresh)
            ∙ ap (closed (record place { names = before })) (ap (after_body raw body) (enters v s) ∙ own.1.after)
            ∙ ap (λ (k : ℕ). record (outside (suc n) (v + 1 + 1 + 1) own.0) { functions = k }) (next_number n);
      }
