-- Each function of a text that keeps the rules is defined once: its name is found at its place, and main is one function.
use Rattle.std.proofs.Common.{◌≡◌, ℕ, zero, suc, ◌+◌, List, [], ◌∷◌, ◌++◌, length, take, Bool, true, false, cond, Option, Some, None, option_map, position, slice_get, refl, sym, ap, subst, ◌∙◌, arith, append_assoc}
use Rattle.std.specs.Prelude.{Contains, bytes_eq, codes}
use Rattle.std.proofs.Math.Seq.{take-append_seam}
use Rattle.std.proofs.lemmas.List.{length-append}
use Rattle.std.proofs.lemmas.Bool.{or_right}
use Rattle.std.proofs.lemmas.Slice.Eq.{bytes_eq-Decides}
use Rattle.std.proofs.lemmas.Option.{same_Some}
use Rattle.c_tree.specs.declared.raw.program.RawHead.{RawHead}
use Rattle.c_tree.specs.declared.raw.program.RawItem.{RawItem}
use Rattle.c_tree.specs.declared.raw.program.RawItem.TheVariants.{Include, Tag, Struct, Global, Prototype, Define}
use Rattle.c_tree.specs.declared.raw.program.RawProgram.{RawProgram}
use Rattle.c_language.specs.Words.{Bytes}
use Rattle.c_language.specs.DeclaredTypes.{function_texts, defined_functions, function_id}
use Rattle.c_language.specs.NameRules.{DeclaresAgain, DeclaresLibraryName}
use Rattle.c_language.specs.Phrases.{item_phrases, after_item, items_phrases}
use Rattle.c_language.specs.Rules.{Breaks, AreKept, KeepsRules}
use Rattle.c_language.specs.Scopes.{Scope, outset}
use Rattle.c_language.specs.Uses.{is_library_function, is_library_name}
use Rattle.c_language.proofs.Lists.{position-cons, same_bytes, contains_later, contains_first}
use Rattle.c_language.proofs.PhraseLists.{kept_first, kept_second, phrases_kept}
use Rattle.c_language.proofs.Tests.{false_true}
use Rattle.numbered_texts.proofs.CallsFit.{position_found}
use Rattle.c_print_laws.proofs.Numbers.{define_functions, prototype_functions}

none_at : {A : Type 0} {B : Type 0} (k : ℕ) (x : A) → slice_get {X = A} [] k ≡ Some x → B
none_at k x h = cc

abbrev named : Bytes → RawHead → Bool
named x h = bytes_eq h.name x

own_name : (x : Bytes) → bytes_eq x x ≡ true
own_name x = (bytes_eq-Decides x x).1 refl

-- none of some heads has the name
abbrev Fresh : List RawHead → Bytes → Type 0
Fresh hs x = (g : RawHead) → Contains hs g → g.name ≡ x → ⊥

twice : (m : ℕ) (o : Option ℕ) → option_map suc (option_map (λ (n : ℕ). m + n) o) ≡ option_map (λ (n : ℕ). suc m + n) o
twice m None = refl
twice m (Some n) = let e : suc (m + n) ≡ suc m + n = omega arith in ap Some e

behind_fresh : (before hs : List RawHead) (x : Bytes) → Fresh before x → position (named x) (before ++ hs) ≡ option_map (λ (n : ℕ). length before + n) (position (named x) hs)
behind_fresh [] hs x fresh = by_value (position (named x) hs)
  where
    by_value : (o : Option ℕ) → o ≡ option_map (λ (n : ℕ). 0 + n) o
    by_value None = refl
    by_value (Some n) = let e : n ≡ 0 + n = omega arith in ap Some e
behind_fresh (g ∷ before) hs x fresh = by_name (bytes_eq g.name x) refl (behind_fresh before hs x (λ k c. fresh k (contains_later g k before c)))
  where
    by_name : (b : Bool) → bytes_eq g.name x ≡ b → position (named x) (before ++ hs) ≡ option_map (λ (n : ℕ). length before + n) (position (named x) hs) → position (named x) (g ∷ (before ++ hs)) ≡ option_map (λ (n : ℕ). suc (length before) + n) (position (named x) hs)
    by_name true same later = absurd (fresh g (contains_first g before) (same_bytes g.name x same))
    by_name false differs later =
        position-cons (named x) g (before ++ hs) ∙ ap (λ (b : Bool). cond b (Some 0) (option_map suc (position (named x) (before ++ hs)))) differs ∙ ap (option_map suc) later ∙ twice (length before) (position (named x) hs)

module _ (raw : RawProgram) where
  -- where so many functions have been defined, the heads of the others are behind theirs
  record Stood (before : List RawHead) (xs : List RawItem) (scope : Scope) : Type 0 where
    kept : AreKept raw (items_phrases raw xs scope)
    count : scope.functions ≡ length before
    all : defined_functions raw ≡ before ++ function_texts xs

  behind : (before : List RawHead) (x : RawItem) (xs : List RawItem) (scope : Scope) → (after_item raw x scope).functions ≡ scope.functions → function_texts (x ∷ xs) ≡ function_texts xs → Stood before (x ∷ xs) scope → Stood before xs (after_item raw x scope)
  behind before x xs scope same none s = record {
    kept = kept_second raw (item_phrases raw x scope) (items_phrases raw xs (after_item raw x scope)) s.kept;
    count = same ∙ s.count;
    all = s.all ∙ ap (λ (hs : List RawHead). before ++ hs) none;
  }

  -- the head at a place is the first of its name
  at_own_place : (before : List RawHead) (xs : List RawItem) (scope : Scope) → Stood before xs scope → (j : ℕ) (h : RawHead) → slice_get (function_texts xs) j ≡ Some h → function_id raw h.name ≡ Some (length before + j)
  at_own_place before [] scope s j h at = none_at j h at
  at_own_place before (Include b ∷ xs) scope s j h at = at_own_place before xs scope (behind before (Include b) xs scope refl refl s) j h at
  at_own_place before (Tag l w ∷ xs) scope s j h at = at_own_place before xs scope (behind before (Tag l w) xs scope refl refl s) j h at
  at_own_place before (Struct l w ms ∷ xs) scope s j h at = at_own_place before xs (after_item raw (Struct l w ms) scope) (behind before (Struct l w ms) xs scope refl refl s) j h at
  at_own_place before (Global l v i st ∷ xs) scope s j h at = at_own_place before xs (after_item raw (Global l v i st) scope) (behind before (Global l v i st) xs scope refl refl s) j h at
  at_own_place before (Prototype l g ∷ xs) scope s j h at = at_own_place before xs (after_item raw (Prototype l g) scope) (behind before (Prototype l g) xs scope (prototype_functions raw l g scope) refl s) j h at
  at_own_place before (Define l g body ∷ xs) scope s zero h at =
      let rules = kept_first raw (item_phrases raw (Define l g body) scope) (items_phrases raw xs (after_item raw (Define l g body) scope)) s.kept in
      let seam : take scope.functions (defined_functions raw) ≡ before = ap (λ (n : ℕ). take n (defined_functions raw)) s.count ∙ ap (take (length before)) s.all ∙ take-append_seam before (g ∷ function_texts xs) in
      let fresh : Fresh before g.name = λ k c e. rules.0 2 (Breaks.declared_again (DeclaresAgain.definition (k, subst (λ (hs : List RawHead). Contains hs k) (sym seam) c, e))) in
      let is : g ≡ h = same_Some _ _ at in
      let first : position (named g.name) (g ∷ function_texts xs) ≡ Some 0 =
      position-cons (named g.name) g (function_texts xs) ∙ ap (λ (b : Bool). cond b (Some 0) (option_map suc (position (named g.name) (function_texts xs)))) (own_name g.name)
      in
      subst (λ (k : RawHead). function_id raw k.name ≡ Some (length before + 0)) is
      (ap (position (named g.name)) s.all ∙ behind_fresh before (g ∷ function_texts xs) g.name fresh ∙ ap (option_map (λ (n : ℕ). length before + n)) first)
  at_own_place before (Define l g body ∷ xs) scope s (suc j) h at =
      let long : length (before ++ g ∷ []) ≡ length before + 1 = length-append before (g ∷ []) in
      let more = define_functions raw l g body scope in
      let one = s.count in
      let next : Stood (before ++ g ∷ []) xs (after_item raw (Define l g body) scope) = record {
        kept = kept_second raw (item_phrases raw (Define l g body) scope) (items_phrases raw xs (after_item raw (Define l g body) scope)) s.kept;
        count = omega (arith, long, more, one);
        all = s.all ∙ sym (append_assoc before (g ∷ []) (function_texts xs));
      }
      in
      let e : length (before ++ g ∷ []) + j ≡ length before + suc j = omega (arith, long) in
      at_own_place (before ++ g ∷ []) xs (after_item raw (Define l g body) scope) next j h at ∙ ap Some e

-- the function with a number is found by its name
pub found_again : (raw : RawProgram) → KeepsRules raw → (i : ℕ) (h : RawHead) → slice_get (defined_functions raw) i ≡ Some h → function_id raw h.name ≡ Some i
found_again raw rules i h at =
    let none : 0 + i ≡ i = omega arith in
    at_own_place raw [] raw.items outset (record { kept = phrases_kept raw rules; count = refl; all = refl }) i h at ∙ ap Some none

-- no function of a text has a name of the library
own_head : (raw : RawProgram) (xs : List RawItem) (scope : Scope) → AreKept raw (items_phrases raw xs scope) → (j : ℕ) (h : RawHead) → slice_get (function_texts xs) j ≡ Some h → is_library_name h.name ≡ false
own_head raw [] scope kept j h at = none_at j h at
own_head raw (Include b ∷ xs) scope kept j h at = own_head raw xs scope (kept_second raw (item_phrases raw (Include b) scope) (items_phrases raw xs scope) kept) j h at
own_head raw (Tag l w ∷ xs) scope kept j h at = own_head raw xs scope (kept_second raw (item_phrases raw (Tag l w) scope) (items_phrases raw xs scope) kept) j h at
own_head raw (Struct l w ms ∷ xs) scope kept j h at =
    let next = after_item raw (Struct l w ms) scope in own_head raw xs next (kept_second raw (item_phrases raw (Struct l w ms) scope) (items_phrases raw xs next) kept) j h at
own_head raw (Global l v i st ∷ xs) scope kept j h at =
    let next = after_item raw (Global l v i st) scope in own_head raw xs next (kept_second raw (item_phrases raw (Global l v i st) scope) (items_phrases raw xs next) kept) j h at
own_head raw (Prototype l g ∷ xs) scope kept j h at =
    let next = after_item raw (Prototype l g) scope in own_head raw xs next (kept_second raw (item_phrases raw (Prototype l g) scope) (items_phrases raw xs next) kept) j h at
own_head raw (Define l g body ∷ xs) scope kept zero h at = subst (λ (k : RawHead). is_library_name k.name ≡ false) (same_Some _ _ at) (by_name (is_library_name g.name) refl)
  where
    by_name : (b : Bool) → is_library_name g.name ≡ b → is_library_name g.name ≡ false
    by_name true q = absurd (kept.0 4 (Breaks.library_name (DeclaresLibraryName.function q)))
    by_name false q = q
own_head raw (Define l g body ∷ xs) scope kept (suc j) h at =
    let next = after_item raw (Define l g body) scope in own_head raw xs next (kept_second raw (item_phrases raw (Define l g body) scope) (items_phrases raw xs next) kept) j h at

-- a function of the library is called by its name
pub library_is : (f : Bytes) → is_library_function f ≡ true → is_library_name f ≡ true
library_is f h =
    or_right (bytes_eq f (codes "malloc")) _ (or_right (bytes_eq f (codes "NULL")) _ (or_right (bytes_eq f (codes "EOF")) (is_library_function f) h))

-- so no function of the library is one of a text
pub no_library : (raw : RawProgram) → KeepsRules raw → (f : Bytes) → is_library_function f ≡ true → function_id raw f ≡ None
no_library raw rules f h = by_number (function_id raw f) refl
  where
    by_number : (o : Option ℕ) → function_id raw f ≡ o → function_id raw f ≡ None
    by_number None is = is
    by_number (Some i) is =
        let found = position_found (named f) (defined_functions raw) i is in
        let own = own_head raw raw.items outset (phrases_kept raw rules) i found.value found.at in
        false_true (sym own ∙ ap is_library_name (same_bytes found.value.name f found.passes) ∙ library_is f h)
