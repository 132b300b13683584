-- The numbers of the functions that are kept.
use Rattle.std.proofs.Common.{◌≡◌, ℕ, zero, suc, List, [], ◌∷◌, Bool, true, false, cond, Option, Some, None, option_map, position, slice_get, refl, sym, ap, ap₂, ◌∙◌}
use Rattle.std.specs.Prelude.{bytes_eq, if◌then◌else◌}
use Rattle.c_tree.specs.declared.raw.program.RawHead.{RawHead}
use Rattle.c_tree.specs.declared.raw.program.RawItem.{RawItem}
use Rattle.c_tree.specs.declared.raw.program.RawProgram.{RawProgram}
use Rattle.c_language.specs.Words.{Bytes}
use Rattle.c_language.specs.DeclaredTypes.{function_texts, defined_functions, function_id}
use Rattle.c_language.specs.Scopes.{Scope, outset}
use Rattle.c_language.proofs.Options.{none_there, some_same}
use Rattle.c_language.proofs.Tests.{false_true}
use Rattle.c_language.proofs.Lists.{position-cons, same_bytes}
use Rattle.kept_numbers.specs.Ranks.{rank}
use Rattle.projection.specs.Kept.{Kept}
use Rattle.c_scope_laws.specs.Agreement.{head_left}
use Rattle.c_scope_laws.specs.Thinning.{heads_of}
use Rattle.c_scope_laws.specs.Following.{kept_head, kept_functions}
use Rattle.c_scope_laws.specs.ThinTexts.{ItemsThin}

-- these are the numbers of the functions that are kept
pub record FunctionNumbers (k : Kept Bytes) (raw other : RawProgram) (test : ℕ → Bool) : Type 0 where
  pub ids : (x : Bytes) → k.function x ≡ true → function_id other x ≡ option_map (rank test) (function_id raw x)
  pub tests : (x : Bytes) (i : ℕ) → function_id raw x ≡ Some i → test i ≡ k.function x
  pub places : (i : ℕ) (h : RawHead) → slice_get (defined_functions raw) i ≡ Some h → test i ≡ k.function h.name
  pub heads : (x : Bytes) (i : ℕ) → function_id raw x ≡ Some i → (h : RawHead) × (slice_get (defined_functions raw) i ≡ Some h) × (h.name ≡ x)

-- a rank, from the number behind the first
rank-behind : (test : ℕ → Bool) (n : ℕ) → rank test (suc n) ≡ (if test 0 then suc (rank (λ m. test (suc m)) n) else rank (λ m. test (suc m)) n)
rank-behind test zero = refl
rank-behind test (suc n) =
    ap (λ (r : ℕ). if test (suc n) then suc r else r) (rank-behind test n) ∙ by_tests (test (suc n)) (test 0) (rank (λ m. test (suc m)) n)
  where
    by_tests : (a b : Bool) (r : ℕ) → (if a then suc (if b then suc r else r) else (if b then suc r else r)) ≡ (if b then suc (if a then suc r else r) else (if a then suc r else r))
    by_tests true true r = refl
    by_tests true false r = refl
    by_tests false true r = refl
    by_tests false false r = refl

module _ (k : Kept Bytes) where
  abbrev left : RawHead → RawHead
  left = head_left (heads_of k)

  -- what stays of the heads that stay
  kept_heads : List RawHead → List RawHead
  kept_heads [] = []
  kept_heads (h ∷ hs) = if k.function h.name then left h ∷ kept_heads hs else kept_heads hs

  heads_kept : (raw other : RawProgram) {scope : Scope} {xs ys : List RawItem} → ItemsThin k raw other scope xs ys → function_texts ys ≡ kept_heads (function_texts xs)
  unfolding kept_heads
  heads_kept raw other ItemsThin.none = refl
  heads_kept raw other (ItemsThin.include d) = heads_kept raw other d
  heads_kept raw other (ItemsThin.tag d) = heads_kept raw other d
  heads_kept raw other (ItemsThin.structure stay d) = heads_kept raw other d
  heads_kept raw other (ItemsThin.global is stay begin d) = heads_kept raw other d
  heads_kept raw other (ItemsThin.global_goes is d) = heads_kept raw other d
  heads_kept raw other (ItemsThin.prototype is d) = heads_kept raw other d
  heads_kept raw other (ItemsThin.prototype_goes is d) = heads_kept raw other d
  heads_kept raw other (ItemsThin.define {head} {rest} is ps body ends d) =
      ap (λ (hs : List RawHead). left head ∷ hs) (heads_kept raw other d) ∙ ap (λ (b : Bool). if b then left head ∷ kept_heads (function_texts rest) else kept_heads (function_texts rest)) (sym is)
  heads_kept raw other (ItemsThin.define_goes {head} {rest} is ps body d) =
      heads_kept raw other d ∙ ap (λ (b : Bool). if b then left head ∷ kept_heads (function_texts rest) else kept_heads (function_texts rest)) (sym is)

  abbrev named : Bytes → RawHead → Bool
  named x h = bytes_eq h.name x

  abbrev tests_of : List RawHead → ℕ → Bool
  tests_of hs i = kept_head k (slice_get hs i)

  -- the place of a head that stays, among those that stay
  places_kept : (x : Bytes) → k.function x ≡ true → (hs : List RawHead) → position (named x) (kept_heads hs) ≡ option_map (rank (tests_of hs)) (position (named x) hs)
  unfolding kept_heads
  places_kept x is [] = refl
  places_kept x is (h ∷ hs) = by_name (bytes_eq h.name x) refl (k.function h.name) refl (places_kept x is hs)
    where
      behind : (o : Option ℕ) → option_map (rank (tests_of (h ∷ hs))) (option_map suc o) ≡ option_map (λ (n : ℕ). if k.function h.name then suc (rank (tests_of hs) n) else rank (tests_of hs) n) o
      behind None = refl
      behind (Some n) = ap Some (rank-behind (tests_of (h ∷ hs)) n)

      sucs : (o : Option ℕ) → option_map suc (option_map (rank (tests_of hs)) o) ≡ option_map (λ (n : ℕ). suc (rank (tests_of hs) n)) o
      sucs None = refl
      sucs (Some n) = refl

      right : (b : Bool) → bytes_eq h.name x ≡ b → option_map (rank (tests_of (h ∷ hs))) (position (named x) (h ∷ hs)) ≡ option_map (rank (tests_of (h ∷ hs))) (cond b (Some 0) (option_map suc (position (named x) hs)))
      right b same = ap (option_map (rank (tests_of (h ∷ hs)))) (position-cons (named x) h hs ∙ ap (λ (c : Bool). cond c (Some 0) (option_map suc (position (named x) hs))) same)

      by_name : (b : Bool) → bytes_eq h.name x ≡ b → (c : Bool) → k.function h.name ≡ c → position (named x) (kept_heads hs) ≡ option_map (rank (tests_of hs)) (position (named x) hs)
          → position (named x) (if k.function h.name then left h ∷ kept_heads hs else kept_heads hs) ≡ option_map (rank (tests_of (h ∷ hs))) (position (named x) (h ∷ hs))
      by_name true same true kept later =
          ap (λ (c : Bool). position (named x) (if c then left h ∷ kept_heads hs else kept_heads hs)) kept ∙ position-cons (named x) (left h) (kept_heads hs) ∙ ap (λ (c : Bool). cond c (Some 0) (option_map suc (position (named x) (kept_heads hs)))) same
          ∙ sym (right true same)
      by_name true same false gone later = false_true (sym gone ∙ ap k.function (same_bytes h.name x same) ∙ is)
      by_name false differs true kept later =
          ap (λ (c : Bool). position (named x) (if c then left h ∷ kept_heads hs else kept_heads hs)) kept ∙ position-cons (named x) (left h) (kept_heads hs) ∙ ap (λ (c : Bool). cond c (Some 0) (option_map suc (position (named x) (kept_heads hs)))) differs
          ∙ ap (option_map suc) later ∙ sucs (position (named x) hs)
          ∙ sym (right false differs ∙ behind (position (named x) hs) ∙ ap (λ (c : Bool). option_map (λ (n : ℕ). if c then suc (rank (tests_of hs) n) else rank (tests_of hs) n) (position (named x) hs)) kept)
      by_name false differs false gone later =
          ap (λ (c : Bool). position (named x) (if c then left h ∷ kept_heads hs else kept_heads hs)) gone ∙ later
          ∙ sym (right false differs ∙ behind (position (named x) hs) ∙ ap (λ (c : Bool). option_map (λ (n : ℕ). if c then suc (rank (tests_of hs) n) else rank (tests_of hs) n) (position (named x) hs)) gone ∙ same_map (position (named x) hs))
        where
          same_map : (o : Option ℕ) → option_map (λ (n : ℕ). rank (tests_of hs) n) o ≡ option_map (rank (tests_of hs)) o
          same_map None = refl
          same_map (Some n) = refl

  -- the head at a place that is found
  head_found : (x : Bytes) (hs : List RawHead) (i : ℕ) → position (named x) hs ≡ Some i → (h : RawHead) × (slice_get hs i ≡ Some h) × (h.name ≡ x)
  head_found x [] i at = none_there at
  head_found x (h ∷ hs) i at = by_name (bytes_eq h.name x) refl (position (named x) hs) refl (λ j p. head_found x hs j p) (sym (position-cons (named x) h hs) ∙ at)
    where
      by_name : (b : Bool) → bytes_eq h.name x ≡ b → (o : Option ℕ) → position (named x) hs ≡ o → ((j : ℕ) → position (named x) hs ≡ Some j → (h : RawHead) × (slice_get hs j ≡ Some h) × (h.name ≡ x))
          → cond (bytes_eq h.name x) (Some 0) (option_map suc (position (named x) hs)) ≡ Some i → (g : RawHead) × (slice_get (h ∷ hs) i ≡ Some g) × (g.name ≡ x)
      by_name true same o p later at =
          (h, ap (slice_get (h ∷ hs)) (sym (some_same (sym (ap (λ (c : Bool). cond c (Some 0) (option_map suc (position (named x) hs))) same) ∙ at))), same_bytes h.name x same)
      by_name false differs None p later at =
          none_there (sym (ap₂ (λ (c : Bool) (o : Option ℕ). cond c (Some 0) (option_map suc o)) differs p) ∙ at)
      by_name false differs (Some j) p later at =
          let r = later j p in
          (r.0, ap (slice_get (h ∷ hs)) (sym (some_same (sym (ap₂ (λ (c : Bool) (o : Option ℕ). cond c (Some 0) (option_map suc o)) differs p) ∙ at))) ∙ r.1, r.2)

  found_place : (x : Bytes) (hs : List RawHead) (i : ℕ) → position (named x) hs ≡ Some i → tests_of hs i ≡ k.function x
  found_place x hs i at = let r = head_found x hs i at in ap (kept_head k) r.1 ∙ ap k.function r.2

  pub numbers_kept : (raw other : RawProgram) → ItemsThin k raw other outset raw.items other.items → FunctionNumbers k raw other (kept_functions k raw)
  numbers_kept raw other d = record {
    ids = λ x is. ap (position (named x)) (heads_kept raw other d) ∙ places_kept x is (defined_functions raw);
    tests = λ x i at. found_place x (defined_functions raw) i at;
    places = λ i h at. ap (kept_head k) at;
    heads = λ x i at. head_found x (defined_functions raw) i at;
  }
