-- What is read as an expression is one.
use Rattle.std.proofs.Common.{◌≡◌, ℕ, zero, suc, ◌+◌, ◌≤◌, ◌<◌, [], ◌∷◌, length, drop, refl, sym, ap, subst, ◌∙◌, arith, true, false, not, ◌&&◌, ◌||◌, Option, Some, None, Ok, codes, nat_le, nat_lt, inl, inr}
use Rattle.std.specs.Str.{bytes_eq}
use Rattle.std.specs.Option.{option_map, option_or}
use Rattle.std.proofs.lemmas.Bool.{ltb-true, leb-true, leb-false, cases_Bool, cases_lt, and_parts, not-true}
use Rattle.std.proofs.lemmas.Option.{same_Some}
use Rattle.c_tree.specs.declared.raw.expr.RawExpr.{RawExpr}
use Rattle.c_tree.specs.declared.raw.expr.RawExpr.TheVariants as e
use Rattle.c_language.specs.Words.{Bytes}
use Rattle.c_language.specs.TokenForms.{Tokens, name, number, character, mark}
use Rattle.c_language.specs.Sees.{sees, is_kind, is_keyword}
use Rattle.c_language.specs.IntWords.{IsIntType, sees_int_word}
use Rattle.c_language.specs.ExprGrammar.{level, sign, prefix_sign, selector_sign, is_plain_name, IsExpr, number_constant, character_constant, null, eof, variable, paren, index, member, unary, cast, binary, choose}
use Rattle.c_language.specs.Nesting.{nesting}
use Rattle.c_language.specs.declared.token.TokenKind.TheVariants.{Name, Number, Character, Mark}
use Rattle.c_language.specs.declared.operators.Infix.{Infix}
use Rattle.c_language.specs.declared.operators.Prefix.{Prefix}
use Rattle.c_language.proofs.NestingLemmas.{nesting-Constant, nesting-Null, nesting-Eof, nesting-Variable, nesting-Paren, nesting-Cast, nesting-Index, nesting-Choose, nesting-joint, nesting-applied, nesting-selected}
use Rattle.c_parse_expr.specs.declared.extension.Extension.{Extension}
use Rattle.c_parse_expr.specs.declared.extension.Extension.TheVariants.{Operator, Question, Bracket, Select}
use Rattle.c_parse_expr.specs.Outcome.{Parser, by_option, expect}
use Rattle.c_parse_expr.specs.IntReading.{int_type_name}
use Rattle.c_parse_expr.specs.ExprReading.{logical, comparison, arithmetic, infix_by, extension_by, multiplies_size, extension, extension_level, at_least, extension_from, prefix_by, prefix_at, named, atom, read_member, parenthesized, converted, signed, prefix, with_operand, with_choice, with_index, extended_by, extended, climb, expression_with, nested, expression}
use Rattle.c_parse_words.proofs.SeenTokens.{of_kind_is, by_seen}
use Rattle.c_parse_expr.proofs.Tests.{by_step, by_choice, by_expect, by_member, with_parts}
use Rattle.c_parse_expr.proofs.IntLaws.{int_type_sound}
use Rattle.c_parse_expr.proofs.ExprLaws.{shorter, head_level, level_by, level_low, level_high}
use Rattle.c_language.proofs.Lists.{same_bytes}
use Rattle.c_language.proofs.Tests.{by_test}

pub weaken : {m : ℕ} {ts rest : Tokens} {a : RawExpr} → IsExpr m ts a rest → (n : ℕ) → n ≤ m → IsExpr n ts a rest
weaken number_constant n p = number_constant
weaken character_constant n p = character_constant
weaken null n p = null
weaken eof n p = eof
weaken (variable h) n p = variable h
weaken (paren h) n p = paren h
weaken (index q h j) n p = index (omega arith) h j
weaken (member by q h j) n p = member by (omega arith) h j
weaken (unary op q h) n p = unary op (omega arith) h
weaken (cast q h j) n p = cast (omega arith) h j
weaken (binary op q h j) n p = binary op (omega arith) h j
weaken (choose q h j i) n p = choose (omega arith) h j i

-- ---- operators told by their marks

abbrev pub extension_sign : Extension → Bytes
extension_sign (Operator op) = sign op
extension_sign Question = codes "?"
extension_sign Bracket = codes "["
extension_sign (Select by) = selector_sign by

by_or : {A G : Type 0} {x : A} (o p : Option A) → option_or o p ≡ Some x → (o ≡ Some x → G) → (p ≡ Some x → G) → G
by_or None p h one two = two h
by_or (Some y) p h one two = one h

logical_told : (w : Bytes) (op : Infix) → logical w ≡ Some op → w ≡ sign op
unfolding logical
logical_told w op h =
    by_test (bytes_eq w (codes "||")) h (λ is h. same_bytes w _ is ∙ ap sign (same_Some _ _ h)) (λ _ h.
    by_test (bytes_eq w (codes "&&")) h (λ is h. same_bytes w _ is ∙ ap sign (same_Some _ _ h)) (λ _ h.
    by_test (bytes_eq w (codes "|")) h (λ is h. same_bytes w _ is ∙ ap sign (same_Some _ _ h)) (λ _ h.
    by_test (bytes_eq w (codes "^")) h (λ is h. same_bytes w _ is ∙ ap sign (same_Some _ _ h)) (λ _ h.
    by_test (bytes_eq w (codes "&")) h (λ is h. same_bytes w _ is ∙ ap sign (same_Some _ _ h)) (λ _ h. absurd cc)))))

comparison_told : (w : Bytes) (op : Infix) → comparison w ≡ Some op → w ≡ sign op
unfolding comparison
comparison_told w op h =
    by_test (bytes_eq w (codes "==")) h (λ is h. same_bytes w _ is ∙ ap sign (same_Some _ _ h)) (λ _ h.
    by_test (bytes_eq w (codes "!=")) h (λ is h. same_bytes w _ is ∙ ap sign (same_Some _ _ h)) (λ _ h.
    by_test (bytes_eq w (codes "<")) h (λ is h. same_bytes w _ is ∙ ap sign (same_Some _ _ h)) (λ _ h.
    by_test (bytes_eq w (codes ">")) h (λ is h. same_bytes w _ is ∙ ap sign (same_Some _ _ h)) (λ _ h.
    by_test (bytes_eq w (codes "<=")) h (λ is h. same_bytes w _ is ∙ ap sign (same_Some _ _ h)) (λ _ h.
    by_test (bytes_eq w (codes ">=")) h (λ is h. same_bytes w _ is ∙ ap sign (same_Some _ _ h)) (λ _ h. absurd cc))))))

arithmetic_told : (w : Bytes) (op : Infix) → arithmetic w ≡ Some op → w ≡ sign op
unfolding arithmetic
arithmetic_told w op h =
    by_test (bytes_eq w (codes "<<")) h (λ is h. same_bytes w _ is ∙ ap sign (same_Some _ _ h)) (λ _ h.
    by_test (bytes_eq w (codes ">>")) h (λ is h. same_bytes w _ is ∙ ap sign (same_Some _ _ h)) (λ _ h.
    by_test (bytes_eq w (codes "+")) h (λ is h. same_bytes w _ is ∙ ap sign (same_Some _ _ h)) (λ _ h.
    by_test (bytes_eq w (codes "-")) h (λ is h. same_bytes w _ is ∙ ap sign (same_Some _ _ h)) (λ _ h.
    by_test (bytes_eq w (codes "*")) h (λ is h. same_bytes w _ is ∙ ap sign (same_Some _ _ h)) (λ _ h.
    by_test (bytes_eq w (codes "/")) h (λ is h. same_bytes w _ is ∙ ap sign (same_Some _ _ h)) (λ _ h.
    by_test (bytes_eq w (codes "%")) h (λ is h. same_bytes w _ is ∙ ap sign (same_Some _ _ h)) (λ _ h. absurd cc)))))))

infix_told : (w : Bytes) (op : Infix) → infix_by w ≡ Some op → w ≡ sign op
unfolding infix_by
infix_told w op h = by_or (logical w) _ h (logical_told w op) (λ h. by_or (comparison w) _ h (comparison_told w op) (arithmetic_told w op))

operator_told : (w : Bytes) (o : Option Infix) (x : Extension) → ((op : Infix) → o ≡ Some op → w ≡ sign op) → option_map Operator o ≡ Some x → w ≡ extension_sign x
operator_told w None x told h = absurd cc
operator_told w (Some op) x told h = told op refl ∙ ap extension_sign (same_Some _ _ h)

extension_told : (w : Bytes) (x : Extension) → extension_by w ≡ Some x → w ≡ extension_sign x
unfolding extension_by
extension_told w x h =
    by_test (bytes_eq w (codes "[")) h (λ is h. same_bytes w _ is ∙ ap extension_sign (same_Some _ _ h)) (λ _ h.
    by_test (bytes_eq w (codes ".")) h (λ is h. same_bytes w _ is ∙ ap extension_sign (same_Some _ _ h)) (λ _ h.
    by_test (bytes_eq w (codes "->")) h (λ is h. same_bytes w _ is ∙ ap extension_sign (same_Some _ _ h)) (λ _ h.
    by_test (bytes_eq w (codes "?")) h (λ is h. same_bytes w _ is ∙ ap extension_sign (same_Some _ _ h)) (λ _ h.
    operator_told w (infix_by w) x (infix_told w) h))))

abbrev Begins : Bytes → Tokens → Type 0
Begins text ts = (l : ℕ) × (mid : Tokens) × (ts ≡ mark text l ∷ mid)

-- the mark of the extension is in front
pub extension_is : (x : Extension) (ts : Tokens) → extension ts ≡ Some x → Begins (extension_sign x) ts
unfolding extension
extension_is x [] h = by_test (multiplies_size []) h (λ _ h. absurd cc) (λ _ h. absurd cc)
extension_is x (t ∷ ts) h =
    by_test (multiplies_size (t ∷ ts)) h (λ _ h. absurd cc) (λ _ h.
    by_test (is_kind Mark t) h
    (λ is h. (t.line, ts, ap (λ u. u ∷ ts) (sym (of_kind_is Mark t is)) ∙ ap (λ w. mark w t.line ∷ ts) (extension_told t.text x h)))
    (λ _ h. absurd cc))

prefix_told : (w : Bytes) (op : Prefix) → prefix_by w ≡ Some op → w ≡ prefix_sign op
unfolding prefix_by
prefix_told w op h =
    by_test (bytes_eq w (codes "+")) h (λ is h. same_bytes w _ is ∙ ap prefix_sign (same_Some _ _ h)) (λ _ h.
    by_test (bytes_eq w (codes "-")) h (λ is h. same_bytes w _ is ∙ ap prefix_sign (same_Some _ _ h)) (λ _ h.
    by_test (bytes_eq w (codes "~")) h (λ is h. same_bytes w _ is ∙ ap prefix_sign (same_Some _ _ h)) (λ _ h.
    by_test (bytes_eq w (codes "!")) h (λ is h. same_bytes w _ is ∙ ap prefix_sign (same_Some _ _ h)) (λ _ h.
    by_test (bytes_eq w (codes "*")) h (λ is h. same_bytes w _ is ∙ ap prefix_sign (same_Some _ _ h)) (λ _ h.
    by_test (bytes_eq w (codes "&")) h (λ is h. same_bytes w _ is ∙ ap prefix_sign (same_Some _ _ h)) (λ _ h. absurd cc))))))

pub prefix_op_is : (op : Prefix) (ts : Tokens) → prefix_at ts ≡ Some op → Begins (prefix_sign op) ts
unfolding prefix_at
prefix_op_is op [] h = absurd cc
prefix_op_is op (t ∷ ts) h =
    by_test (is_kind Mark t) h
    (λ is h. (t.line, ts, ap (λ u. u ∷ ts) (sym (of_kind_is Mark t is)) ∙ ap (λ w. mark w t.line ∷ ts) (prefix_told t.text op h)))
    (λ _ h. absurd cc)

by_tight : {A G : Type 0} {z : A} (n : ℕ) (o : Option Extension) (stay : A) (go : Extension → A) → 1 ≤ n → by_option (at_least n o) stay go ≡ z
    → (level_by o < n → stay ≡ z → G) → ((x : Extension) → o ≡ Some x → n ≤ extension_level x → go x ≡ z → G) → G
by_tight n None stay go some h left taken = left (omega arith) h
by_tight n (Some x) stay go some h left taken = elim (cases_Bool (nat_le n (extension_level x))) [
  | inl t ↦ taken x refl (leb-true n (extension_level x) t) (rw t at h)
  | inr f ↦ left (leb-false n (extension_level x) f) (rw f at h)
]

pub by_extension : {A G : Type 0} {z : A} (n : ℕ) (ts : Tokens) (stay : A) (go : Extension → A) → 1 ≤ n → by_option (extension_from n ts) stay go ≡ z
    → (head_level ts < n → stay ≡ z → G) → ((x : Extension) → extension ts ≡ Some x → n ≤ extension_level x → go x ≡ z → G) → G
unfolding extension_from
by_extension n ts stay go some h left taken = by_tight n (extension ts) stay go some h left taken

-- ---- expressions

-- what a parser gives for an expression that nests less deep than the bound
pub record Sound (n limit : ℕ) (ts : Tokens) (a : RawExpr) (rest : Tokens) : Type 0 where
  pub is : IsExpr n ts a rest
  pub loose : head_level rest < n
  pub low : nesting a < limit

-- each level up to that of a cast's operand
abbrev pub IsSound : ℕ → (ℕ → Parser RawExpr) → Type 0
IsSound limit parser = (n : ℕ) (ts : Tokens) (a : RawExpr) (rest : Tokens) → 1 ≤ n → n ≤ 12 → parser n ts ≡ Ok (a, rest) → Sound n limit ts a rest

-- what is read so far of an expression that binds as tightly as n: it binds as tightly as it says, and what follows binds no tighter
pub record Front (d n : ℕ) (ts : Tokens) (a : RawExpr) (rest : Tokens) : Type 0 where
  pub tight : ℕ
  pub is : IsExpr tight ts a rest
  pub above : n ≤ tight
  pub loose : head_level rest ≤ tight
  pub ends : tight ≤ 1 → head_level rest ≡ 0
  pub low : nesting a ≤ d

any_level : (o : Option Extension) → level_by o ≤ 14
any_level None = omega arith
any_level (Some (Operator op)) = let q = level_low op in omega (arith, q)
any_level (Some Question) = omega arith
any_level (Some Bracket) = omega arith
any_level (Some (Select by)) = omega arith

level_some : (x : Extension) → 1 ≤ extension_level x
level_some (Operator op) = let q = level_high op in omega (arith, q)
level_some Question = omega arith
level_some Bracket = omega arith
level_some (Select by) = omega arith

no_extension : head_level [] ≡ 0
unfolding extension multiplies_size sees
no_extension = refl

-- a primary expression, whatever follows
primary : (d n : ℕ) (ts : Tokens) (a : RawExpr) (rest : Tokens) → n ≤ 15 → IsExpr 15 ts a rest → nesting a ≤ d → Front d n ts a rest
primary d n ts a rest p is low = record { tight = 15; is = is; above = p; loose = let q = any_level (extension rest) in omega (arith, q); ends = λ q. absurd (omega arith); low = low }

named_front : (d n : ℕ) (w : Bytes) (l : ℕ) (ts : Tokens) → n ≤ 15 → is_keyword w ≡ false → Front d n (name w l ∷ ts) (named w) ts
unfolding is_plain_name
named_front d n w l ts p free = elim (cases_Bool (bytes_eq w (codes "NULL"))) [
  | inl is ↦ rw is (subst (λ (u : Bytes). Front d n (name u l ∷ ts) e.Null ts) (sym (same_bytes w (codes "NULL") is)) (primary d n _ _ ts p null (omega (arith, nesting-Null))))
  | inr isnt ↦ rw isnt (elim (cases_Bool (bytes_eq w (codes "EOF"))) [
    | inl is ↦ rw is (subst (λ (u : Bytes). Front d n (name u l ∷ ts) e.Eof ts) (sym (same_bytes w (codes "EOF") is)) (primary d n _ _ ts p eof (omega (arith, nesting-Eof))))
    | inr other ↦ rw other (primary d n _ _ ts p (variable (rw (free, isnt, other) refl)) (omega (arith, nesting-Variable w)))
  ])
]

pub atom_is : (d : ℕ) (ts : Tokens) (a : RawExpr) (rest : Tokens) (n : ℕ) → n ≤ 15 → atom ts ≡ Ok (a, rest) → Front d n ts a rest
unfolding atom
atom_is d [] a rest n p h = absurd cc
atom_is d (t ∷ ts) a rest n p h =
    by_test (is_kind Number t || is_kind Character t) h
    (λ is h. elim (cases_Bool (is_kind Number t)) [
      | inl yes_number ↦ subst (λ u. Front d n (u ∷ ts) a rest) (of_kind_is Number t yes_number)
          (with_parts (λ b r. Front d n (number t.text t.line ∷ ts) b r) h (primary d n _ _ ts p number_constant (omega (arith, nesting-Constant t.text))))
      | inr no_number ↦
          let other : is_kind Character t ≡ true = rw no_number at is in
          subst (λ u. Front d n (u ∷ ts) a rest) (of_kind_is Character t other)
          (with_parts (λ b r. Front d n (character t.text t.line ∷ ts) b r) h (primary d n _ _ ts p character_constant (omega (arith, nesting-Constant t.text))))
    ])
    (λ _ h. by_test (is_kind Name t && not (is_keyword t.text)) h
    (λ is h.
    let parts = and_parts (is_kind Name t) (not (is_keyword t.text)) is in
    subst (λ u. Front d n (u ∷ ts) a rest) (of_kind_is Name t parts.0)
    (with_parts (λ b r. Front d n (name t.text t.line ∷ ts) b r) h (named_front d n t.text t.line ts p (not-true (is_keyword t.text) parts.1))))
    (λ _ h. absurd cc))

module _ (deeper : ℕ → Parser RawExpr) (d : ℕ) (sound : IsSound d deeper) where
  parenthesized_is : (l : ℕ) (ts : Tokens) (a : RawExpr) (rest : Tokens) (n : ℕ) → n ≤ 12 → parenthesized deeper ts ≡ Ok (a, rest) → Front d n (mark (codes "(") l ∷ ts) a rest
  unfolding parenthesized
  parenthesized_is l ts a rest n p h =
      by_step (deeper 1 ts) _ h (λ x mid went h.
      by_step (expect (codes ")") mid) _ h (λ u after closed h.
      by_expect (codes ")") mid after u closed (λ k at.
      let s : Sound 1 d ts x mid = sound 1 ts x mid (omega arith) (omega arith) went in
      let inner : IsExpr 1 ts x (mark (codes ")") k ∷ after) = rw at at s.is in
      with_parts (λ b r. Front d n (mark (codes "(") l ∷ ts) b r) h
      (primary d n _ _ after (omega arith) (paren inner) (omega (arith, nesting-Paren x, s.low))))))

  converted_is : (l : ℕ) (ts : Tokens) (a : RawExpr) (rest : Tokens) (n : ℕ) → n ≤ 12 → converted deeper ts ≡ Ok (a, rest) → Front d n (mark (codes "(") l ∷ ts) a rest
  unfolding converted
  converted_is l ts a rest n p h =
      by_step (int_type_name ts) _ h (λ t mid words h.
      by_step (expect (codes ")") mid) _ h (λ u after closed h.
      by_expect (codes ")") mid after u closed (λ k at.
      by_step (deeper 12 after) _ h (λ x behind went h.
      let s : Sound 12 d after x behind = sound 12 after x behind (omega arith) (omega arith) went in
      let type_is : IsIntType ts t (mark (codes ")") k ∷ after) = subst (λ (r : Tokens). IsIntType ts t r) at (int_type_sound ts mid t words) in
      with_parts (λ b r. Front d n (mark (codes "(") l ∷ ts) b r) h
      (record { tight = 12; is = cast (omega arith) type_is s.is; above = p; loose = omega (arith, s.loose); ends = λ q. absurd (omega arith); low = omega (arith, nesting-Cast t x, s.low) })))))

  signed_is : (op : Prefix) (l : ℕ) (ts : Tokens) (a : RawExpr) (rest : Tokens) (n : ℕ) → n ≤ 12 → signed deeper op ts ≡ Ok (a, rest) → Front d n (mark (prefix_sign op) l ∷ ts) a rest
  unfolding signed
  signed_is op l ts a rest n p h =
      by_step (deeper 12 ts) _ h (λ x after went h.
      let s : Sound 12 d ts x after = sound 12 ts x after (omega arith) (omega arith) went in
      with_parts (λ b r. Front d n (mark (prefix_sign op) l ∷ ts) b r) h
      (record { tight = 13; is = unary op (omega arith) s.is; above = omega arith; loose = omega (arith, s.loose); ends = λ q. absurd (omega arith); low = omega (arith, nesting-applied op x, s.low) }))

  pub prefix_is : (ts : Tokens) (a : RawExpr) (rest : Tokens) (n : ℕ) → n ≤ 12 → prefix deeper ts ≡ Ok (a, rest) → Front d n ts a rest
  unfolding prefix
  prefix_is ts a rest n p h =
      by_test (sees Mark (codes "(") ts) h
      (λ is h. by_seen Mark (codes "(") ts is (λ l mid at.
      let e : drop 1 ts ≡ mid = ap (drop 1) at in
      by_test (sees_int_word (drop 1 ts)) h
      (λ _ h. rw at (converted_is l mid a rest n p (rw e at h)))
      (λ _ h. rw at (parenthesized_is l mid a rest n p (rw e at h)))))
      (λ _ h. by_choice (prefix_at ts) (atom ts) _ h
      (λ _ h. atom_is d ts a rest n (omega arith) h)
      (λ op at h. let s = prefix_op_is op ts at in rw s.2 (signed_is op s.0 s.1 a rest n p (rw s.2 at h))))

  -- one more extension
  abbrev Grown : ℕ → Tokens → Tokens → RawExpr → Tokens → Type 0
  Grown n start mid c after = Front d n start c after × (length after < suc (length mid))

  extended_by_is : (n : ℕ) (start : Tokens) (x : Extension) (a c : RawExpr) (l : ℕ) (mid after : Tokens) → n ≤ extension_level x → extension_level x ≤ 14
      → (q : Front d n start a (mark (extension_sign x) l ∷ mid)) → extension_level x ≤ q.tight → 2 ≤ q.tight → nesting a < d
      → extended_by deeper x a mid ≡ Ok (c, after) → Grown n start mid c after
  unfolding extended_by with_operand with_choice with_index
  extended_by_is n start (Operator op) a c l mid after p high q tight some fits h =
      by_step (deeper (level op + 1) mid) _ h (λ b r went h.
      let below = level_low op in
      let above = level_high op in
      let s : Sound (level op + 1) d mid b r = sound (level op + 1) mid b r (omega arith) (omega (arith, below)) went in
      with_parts (Grown n start mid) h (
        record { tight = level op; is = binary op (omega arith) (weaken q.is (level op) tight) s.is; above = p; loose = omega (arith, s.loose); ends = λ q. absurd (omega (arith, above)); low = omega (arith, nesting-joint op a b, s.low) },
        omega (arith, shorter s.is),
      ))
  extended_by_is n start Question a c l mid after p high q tight some fits h =
      by_step (deeper 1 mid) _ h (λ b r went h.
      by_step (expect (codes ":") r) _ h (λ u next parted h.
      by_expect (codes ":") r next u parted (λ k at.
      by_step (deeper 1 next) _ h (λ b' r' went' h.
      let s : Sound 1 d mid b r = sound 1 mid b r (omega arith) (omega arith) went in
      let t : Sound 1 d next b' r' = sound 1 next b' r' (omega arith) (omega arith) went' in
      let first : IsExpr 1 mid b (mark (codes ":") k ∷ next) = rw at at s.is in
      with_parts (Grown n start mid) h (
        record { tight = 1; is = choose (omega arith) (weaken q.is 2 some) first t.is; above = p; loose = omega (arith, t.loose); ends = λ q. omega (arith, t.loose); low = omega (arith, nesting-Choose a b b', s.low, t.low) },
        omega (arith, shorter first, shorter t.is),
      )))))
  extended_by_is n start Bracket a c l mid after p high q tight some fits h =
      by_step (deeper 1 mid) _ h (λ i r went h.
      by_step (expect (codes "]") r) _ h (λ u r' closed h.
      by_expect (codes "]") r r' u closed (λ k at.
      let s : Sound 1 d mid i r = sound 1 mid i r (omega arith) (omega arith) went in
      let inner : IsExpr 1 mid i (mark (codes "]") k ∷ r') = rw at at s.is in
      let below = any_level (extension r') in
      with_parts (Grown n start mid) h (
        record { tight = 14; is = index (omega arith) (weaken q.is 14 tight) inner; above = p; loose = below; ends = λ q. absurd (omega arith); low = omega (arith, nesting-Index a i, s.low) },
        omega (arith, shorter inner),
      ))))
  extended_by_is n start (Select by) a c l mid after p high q tight some fits h =
      by_step (read_member mid) _ h (λ text r named_at h.
      by_member mid r text named_at (λ k free at.
      let left : IsExpr 14 start a (mark (selector_sign by) l ∷ name text k ∷ r) = subst (λ (m : Tokens). IsExpr 14 start a (mark (selector_sign by) l ∷ m)) at (weaken q.is 14 tight) in
      let below = any_level (extension r) in
      let long : length mid ≡ suc (length r) = ap length at in
      with_parts (Grown n start mid) h (
        record { tight = 14; is = member by (omega arith) left free; above = p; loose = below; ends = λ q. absurd (omega arith); low = omega (arith, nesting-selected by a text) },
        omega (arith, long),
      )))

  tight_enough : (n : ℕ) (start : Tokens) (x : Extension) (a : RawExpr) (ts : Tokens) → extension ts ≡ Some x → (q : Front d n start a ts) → (extension_level x ≤ q.tight) × (2 ≤ q.tight)
  tight_enough n start x a ts at q =
      let e : head_level ts ≡ extension_level x = ap level_by at in
      let some = level_some x in (
        omega (arith, q.loose, e),
        elim (cases_lt 1 q.tight) [
          | inl high ↦ omega arith
          | inr low ↦ absurd (let none = q.ends low in omega (arith, none, e, some))
        ],
      )

  pub extended_is : (n : ℕ) (start : Tokens) (x : Extension) (a c : RawExpr) (ts after : Tokens) → n ≤ extension_level x → extension ts ≡ Some x → Front d n start a ts
      → extended deeper d x a ts ≡ Ok (c, after) → Front d n start c after × (length after < length ts)
  unfolding extended
  extended_is n start x a c ts after p at q h =
      by_test (nat_lt (nesting a) d) h
      (λ is h.
      let s = extension_is x ts at in
      let tight = tight_enough n start x a ts at q in
      let high : extension_level x ≤ 14 = any_level (Some x) in
      let here : (q : Front d n start a (mark (extension_sign x) s.0 ∷ s.1)) × (extension_level x ≤ q.tight) × (2 ≤ q.tight) = subst (λ (u : Tokens). (q : Front d n start a u) × (extension_level x ≤ q.tight) × (2 ≤ q.tight)) s.2 (q, tight.0, tight.1) in
      let e : drop 1 ts ≡ s.1 = ap (drop 1) s.2 in
      let grown : Grown n start s.1 c after = extended_by_is n start x a c s.0 s.1 after p high here.0 here.1 here.2 (ltb-true (nesting a) d is) (rw e at h) in
      let long : length ts ≡ suc (length s.1) = ap length s.2 in
      (grown.0, omega (arith, grown.1, long)))
      (λ _ h. absurd cc)

  climb_is : (n : ℕ) (start : Tokens) (turns : ℕ) (a b : RawExpr) (ts rest : Tokens) → 1 ≤ n → n ≤ 12 → length ts ≤ turns → Front d n start a ts
      → climb deeper d n turns a ts ≡ Ok (b, rest) → Sound n (suc d) start b rest
  unfolding climb
  climb_is n start zero a b [] rest some below enough p h =
      with_parts (λ b r. Sound n (suc d) start b r) h (record { is = weaken p.is n p.above; loose = omega (arith, no_extension); low = omega (arith, p.low) })
  climb_is n start zero a b (t ∷ ts) rest some below enough p h = absurd (omega arith)
  climb_is n start (suc turns) a b ts rest some below enough p h =
      by_extension n ts (Ok (a, ts)) _ some h
      (λ loose h. with_parts (λ b r. Sound n (suc d) start b r) h (record { is = weaken p.is n p.above; loose = loose; low = omega (arith, p.low) }))
      (λ x at above h. by_step (extended deeper d x a ts) _ h (λ c after went h.
      let q = extended_is n start x a c ts after above at p went in
      climb_is n start turns c b after rest some below (omega (arith, q.1)) q.0 h))

  expression_is : (n : ℕ) (ts : Tokens) (a : RawExpr) (rest : Tokens) → 1 ≤ n → n ≤ 12 → expression_with deeper d n ts ≡ Ok (a, rest) → Sound n (suc d) ts a rest
  unfolding expression_with
  expression_is n ts a rest some below h =
      by_step (prefix deeper ts) _ h (λ b mid went h. climb_is n ts (length mid) b a mid rest some below (omega arith) (prefix_is ts b mid n below went) h)

pub nested_sound : (d : ℕ) → IsSound d (nested d)
unfolding nested
nested_sound zero n ts a rest some below h = absurd cc
nested_sound (suc d) n ts a rest some below h = expression_is (nested d) d (nested_sound d) n ts a rest some below h

-- What is read as an expression is one, nests no deeper than it may, and ends where it can go on no further.
pub expression_sound : (d : ℕ) → IsSound (suc d) (expression d)
expression_sound d n ts a rest some below h = expression_is (nested d) d (nested_sound d) n ts a rest some below h
